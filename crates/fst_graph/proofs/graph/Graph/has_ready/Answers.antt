use Rattle.fst_graph.proofs.WholeCalls.{none_fly, ready_is, ready_was}
use Rattle.fst_graph.proofs.graph.Graph.has_ready.Goals as goal

pub returns : goal.returns
returns c =
    let rows = c.self.inside.rows.items in
    let sparse = c.self.inside.sparse in
    let W = c.self.invariant.whole in
    let b = c.args.block.0 in
    rw (← c.self.view_is) (λ rest.
    let k = c.has_ready.ensures (none_fly rows sparse W b rest) in
    (λ told. ready_is rows sparse W b (k.0 told), λ ready. k.1 (ready_was rows sparse W b ready)))
