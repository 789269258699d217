use Rattle.std.proofs.Common.{◌+◌}
use Rattle.fst_graph.proofs.Readied.{seen_for, for_seen}
use Rattle.fst_graph.proofs.sparse.Sparse.is_prepared.Goals as goal

pub returns-in-Some : goal.returns-in-Some
returns-in-Some c =
    let n = c.self.inside.numbers in
    let p = c.in-Some.prepared in
    rw (← c.self.view_is, c.in-Some.is)
    (λ e. (n + 1, p.told.grade, seen_for n p c.args.block.0 c.args.span c.args.after.now (c.is_for.ensures.0 e)), λ h. c.is_for.ensures.1 (for_seen n p c.args.block.0 c.args.span c.args.after.now h.0 h.1 h.2))
