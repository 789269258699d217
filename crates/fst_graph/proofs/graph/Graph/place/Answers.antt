use Rattle.std.proofs.Common.{◌∙◌}
use Rattle.fst_graph.proofs.WholeCalls.{place_whole}
use Rattle.fst_graph.proofs.graph.Graph.place.Goals as goal

pub returns : goal.returns
returns c = rw (← c.self.view_is) (c.place.ensures ∙ place_whole c.self.inside.rows.items c.self.inside.sparse.heads c.self.inside.sparse.numbers c.args.no.0)
