use Rattle.std.proofs.Common.{arith}
use Rattle.fst_graph.proofs.Forgets.{live_inside}
use Rattle.fst_graph.proofs.sparse.Sparse.forget.Goals as goal

pub overflow_sub-dropped : goal.overflow_sub-dropped
overflow_sub-dropped c = omega (arith, live_inside c.self.invariant, c.self.inside.columns.heads.list.ok.0)
