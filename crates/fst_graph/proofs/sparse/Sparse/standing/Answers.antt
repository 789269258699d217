use Rattle.std.proofs.Common.{arith}
use Rattle.fst_graph.proofs.Sound.{view_long}
use Rattle.fst_graph.proofs.sparse.Sparse.standing.Goals as goal

pub overflow_sub-result : goal.overflow_sub-result
overflow_sub-result c = let long = view_long c.self.invariant in omega (arith, long, c.len.ensures, c.self.inside.columns.heads.list.ok.0)

pub returns : goal.returns
returns c = let long = view_long c.self.invariant in rw (← c.self.view_is) (omega (arith, long, c.len.ensures, c.self.inside.columns.heads.list.ok.0))
