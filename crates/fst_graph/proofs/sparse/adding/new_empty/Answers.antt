use Rattle.std.proofs.Common.{arith}
use Rattle.fst_graph.proofs.Adding.{so_many}
use Rattle.fst_graph.proofs.sparse.adding.new_empty.Goals as goal

pub overflow_add-result : goal.overflow_add-result
overflow_add-result c =
    let some = so_many c.args.standing in
    let left = (c.in_default.ensures.clear some.0 some.1).1.1.1.0 in
    omega (arith, left)
