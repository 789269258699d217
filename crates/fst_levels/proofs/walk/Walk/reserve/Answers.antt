use Rattle.std.proofs.Common.{arith}
use Rattle.fst_levels.proofs.Trails.{met_few}
use Rattle.fst_levels.proofs.walk.Walk.reserve.Goals as goal

pub overflow_sub-room : goal.overflow_sub-room
overflow_sub-room c =
    let few = met_few c.self.inside.marks.items c.self.inside.met.items c.self.invariant.marked c.self.invariant.once in
    omega (arith, few, c.len.ensures, c.len-2.ensures, c.self.inside.marks.ok.0, c.self.inside.met.ok.0)
