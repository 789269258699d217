use Rattle.std.proofs.Common.{arith}
use Rattle.fst_levels.proofs.Trails.{met_few}
use Rattle.fst_levels.proofs.walk.Walk.len.Goals as goal

pub returns-clause-few : goal.returns-clause-few
returns-clause-few c =
    let few = met_few c.self.inside.marks.items c.self.inside.met.items c.self.invariant.marked c.self.invariant.once in
    rw (← c.self.view_is) (omega (arith, few, c.len.ensures, c.self.inside.met.ok.0))
