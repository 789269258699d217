use Rattle.std.proofs.Common.{arith}
use Rattle.std.proofs.lemmas.Grind.{common_steps}
use Rattle.fst_levels.proofs.walk.Walk.clear.Goals as goal

pub returns-clause-long : goal.returns-clause-long
returns-clause-long c = grind (arith, common_steps)

pub returns-clause-met : goal.returns-clause-met
returns-clause-met c = grind (arith, common_steps)

pub returns-clause-room : goal.returns-clause-room
returns-clause-room c = grind (arith, common_steps)

pub invariant_of-self : goal.invariant_of-self
invariant_of-self c = grind (arith, common_steps)
