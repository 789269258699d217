use Rattle.std.proofs.Common.{arith}
use Rattle.std.proofs.lemmas.Grind.{common_steps}
use Rattle.fst_walks.proofs.lift.rise_of.Goals as goal

pub returns-then-eq-clause-rise : goal.returns-then-eq-clause-rise
returns-then-eq-clause-rise c = grind (arith, common_steps)

pub returns-clause-long : goal.returns-clause-long
returns-clause-long c = grind (arith, common_steps)

pub returns-clause-room : goal.returns-clause-room
returns-clause-room c = grind (arith, common_steps)

pub returns-clause-rise : goal.returns-clause-rise
returns-clause-rise c = grind (arith, common_steps)

pub returns-then-eq-clause-long : goal.returns-then-eq-clause-long
returns-then-eq-clause-long c = grind (arith, common_steps)

pub returns-then-eq-clause-room : goal.returns-then-eq-clause-room
returns-then-eq-clause-room c = grind (arith, common_steps)
