use Rattle.std.proofs.Common.{arith}
use Rattle.std.proofs.lemmas.Grind.{common_steps}
use Rattle.fst_seat.proofs.seat.Seat.settle.Goals as goal

pub returns-else-is_lost-clause-failed : goal.returns-else-is_lost-clause-failed
returns-else-is_lost-clause-failed g c = grind (arith, common_steps)

pub returns-else-is_lost-clause-lost : goal.returns-else-is_lost-clause-lost
returns-else-is_lost-clause-lost g c = grind (arith, common_steps)
