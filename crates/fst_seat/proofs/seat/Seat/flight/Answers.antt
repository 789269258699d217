use Rattle.std.proofs.Common.{arith}
use Rattle.std.proofs.lemmas.Grind.{common_steps}
use Rattle.fst_seat.proofs.seat.Seat.flight.Goals as goal

pub returns-after-is_some : goal.returns-after-is_some
returns-after-is_some g c = grind (arith, common_steps)
