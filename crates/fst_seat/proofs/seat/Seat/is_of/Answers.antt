use Rattle.std.proofs.Common.{rules}
use Rattle.fst_seat.proofs.seat.Seat.is_of.Goals as goal

pub returns-then-eq : goal.returns-then-eq
returns-then-eq g c = search rules
