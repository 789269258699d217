use Rattle.std.proofs.Common.{rules}
use Rattle.fst_seat.proofs.seat.Seat.load.Goals as goal

pub returns-clause-loaded : goal.returns-clause-loaded
returns-clause-loaded g c = search rules
