use Rattle.std.proofs.Common.{append_assoc}
use Rattle.fst_lines.proofs.reply.send_flight.Goals as goal

pub returns : goal.returns
returns g c = simp append_assoc (rw (← c.from.ensures) c.send_all.ensures)
