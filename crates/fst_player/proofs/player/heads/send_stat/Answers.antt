use Rattle.std.proofs.Common.{append_assoc}
use Rattle.fst_player.proofs.player.heads.send_stat.Goals as goal

pub returns : goal.returns
returns g c = simp append_assoc (rw (← c.from.ensures, ← c.from-2.ensures) c.send_all.ensures)
