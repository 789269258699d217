use Rattle.fst_player.proofs.TellLemmas.{Obeyed-stat}
use Rattle.fst_player.proofs.player.Player.stat.Goals as goal

pub returns : goal.returns
returns g c = rw (← c.self.view_is) (Obeyed-stat _ _ _ _ _ c.stat.ensures c.send_stat.ensures)
