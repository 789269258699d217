use Rattle.fst_player.proofs.TellLemmas.{Obeyed-place}
use Rattle.fst_player.proofs.player.Player.place.Goals as goal

pub returns : goal.returns
returns g c = rw (← c.self.view_is) (Obeyed-place _ _ _ _ _ (rw c.place.ensures at c.send_place.ensures))
