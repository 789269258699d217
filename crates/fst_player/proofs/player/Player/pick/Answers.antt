use Rattle.std.proofs.Common.{false, refl}
use Rattle.fst_player.proofs.TellLemmas.{Obeyed-called}
use Rattle.fst_player.proofs.player.Player.pick.Goals as goal

pub returns : goal.returns
returns g c = rw (← c.self.view_is) (Obeyed-called _ _ _ false _ _ _ _ _ _ refl c.pick-block.ensures.step refl c.send_pick.ensures)
