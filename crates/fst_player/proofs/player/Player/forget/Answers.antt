use Rattle.std.proofs.Common.{false, refl}
use Rattle.fst_player.proofs.KeptLemmas.{forget_kept}
use Rattle.fst_player.proofs.TellLemmas.{Obeyed-called}
use Rattle.fst_player.proofs.player.Player.forget.Goals as goal

pub invariant_of-self : goal.invariant_of-self
invariant_of-self g c = forget_kept _ _ _ _ _ _ _ _ c.self.invariant c.forget-dropped.ensures.step

pub returns : goal.returns
returns g c = rw (← c.self.view_is) (Obeyed-called _ _ _ false _ _ _ _ _ _ refl c.forget-dropped.ensures.step refl c.send_numbered.ensures)
