use Rattle.std.proofs.Common.{false, refl}
use Rattle.fst_player.proofs.TellLemmas.{Obeyed-called}
use Rattle.fst_player.proofs.player.Player.choose.Goals as goal
use Rattle.fst_player.proofs.player.Player.choose.Goals.{in-Ok, in-Err}

pub returns : goal.returns
returns g c =
    elim c.match-choose.branch [
      | in-Ok w ↦
          rw (← c.self.view_is, w.writer-is, w.result-is) (Obeyed-called _ _ _ false _ _ _ _ _ _ refl w.in-Ok.ensures.step refl (rw w.deref.ensures.value at w.send_chosen.ensures))
      | in-Err w ↦ rw (← c.self.view_is, w.writer-is, w.result-is) (Obeyed-called _ _ _ false _ _ _ _ _ _ refl w.in-Err.ensures.step refl w.send_refusal.ensures)
    ]
