use Rattle.std.proofs.Common.{refl}
use Rattle.fst_player.proofs.TellLemmas.{Obeyed-called}
use Rattle.fst_player.proofs.player.Player.show.Goals as goal
use Rattle.fst_player.proofs.player.Player.show.Goals.{in-Ok, in-Err}

pub returns : goal.returns
returns g c =
    elim c.match-show.branch [
      | in-Ok w ↦
          let after = rw w.in-Ok.is at c.show.follows.holds-at-none in
          rw (← c.self.view_is, w.writer-is, w.result-is, w.self-inside-is) (Obeyed-called _ _ _ _ _ _ _ _ _ _ refl after.2 refl w.send_show.ensures)
      | in-Err w ↦
          let after = rw w.in-Err.is at c.show.follows.holds-at-none in
          rw (← c.self.view_is, w.writer-is, w.result-is, w.self-inside-is) (Obeyed-called _ _ _ _ _ _ _ _ _ _ refl after.2 refl w.send_refusal.ensures)
    ]
