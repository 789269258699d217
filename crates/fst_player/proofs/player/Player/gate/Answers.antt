use Rattle.std.proofs.Common.{false, refl}
use Rattle.fst_player.proofs.KeptLemmas.{gate_kept, refused_same}
use Rattle.fst_player.proofs.TellLemmas.{Obeyed-called}
use Rattle.fst_player.proofs.player.Player.gate.Goals as goal
use Rattle.fst_player.proofs.player.Player.gate.Goals.{in-Ok, in-Err}

pub invariant_of-self : goal.invariant_of-self
invariant_of-self g c =
    elim c.match-gate.branch [
      | in-Ok w ↦ rw w.in-Ok.ensures.share (gate_kept _ _ _ _ _ _ _ _ c.self.invariant w.in-Ok.ensures.step)
      | in-Err w ↦ rw (w.in-Err.ensures.share, refused_same _ _ _ _ w.in-Err.ensures.step) c.self.invariant
    ]

pub returns : goal.returns
returns g c =
    elim c.match-gate.branch [
      | in-Ok w ↦
          rw (← c.self.view_is, w.writer-is, w.result-is)
          (Obeyed-called _ _ _ false _ _ _ _ _ _ refl (rw c.self.invariant.counted at w.in-Ok.ensures.step) refl w.send_numbered.ensures)
      | in-Err w ↦
          rw (← c.self.view_is, w.writer-is, w.result-is)
          (Obeyed-called _ _ _ false _ _ _ _ _ _ refl (rw c.self.invariant.counted at w.in-Err.ensures.step) refl w.send_refusal.ensures)
    ]
