use Rattle.std.proofs.Common.{refl}
use Rattle.fst_player.proofs.AcceptedLemmas.{accepted_kept, Obeyed-accepted}
use Rattle.fst_player.proofs.GroupLemmas.{group_after_kept}
use Rattle.fst_player.proofs.player.Player.group_after.Goals as goal

pub invariant_of-self : goal.invariant_of-self
invariant_of-self g c = accepted_kept c.group_after-answer.result _ _ _ _ _ _ _ _ c.group_after-answer.ensures.step c.self.invariant (λ step. group_after_kept _ _ _ _ _ _ _ _ _ c.self.invariant step)

pub returns : goal.returns
returns g c =
    let i = c.self.inside in
    rw (← c.self.view_is) (Obeyed-accepted c.group_after-answer.result i.cache.state _ _ _ i.jobs.items i.made.items _ _ _ refl c.group_after-answer.ensures.step c.send_accepted.ensures refl (λ fault. refl))
