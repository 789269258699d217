use Rattle.std.proofs.Common.{refl}
use Rattle.fst_types.specs.Residence.{faults_rose}
use Rattle.fst_player.proofs.ChangeLemmas.{asked_kept, Obeyed-asked}
use Rattle.fst_player.proofs.GroupLemmas.{group_patch_kept}
use Rattle.fst_player.proofs.player.Player.group_patch.Goals as goal

pub invariant_of-self : goal.invariant_of-self
invariant_of-self g c =
    asked_kept c.group_patch-answer.result _ _ _ _ _ _ _ _ _ _ _ _ _ c.group_patch-answer.ensures.step c.group_patch-answer.ensures.share c.with-self-inside.ensures c.self.invariant
    (λ number grade one. group_patch_kept _ _ _ _ _ _ _ _ _ _ _ _ _ grade c.self.invariant one)

pub returns : goal.returns
returns g c =
    let i = c.self.inside in
    let step = rw c.self.invariant.counted at c.group_patch-answer.ensures.step in
    rw (← c.self.view_is)
    (Obeyed-asked c.group_patch-answer.result i.cache.state _ _ (faults_rose i.cache.faults c.group_patch-answer.new.self.faults c.args.block.0) _ i.jobs.items i.made.items _ _ _ _ _ _ _ refl step c.with-self-inside.ensures c.send_made.ensures
    (λ number grade. refl) (λ fault. refl))
