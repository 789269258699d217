use Rattle.std.proofs.Common.{refl}
use Rattle.fst_types.specs.Residence.{faults_rose}
use Rattle.fst_player.proofs.ChangeLemmas.{asked_kept, Obeyed-asked}
use Rattle.fst_player.proofs.KeptLemmas.{change_kept}
use Rattle.fst_player.proofs.player.Player.patch.Goals as goal

pub invariant_of-self : goal.invariant_of-self
invariant_of-self g c =
    asked_kept c.patch-answer.result _ _ _ _ _ _ _ _ _ _ _ _ _ c.patch-answer.ensures.step c.patch-answer.ensures.share c.with-self-inside.ensures c.self.invariant
    (λ number grade one. change_kept _ _ _ _ _ _ _ _ _ _ _ _ _ grade c.self.invariant one)

pub returns : goal.returns
returns g c =
    let i = c.self.inside in
    let step = rw c.self.invariant.counted at c.patch-answer.ensures.step in
    rw (← c.self.view_is)
    (Obeyed-asked c.patch-answer.result i.cache.state _ _ (faults_rose i.cache.faults c.patch-answer.new.self.faults c.args.block.0) _ i.jobs.items i.made.items _ _ _ _ _ _ _ refl step c.with-self-inside.ensures c.send_made.ensures
    (λ number grade. refl) (λ fault. refl))
