use Rattle.std.proofs.Common.{refl}
use Rattle.fst_player.proofs.AnswerLemmas.{Obeyed-memory}
use Rattle.fst_player.proofs.GivenLemmas.{retried_kept, retried_out, Obeyed-given}
use Rattle.fst_player.proofs.player.Player.retry.Goals as goal

pub returns-then-is_err : goal.returns-then-is_err
returns-then-is_err g c = rw (← c.self.view_is, c.try_reserve.ensures.items) (Obeyed-memory _ _ _ _ _ c.send_refusal.ensures)

pub invariant_of-self : goal.invariant_of-self
invariant_of-self g c = rw c.try_reserve.ensures.items c.self.invariant

pub keep_job-requires-clause-out : goal.keep_job-requires-clause-out
keep_job-requires-clause-out g c = retried_out c.retry-given.result _ _ _ c.retry-given.ensures.step

pub invariant_of-self-2 : goal.invariant_of-self-2
invariant_of-self-2 g c = retried_kept c.retry-given.result _ _ _ _ _ _ _ _ _ c.self.invariant c.retry-given.ensures.step (rw c.try_reserve.ensures.items at c.keep_job.ensures.kept)

pub returns : goal.returns
returns g c =
    let i = c.self.inside in
    rw (← c.self.view_is)
    (Obeyed-given c.retry-given.result i.cache.state _ _ _ i.jobs.items _ i.made.items _ _ _ refl c.retry-given.ensures.step (rw c.try_reserve.ensures.items at c.keep_job.ensures.kept) c.keep_job.ensures.told
    (λ job. refl) (λ fault. refl))
