use Rattle.std.proofs.Common.{refl, ap, ◌∙◌, ◌+◌}
use Rattle.std.proofs.lemmas.Result.{err_from_is_err_and}
use Rattle.fst_cache.specs.Views.{CacheView}
use Rattle.journal_calls.specs.Writing.{retries}
use Rattle.journal_calls.proofs.Sends.{exhausted, issue_sends, retry_sends, issue_refused, retry_refused, issue_is_next, sends_next, next_refused}
use Rattle.journal_calls.proofs.writing.next_job.Goals as goal

pub returns-in_err-retry-clause-refused : goal.returns-in_err-retry-clause-refused
returns-in_err-retry-clause-refused g c =
    let p = err_from_is_err_and c.from_residual.result c.from_residual.ensures.1 in
    rw (p.1, p.2) (retry_refused _ _ _ _ c.in_err-retry.ensures.refused c.headline.ensures.lawful c.in-Some.ensures.stalled c.in_err-retry.ensures.step)

pub returns-in-Some-clause-out : goal.returns-in-Some-clause-out
returns-in-Some-clause-out g c = (retry_sends _ _ _ _ _ _ c.in_ok-retry.ensures.step).out

pub returns-in-Some-clause-ticket : goal.returns-in-Some-clause-ticket
returns-in-Some-clause-ticket g c = (retry_sends _ _ _ _ _ _ c.in_ok-retry.ensures.step).tickets

pub returns-in_default-pick-clause-exhausted : goal.returns-in_default-pick-clause-exhausted
returns-in_default-pick-clause-exhausted g c =
    exhausted c.args.cache.now _ c.in_default-pick.ensures.same c.in_default.ensures c.in_default-pick.ensures.step c.in_default-pick.ensures.never_stuck

pub returns-in_err-issue-clause-refused : goal.returns-in_err-issue-clause-refused
returns-in_err-issue-clause-refused g c =
    let p = err_from_is_err_and c.from_residual-in_err-issue.result c.from_residual-in_err-issue.ensures.1 in
    rw (p.1, p.2) (issue_refused c.args.cache.now _ _ _ _ c.in-Some-pick.ensures.same c.in_err-issue.ensures.refused c.headline.ensures.lawful c.in-Some-pick.ensures.step c.in_err-issue.ensures.step)

pub returns-clause-out : goal.returns-clause-out
returns-clause-out g c = (issue_sends _ _ _ _ _ _ c.in_ok-issue.ensures.step).out

pub returns-clause-ticket : goal.returns-clause-ticket
returns-clause-ticket g c = (issue_sends _ _ _ _ _ _ c.in_ok-issue.ensures.step).tickets ∙ ap (λ (v : CacheView). v.state.tickets + 1) c.in-Some-pick.ensures.same

pub returns-in-Some-clause-sent : goal.returns-in-Some-clause-sent
returns-in-Some-clause-sent g c = record { event = _; next = retries c.in-Some.ensures; step = c.in_ok-retry.ensures.step }

pub returns-in_err-retry-clause-next : goal.returns-in_err-retry-clause-next
returns-in_err-retry-clause-next g c =
    let p = err_from_is_err_and c.from_residual.result c.from_residual.ensures.1 in
    rw (p.1, p.2) (next_refused c.args.cache.now _ _ _ _ refl c.in_err-retry.ensures.refused (retries c.in-Some.ensures) c.in_err-retry.ensures.step)

pub returns-clause-sent : goal.returns-clause-sent
returns-clause-sent g c = sends_next c.args.cache.now _ _ _ _ _ _ c.in-Some-pick.ensures.same (issue_is_next _ _ _ c.in_default.ensures c.in-Some-pick.ensures.step) c.in_ok-issue.ensures.step

pub returns-in_err-issue-clause-next : goal.returns-in_err-issue-clause-next
returns-in_err-issue-clause-next g c =
    let p = err_from_is_err_and c.from_residual-in_err-issue.result c.from_residual-in_err-issue.ensures.1 in
    rw (p.1, p.2)
    (next_refused c.args.cache.now _ _ _ _ c.in-Some-pick.ensures.same c.in_err-issue.ensures.refused (issue_is_next _ _ _ c.in_default.ensures c.in-Some-pick.ensures.step) c.in_err-issue.ensures.step)
