use Rattle.std.proofs.Common.{subst, ◌≡◌, ◌∙◌, ◌+◌, IfSome}
use Rattle.fst_types.specs.Flights.{IsOut}
use Rattle.journal_calls.specs.Writing.{SendsNext}
use Rattle.journal_calls.proofs.Sends.{carried_settles, settle_keeps, writes_next}
use Rattle.journal_calls.proofs.writing.write_next.Goals as goal

pub unreachable-requires : goal.unreachable-requires
unreachable-requires g c =
    let out = subst (λ next. IfSome next (λ job. IsOut c.next_job.new.cache.state job.ticket job.block job.image)) c.in-Some.is c.in_ok-job.ensures.out in
    carried_settles _ _ _ _ _ _ _ _ _ _ c.carry.ensures.ticket c.carry.ensures.block c.carry.ensures.image out c.in-Err.ensures.step.1

pub returns-clause-one_write : goal.returns-clause-one_write
returns-clause-one_write g c =
    let sent = subst (λ next. IfSome next (λ _. c.next_job.new.cache.state.tickets ≡ c.args.cache.now.state.tickets + 1)) c.in-Some.is c.in_ok-job.ensures.ticket in
    settle_keeps _ _ _ _ _ _ _ c.in-Ok.ensures.step ∙ sent

pub returns-clause-wrote : goal.returns-clause-wrote
returns-clause-wrote g c =
    let sent = subst (λ next. IfSome next (λ job. SendsNext c.args.cache.now.state job.ticket job.block job.image c.next_job.new.cache.state)) c.in-Some.is c.in_ok-job.ensures.sent in
    writes_next _ _ _ _ _ _ _ _ _ _ _ c.carry.ensures.ticket c.carry.ensures.block c.carry.ensures.image sent c.in-Ok.ensures.step
