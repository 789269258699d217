use Rattle.std.proofs.Common.{sym, ap, ◌∙◌, arith}
use Rattle.std.specs.Prelude.{◌==◌}
use Rattle.fst_player.proofs.JobLemmas.{passed_none, passed_more, passed_at, passed_all}
use Rattle.fst_player.proofs.player.done.job_at.Goals as goal

pub loop-i-init : goal.loop-i-init
loop-i-init c = passed_none c.args.jobs.now c.args.ticket.0

pub returns-then-eq : goal.returns-then-eq
returns-then-eq c =
    passed_at c.args.jobs.now c.args.ticket.0 c.loop-i.i c.index-jobs-i.result c.index-jobs-i.is (omega arith)
    (ap (λ n. n == c.args.ticket.0) (sym c.ticket.ensures) ∙ (sym c.eq.ensures ∙ c.if-eq.true)) c.loop-i.invariant

pub loop-i-preserved : goal.loop-i-preserved
loop-i-preserved c =
    passed_more c.args.jobs.now c.args.ticket.0 c.loop-i.i c.index-jobs-i.result c.index-jobs-i.is (omega arith)
    (ap (λ n. n == c.args.ticket.0) (sym c.ticket.ensures) ∙ (sym c.eq.ensures ∙ c.if-eq.false)) c.loop-i.invariant

pub returns : goal.returns
returns c = passed_all c.args.jobs.now c.args.ticket.0 c.loop-i.i (omega arith) c.loop-i.invariant
