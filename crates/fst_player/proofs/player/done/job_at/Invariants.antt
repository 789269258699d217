use Rattle.fst_player.proofs.JobLemmas.{Passed}
use Rattle.fst_player.proofs.player.done.job_at.Given as goal

abbrev pub invariant-loop-i : goal.invariant-loop-i
invariant-loop-i l = Passed l.jobs l.ticket.0 l.i
