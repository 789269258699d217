use Rattle.std.proofs.Common.{◌≡◌, ◌+◌}
use Rattle.fst_crew.proofs.crews.files.rounds_of.Given as goal

abbrev pub invariant-loop-round : goal.invariant-loop-round
invariant-loop-round g l = l.share ≡ l.fn.share + l.round
