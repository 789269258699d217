use Rattle.std.proofs.Common.{take}
use Rattle.fst_levels.proofs.Trails.{Unmarking}
use Rattle.fst_levels.proofs.walk.unmark.Given as goal

abbrev pub invariant-loop-index : goal.invariant-loop-index
invariant-loop-index l = Unmarking l.initial.marks l.marks (take l.index-index l.met)
