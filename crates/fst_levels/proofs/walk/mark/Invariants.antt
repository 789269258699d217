use Rattle.std.proofs.Common.{take}
use Rattle.fst_levels.specs.Walks.{AreMarked}
use Rattle.fst_levels.proofs.walk.mark.Given as goal

abbrev pub invariant-loop-index : goal.invariant-loop-index
invariant-loop-index l = AreMarked l.marks (take l.index-index l.met)
