use Rattle.std.proofs.Common.{take}
use Rattle.fst_heads.specs.Heads.{patches_of}
use Rattle.fst_levels.specs.{Lifting.IsLifted, Walks.numbers_met}
use Rattle.fst_levels.proofs.levels.Levels.lift_all.Given as goal

-- those met first are lifted
abbrev pub invariant-loop-at : goal.invariant-loop-at
invariant-loop-at l = IsLifted (patches_of l.heads.list.items) (take l.at (numbers_met l.heads.list.items l.walk)) l.to l.fn.self l.self
