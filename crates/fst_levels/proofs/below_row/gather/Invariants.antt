use Rattle.std.proofs.Common.{◌⊎◌, ℕ, Contains}
use Rattle.fst_levels.specs.Needing.{IsGathered}
use Rattle.fst_levels.proofs.below_row.gather.Given as goal

-- nothing else joined
abbrev pub invariant-loop-number : goal.invariant-loop-number
invariant-loop-number l = (n : ℕ) → IsGathered l.below n → IsGathered l.initial.below n ⊎ Contains l.row n
