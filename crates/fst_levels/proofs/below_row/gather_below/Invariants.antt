use Rattle.std.proofs.Common.{ℕ}
use Rattle.fst_heads.specs.Heads.{patches_of}
use Rattle.fst_levels.specs.Needing.{IsAtOrUnder, IsGathered}
use Rattle.fst_levels.proofs.below_row.gather_below.Given as goal

-- all that was gathered is at or under the row
abbrev pub invariant-loop-number : goal.invariant-loop-number
invariant-loop-number l = (n : ℕ) → IsGathered l.below n → IsAtOrUnder (patches_of l.heads.list.items) l.row n

abbrev pub invariant-loop : goal.invariant-loop
invariant-loop l = (n : ℕ) → IsGathered l.below n → IsAtOrUnder (patches_of l.heads.list.items) l.row n
