use Rattle.std.proofs.Common.{◌≤◌, ◌<◌, ℕ, get_or}
use Rattle.fst_heads.specs.{Heads.patches_of, Indices.PassesAt}
use Rattle.fst_heads.specs.declared.test.Test.TheVariants as test
use Rattle.fst_levels.specs.Walks.{numbers_met}
use Rattle.fst_walks.proofs.below.meets_change.Given as goal

abbrev pub invariant-loop-at : goal.invariant-loop-at
invariant-loop-at l = (k : ℕ) → l.from ≤ k → k < l.at → PassesAt (test.LiveOn l.block) (patches_of l.sight.heads.now.list.items) (get_or (numbers_met l.sight.heads.now.list.items l.walk) k 0) → ⊥
