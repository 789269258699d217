use Rattle.std.proofs.Common.{◌≤◌, ◌<◌, ℕ, get_or, Contains}
use Rattle.fst_levels.specs.Walks.{numbers_met}
use Rattle.fst_walks.proofs.ends.meets.Given as goal

abbrev pub invariant-loop-at : goal.invariant-loop-at
invariant-loop-at l = (k : ℕ) → l.from ≤ k → k < l.at → Contains (numbers_met l.sight.heads.now.list.items l.other) (get_or (numbers_met l.sight.heads.now.list.items l.walk) k 0) → ⊥
