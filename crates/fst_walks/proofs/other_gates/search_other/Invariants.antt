use Rattle.std.proofs.Common.{◌-◌, ◌<◌, ℕ, Some, get_or, length}
use Rattle.fst_heads.specs.{Grading.IsOpenBut, Heads.patches_of, Nodes.{nodes_of, pending_in}}
use Rattle.fst_walks.specs.{Descending.Visited, Searching.IsNextHeld}
use Rattle.fst_levels.specs.Walks.{numbers_met}
use Rattle.fst_walks.proofs.Ascended.{Climbing}
use Rattle.fst_walks.proofs.other_gates.search_other.Given as goal

-- none of those that were looked at is another open gate
abbrev pub invariant-loop-at : goal.invariant-loop-at
invariant-loop-at l = record {
  visited : Visited l.sight.heads.now.list.items l.walk;
  climbing : Climbing (IsNextHeld (patches_of l.sight.heads.now.list.items) (pending_in (nodes_of l.sight.heads.now.list.items))) (numbers_met l.sight.heads.now.list.items l.initial.walk) l.at (numbers_met l.sight.heads.now.list.items l.walk);
  none : (j : ℕ) → j < l.at → j < length (numbers_met l.sight.heads.now.list.items l.walk) → IsOpenBut (patches_of l.sight.heads.now.list.items) (Some l.gate) (get_or (numbers_met l.sight.heads.now.list.items l.walk) j 0) → ⊥;
}

abbrev pub decreases-loop-at : goal.decreases-loop-at
decreases-loop-at l = length l.sight.heads.now.list.items - l.at
