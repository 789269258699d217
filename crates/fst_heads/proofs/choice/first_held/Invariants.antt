use Rattle.fst_heads.proofs.{Basics.{◌≡◌, ◌++◌, ◌≤◌, ℕ, List, length}, Words.{is_held_on, held_on, nodes_of}, Passing.{passing, IsFirst}}
use Rattle.fst_heads.proofs.choice.first_held.Given as goal

abbrev pub invariant-loop-left : goal.invariant-loop-left
invariant-loop-left l = record {
  found : (later : List ℕ) × (passing (is_held_on l.block) l.heads.list.items l.rest ++ later ≡ held_on l.block (nodes_of l.heads.list.items)) × IsFirst l.least later;
  few : length (passing (is_held_on l.block) l.heads.list.items l.rest) ≤ l.left;
}

abbrev pub decreases-loop-left : goal.decreases-loop-left
decreases-loop-left l = length l.rest
