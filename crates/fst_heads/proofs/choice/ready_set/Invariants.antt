use Rattle.fst_heads.proofs.{Basics.{◌≡◌, ◌++◌, ◌≤◌, length, reverse}, Words.{is_ready_on, ready_on, numbers_of, nodes_of}, Passing.passing}
use Rattle.fst_heads.proofs.choice.ready_set.Given as goal

abbrev pub invariant-loop-left : goal.invariant-loop-left
invariant-loop-left l = record {
  found : numbers_of l.front.items ++ (passing (is_ready_on l.block) l.heads.list.items l.rest ++ reverse (numbers_of l.back.items)) ≡ ready_on l.block (nodes_of l.heads.list.items);
  few : length (passing (is_ready_on l.block) l.heads.list.items l.rest) ≤ l.left;
}

abbrev pub decreases-loop-left : goal.decreases-loop-left
decreases-loop-left l = length l.rest
