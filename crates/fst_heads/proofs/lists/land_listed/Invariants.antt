use Rattle.fst_heads.proofs.{Basics.{◌≡◌, ◌≤◌, ◌++◌, length, take, drop, vec_capacity}, Words.{flying_on, patches_of}, Listing.flies, Passing.passing, Landing.{Landing, numbers_in}}
use Rattle.fst_heads.proofs.lists.land_listed.Given as goal

abbrev pub invariant-loop-low : goal.invariant-loop-low
invariant-loop-low l = record {
  landing : Landing l.block l.initial.heads.list.items l.heads.list.items (numbers_in l.rest);
  placed : take l.low l.queue.items ++ (passing (flies l.block) l.initial.heads.list.items l.rest ++ drop l.high l.queue.items) ≡ flying_on l.block (patches_of l.initial.heads.list.items);
  long : length l.queue.items ≡ l.fn.standing.flying;
  ends : (l.low ≤ l.high) × (l.high ≤ l.fn.standing.flying);
  capacity : vec_capacity l.queue ≡ vec_capacity l.initial.queue;
}

abbrev pub decreases-loop-low : goal.decreases-loop-low
decreases-loop-low l = length l.rest
