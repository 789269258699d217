use Rattle.std.proofs.Common.{◌≤◌, ◌-◌, length}
use Rattle.fst_heads.specs.{Heads.patches_of}
use Rattle.fst_walks.specs.{BothEnds.{IsAwayFrom, IsHighNeed, IsOver, StepsHigh}, Descending.Visited}
use Rattle.fst_levels.specs.{Leveling.level_of, Needing.needs_of, Walks.numbers_met}
use Rattle.fst_walks.proofs.Ascended.{Walking}
use Rattle.fst_walks.proofs.below.descend.Given as goal

abbrev pub invariant-loop-at : goal.invariant-loop-at
invariant-loop-at l = record {
  down : IsOver l.sight.heads.now.list.items (length l.sight.lists.now) l.down;
  visited : Visited l.sight.heads.now.list.items l.down.walk;
  away : IsAwayFrom (patches_of l.sight.heads.now.list.items) l.block (numbers_met l.sight.heads.now.list.items l.down.walk);
  descends : Walking (StepsHigh (patches_of l.sight.heads.now.list.items) (level_of l.sight.levels.now.ranks) l.least (needs_of l.sight.needs.now.lists) l.initial.down.crossed.items) (IsHighNeed (patches_of l.sight.heads.now.list.items) (level_of l.sight.levels.now.ranks) l.least (needs_of l.sight.needs.now.lists)) l.initial.down.crossed.items (numbers_met l.sight.heads.now.list.items l.initial.down.walk) l.at l.down.crossed.items (numbers_met l.sight.heads.now.list.items l.down.walk);
  few : l.at ≤ length l.sight.heads.now.list.items;
}

abbrev pub decreases-loop-at : goal.decreases-loop-at
decreases-loop-at l = length l.sight.heads.now.list.items - l.at
