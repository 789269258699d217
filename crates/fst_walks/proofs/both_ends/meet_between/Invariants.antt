use Rattle.std.proofs.Common.{◌≤◌, ◌+◌, ◌-◌, length}
use Rattle.fst_heads.specs.{Heads.patches_of}
use Rattle.fst_walks.specs.{BothEnds.{AreApart, IsHighNeed, IsLowChange, IsOver, StepsHigh, StepsLow}, Descending.Visited}
use Rattle.fst_levels.specs.{Leveling.level_of, Needing.needs_of, Walks.numbers_met}
use Rattle.fst_walks.proofs.Ascended.{Walking}
use Rattle.fst_walks.proofs.both_ends.meet_between.Given as goal

abbrev pub invariant-loop-up_at : goal.invariant-loop-up_at
invariant-loop-up_at l = record {
  up : IsOver l.sight.heads.now.list.items (length l.sight.lists.now) l.ends.up;
  down : IsOver l.sight.heads.now.list.items (length l.sight.lists.now) l.ends.down;
  visited_up : Visited l.sight.heads.now.list.items l.ends.up.walk;
  visited_down : Visited l.sight.heads.now.list.items l.ends.down.walk;
  apart : AreApart (numbers_met l.sight.heads.now.list.items l.ends.up.walk) (numbers_met l.sight.heads.now.list.items l.ends.down.walk);
  climbs : Walking (StepsLow (patches_of l.sight.heads.now.list.items) (level_of l.sight.levels.now.ranks) l.most l.initial.ends.up.crossed.items) (IsLowChange (patches_of l.sight.heads.now.list.items) (level_of l.sight.levels.now.ranks) l.most) l.initial.ends.up.crossed.items (numbers_met l.sight.heads.now.list.items l.initial.ends.up.walk) l.up_at l.ends.up.crossed.items (numbers_met l.sight.heads.now.list.items l.ends.up.walk);
  descends : Walking (StepsHigh (patches_of l.sight.heads.now.list.items) (level_of l.sight.levels.now.ranks) l.least (needs_of l.sight.needs.now.lists) l.initial.ends.down.crossed.items) (IsHighNeed (patches_of l.sight.heads.now.list.items) (level_of l.sight.levels.now.ranks) l.least (needs_of l.sight.needs.now.lists)) l.initial.ends.down.crossed.items (numbers_met l.sight.heads.now.list.items l.initial.ends.down.walk) l.down_at l.ends.down.crossed.items (numbers_met l.sight.heads.now.list.items l.ends.down.walk);
  deep : l.deep ≤ length l.ends.down.walk.met;
  few_up : l.up_at ≤ length l.sight.heads.now.list.items;
  few_down : l.down_at ≤ length l.sight.heads.now.list.items;
}

abbrev pub decreases-loop-up_at : goal.decreases-loop-up_at
decreases-loop-up_at l = (length l.sight.heads.now.list.items - l.up_at) + (length l.sight.heads.now.list.items - l.down_at)
