use Rattle.std.proofs.Common.{◌≡◌, ◌≤◌, ◌+◌, ◌-◌, length}
use Rattle.fst_heads.specs.{Heads.patches_of, Nodes.{nodes_of, pending_in}}
use Rattle.fst_walks.specs.Searching.{IsNextAbove, IsNextHeld, StandApart}
use Rattle.fst_levels.specs.Walks.{numbers_met}
use Rattle.fst_walks.proofs.Ascended.{Climbing}
use Rattle.fst_walks.proofs.cycle.walks_meet.Given as goal

abbrev pub invariant-loop-up : goal.invariant-loop-up
invariant-loop-up l = record {
  apart : StandApart l.sight.heads.now.list.items l.ends.up.walk l.ends.down.walk;
  climbs : Climbing (IsNextAbove (patches_of l.sight.heads.now.list.items) (pending_in (nodes_of l.sight.heads.now.list.items))) (numbers_met l.sight.heads.now.list.items l.initial.ends.up.walk) l.up.at (numbers_met l.sight.heads.now.list.items l.ends.up.walk);
  descends : Climbing (IsNextHeld (patches_of l.sight.heads.now.list.items) (pending_in (nodes_of l.sight.heads.now.list.items))) (numbers_met l.sight.heads.now.list.items l.initial.ends.down.walk) l.down.at (numbers_met l.sight.heads.now.list.items l.ends.down.walk);
  crossed : (l.ends.up.crossed ≡ l.initial.ends.up.crossed) × (l.ends.down.crossed ≡ l.initial.ends.down.crossed);
  up_deep : l.up.deep ≤ length l.ends.up.walk.met;
  down_deep : l.down.deep ≤ length l.ends.down.walk.met;
  few_up : l.up.at ≤ length l.sight.heads.now.list.items;
  few_down : l.down.at ≤ length l.sight.heads.now.list.items;
}

abbrev pub decreases-loop-up : goal.decreases-loop-up
decreases-loop-up l = (length l.sight.heads.now.list.items - l.up.at) + (length l.sight.heads.now.list.items - l.down.at)
