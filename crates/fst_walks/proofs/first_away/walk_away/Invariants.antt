use Rattle.std.proofs.Common.{◌-◌, length}
use Rattle.fst_heads.specs.Heads.{patches_of}
use Rattle.fst_walks.specs.{BothEnds.StepsAway, Descending.Visited}
use Rattle.fst_levels.specs.{Leveling.{hard_over_of, level_of}, Walks.numbers_met}
use Rattle.fst_walks.proofs.Ascended.{Climbing}
use Rattle.fst_walks.proofs.first_away.walk_away.Given as goal

abbrev pub invariant-loop-at : goal.invariant-loop-at
invariant-loop-at l = record {
  visited : Visited l.sight.heads.now.list.items l.walk;
  climbing : Climbing (StepsAway (patches_of l.sight.heads.now.list.items) (hard_over_of l.sight.levels.now.ranks) (level_of l.sight.levels.now.ranks) l.least l.block) (numbers_met l.sight.heads.now.list.items l.initial.walk) l.at (numbers_met l.sight.heads.now.list.items l.walk);
}

abbrev pub decreases-loop-at : goal.decreases-loop-at
decreases-loop-at l = length l.sight.heads.now.list.items - l.at
