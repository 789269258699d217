use Rattle.std.proofs.Common.{◌≡◌, ◌-◌, ◌≤◌, length}
use Rattle.fst_heads.specs.{Heads.patches_of, Indices.PassesAt}
use Rattle.fst_walks.specs.{BothEnds.StepsLow, Descending.Visited}
use Rattle.fst_levels.specs.{Leveling.level_of, Walks.numbers_met}
use Rattle.fst_walks.proofs.Ascended.{Walking}
use Rattle.fst_heads.specs.declared.test.Test.TheVariants as test
use Rattle.fst_walks.proofs.lift.climb_low.Given as goal

abbrev pub invariant-loop-at : goal.invariant-loop-at
invariant-loop-at l = record {
  visited : Visited l.sight.heads.now.list.items l.walk;
  room : l.walk.room ≡ l.initial.walk.room;
  walking : Walking (StepsLow (patches_of l.sight.heads.now.list.items) (level_of l.sight.levels.now.ranks) l.most l.initial.crossed)
      (λ c q. PassesAt (test.LiveOn c) (patches_of l.sight.heads.now.list.items) q × (level_of l.sight.levels.now.ranks q ≤ l.most)) l.initial.crossed (numbers_met l.sight.heads.now.list.items l.initial.walk) l.at l.crossed (numbers_met l.sight.heads.now.list.items l.walk);
}

abbrev pub decreases-loop-at : goal.decreases-loop-at
decreases-loop-at l = length l.sight.heads.now.list.items - l.at
