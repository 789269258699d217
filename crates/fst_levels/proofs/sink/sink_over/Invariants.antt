use Rattle.std.proofs.Common.{◌≡◌, ◌-◌, length}
use Rattle.fst_heads.specs.Heads.{patches_of}
use Rattle.fst_levels.specs.Leveling.{IsLeveled}
use Rattle.fst_levels.proofs.sink.sink_over.Given as goal

abbrev pub invariant-loop-at : goal.invariant-loop-at
invariant-loop-at l = record {
  leveled : IsLeveled (patches_of l.heads.list.items) (length l.initial.levels.floors) l.levels;
  ranks : length l.levels.ranks ≡ length l.initial.levels.ranks;
  places : l.levels.room ≡ l.initial.levels.room;
  long : length l.walk.marks ≡ length l.heads.list.items;
  room : l.walk.room ≡ l.initial.walk.room;
}

abbrev pub decreases-loop-at : goal.decreases-loop-at
decreases-loop-at l = length l.heads.list.items - l.at
