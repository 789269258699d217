use Rattle.std.proofs.Common.{◌≡◌, length}
use Rattle.fst_heads.specs.Heads.{patches_of}
use Rattle.fst_levels.specs.Leveling.{IsLeveled}
use Rattle.fst_levels.proofs.sink.sink_dependants.Given as goal

abbrev pub invariant-loop-over : goal.invariant-loop-over
invariant-loop-over l = record {
  leveled : IsLeveled (patches_of l.heads.list.items) (length l.initial.levels.floors) l.levels;
  ranks : length l.levels.ranks ≡ length l.initial.levels.ranks;
  places : l.levels.room ≡ l.initial.levels.room;
  long : length l.walk.marks ≡ length l.heads.list.items;
  room : l.walk.room ≡ l.initial.walk.room;
}
