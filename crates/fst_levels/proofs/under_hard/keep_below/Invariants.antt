use Rattle.std.proofs.Common.{◌≡◌, length}
use Rattle.fst_heads.specs.Heads.{patches_of}
use Rattle.fst_levels.specs.{Ancestors.LieUnder, Leveling.IsLeveled, Walks.numbers_met}
use Rattle.fst_levels.proofs.under_hard.keep_below.Given as goal

abbrev pub invariant-loop-number : goal.invariant-loop-number
invariant-loop-number l = record {
  leveled : IsLeveled (patches_of l.heads.list.items) (length l.initial.levels.floors) l.levels;
  ranks : length l.levels.ranks ≡ length l.initial.levels.ranks;
  places : l.levels.room ≡ l.initial.levels.room;
  long : length l.walk.marks ≡ length l.heads.list.items;
  room : l.walk.room ≡ l.initial.walk.room;
  below : LieUnder (patches_of l.heads.list.items) l.top.number (numbers_met l.heads.list.items l.walk);
}
