use Rattle.std.proofs.Common.{◌≡◌, ◌≤◌, ◌+◌, length, take}
use Rattle.fst_heads.specs.Heads.{patches_of}
use Rattle.fst_types.specs.declared.grade.Grade.TheVariants as grade
use Rattle.fst_levels.specs.Needing.{IsPut}
use Rattle.fst_levels.proofs.needs.Needs.put.Given as goal

-- the first of the row are put
abbrev pub invariant-loop-number : goal.invariant-loop-number
invariant-loop-number l = record {
  block : l.self.block ≡ l.fn.self.block;
  room : length l.row ≤ l.self.room + l.number-index;
  put : IsPut (patches_of l.heads.list.items) l.fn.self.block (take l.number-index l.row) grade.Hard l.fn.self.lists l.self.lists;
  ways : l.self.ways ≡ l.fn.self.ways;
}
