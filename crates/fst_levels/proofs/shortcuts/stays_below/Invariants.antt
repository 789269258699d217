use Rattle.std.proofs.Common.{ℕ, ◌<◌, ◌⊎◌, get_or}
use Rattle.fst_heads.specs.Heads.{patches_of}
use Rattle.fst_levels.specs.{Leveling.{floor_of, level_of}, WayBack.IsUnderHard}
use Rattle.fst_levels.proofs.shortcuts.stays_below.Given as goal

abbrev pub invariant-loop-number : goal.invariant-loop-number
invariant-loop-number l = (j : ℕ) → j < l.number-index → IsUnderHard (patches_of l.sight.heads.now.list.items) l.block (get_or l.row j 0) ⊎ (level_of l.sight.levels.now.ranks (get_or l.row j 0) < floor_of l.sight.levels.now.floors l.block)
