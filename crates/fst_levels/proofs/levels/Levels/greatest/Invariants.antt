use Rattle.std.proofs.Common.{ℕ, ◌<◌, ◌≤◌, get_or}
use Rattle.fst_levels.specs.Leveling.{level_of}
use Rattle.fst_levels.proofs.levels.Levels.greatest.Given as goal

abbrev pub invariant-loop-number : goal.invariant-loop-number
invariant-loop-number l = (j : ℕ) → j < l.number-index → level_of l.self.ranks (get_or l.row j 0) ≤ l.most
