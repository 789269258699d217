use Rattle.std.proofs.Common.{◌⊎◌, ℕ, Contains}
use Rattle.fst_heads.specs.Heads.{patches_of}
use Rattle.fst_walks.specs.{BothEnds.IsHighNeed, Descending.Visited}
use Rattle.fst_levels.specs.{Leveling.level_of, Needing.needs_of, Walks.numbers_met}
use Rattle.fst_walks.proofs.skim.visit_newest_needs.Given as goal

-- besides what was met only needs of the block are
abbrev pub invariant-loop-turn : goal.invariant-loop-turn
invariant-loop-turn l = record {
  visited : Visited l.sight.heads.now.list.items l.walk;
  only : (n : ℕ) → Contains (numbers_met l.sight.heads.now.list.items l.walk) n → Contains (numbers_met l.sight.heads.now.list.items l.initial.walk) n ⊎ IsHighNeed (patches_of l.sight.heads.now.list.items) (level_of l.sight.levels.now.ranks) l.least (needs_of l.sight.needs.now.lists) l.block n;
}
