use Rattle.std.proofs.Common.{◌≡◌, ℕ, Contains, length}
use Rattle.fst_heads.specs.Heads.{patches_of}
use Rattle.fst_walks.specs.{BothEnds.{IsOver, StepsHigh}, Descending.{IsLedFrom, Visited}}
use Rattle.fst_levels.specs.{Leveling.level_of, Needing.needs_of, Walks.numbers_met}
use Rattle.fst_walks.proofs.skim.skim.Given as goal

-- all that was met is led to from what was met at first
abbrev pub invariant-loop-at : goal.invariant-loop-at
invariant-loop-at l = record {
  down : IsOver l.sight.heads.now.list.items (length l.sight.lists.now) l.down;
  visited : Visited l.sight.heads.now.list.items l.down.walk;
  crossed : l.down.crossed.items ≡ l.initial.down.crossed.items;
  led : (n : ℕ) → Contains (numbers_met l.sight.heads.now.list.items l.down.walk) n → IsLedFrom (StepsHigh (patches_of l.sight.heads.now.list.items) (level_of l.sight.levels.now.ranks) l.least (needs_of l.sight.needs.now.lists) l.initial.down.crossed.items) (numbers_met l.sight.heads.now.list.items l.initial.down.walk) n;
}
