use Rattle.std.proofs.Common.{take, Contains}
use Rattle.fst_heads.specs.Heads.{patches_of}
use Rattle.fst_walks.specs.{BothEnds.IsHigh, Descending.{Visited, Visits}}
use Rattle.fst_levels.specs.{Leveling.level_of, Walks.numbers_met}
use Rattle.fst_walks.proofs.way_down.visit_high_needs.Given as goal

-- the first of the needs are visited
abbrev pub invariant-loop-need : goal.invariant-loop-need
invariant-loop-need l = record {
  visited : Visited l.sight.heads.now.list.items l.walk;
  visits : Visits (λ n. Contains (take l.need-index l.needs) n × IsHigh (patches_of l.sight.heads.now.list.items) (level_of l.sight.levels.now.ranks) l.least n) (numbers_met l.sight.heads.now.list.items l.initial.walk) (numbers_met l.sight.heads.now.list.items l.walk);
}
