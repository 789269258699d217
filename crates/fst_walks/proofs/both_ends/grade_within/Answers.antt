use Rattle.std.proofs.Common.{◌≤◌, ℕ, Contains, subst, arith}
use Rattle.std.proofs.lemmas.Option.{MatchOption-at_none, MatchOption-at_some}
use Rattle.fst_heads.specs.{Grading.LeadsNowhere, Heads.patches_of}
use Rattle.fst_walks.specs.{BothEnds.IsLowChange, Descending.Visits}
use Rattle.fst_levels.specs.{Leveling.{floor_of, hard_over_of, level_of}, Needing.needs_of, Walks.numbers_met}
use Rattle.fst_walks.proofs.{Meeting.{AreEnds, apart_hard, begin_apart, none_first, together_live, together_soft, traced_back, visited_all}, Told.{told_hard, told_soft}, Visiting.{some_both}}
use Rattle.fst_levels.proofs.MetNumbers.{long_met, none_met}
use Rattle.fst_walks.proofs.both_ends.grade_within.Goals.{After-visit_low_changes}
use Rattle.fst_walks.proofs.both_ends.grade_within.Goals as goal

-- the two walks start as they should
starts : (c : After-visit_low_changes)
    → AreEnds (patches_of c.args.sight.now.heads.now.list.items) (level_of c.args.sight.now.levels.now.ranks) (hard_over_of c.args.sight.now.levels.now.ranks) c.highest-most.result c.floor-least.result c.args.block c.args.row.now c.cross_only-2.new.self.crossed.items c.cross_only.new.self.crossed.items
    (numbers_met c.args.sight.now.heads.now.list.items c.visit_low_changes.new.walk) (numbers_met c.args.sight.now.heads.now.list.items c.visit_first_away-looked.new.walk)
starts c =
    let sight = c.args.sight.now in
    let heads = sight.heads.now.list.items in
    let bottoms = numbers_met heads c.visit_low_changes.new.walk in
    let low = IsLowChange (patches_of heads) (level_of sight.levels.now.ranks) c.highest-most.result c.args.block in
    record {
      low = c.highest-most.ensures;
      shows_up = c.cross_only-2.ensures.shown;
      shows_down = c.cross_only.ensures.shown;
      changes = visited_all low bottoms (subst (λ q. Visits low q bottoms) (none_met heads c.clear.new.self c.clear.ensures.met) c.visit_low_changes.ensures.visits);
      first = c.visit_first_away-looked.ensures.only;
    }

pub meet_between-requires-clause-apart : goal.meet_between-requires-clause-apart
meet_between-requires-clause-apart c =
    let sight = c.args.sight.now in
    let sees = c.requires.sees in
    begin_apart sight.heads.now.list.items c.args.sight.now.heads.now.rising sees.disk sees.hard sees.flights (level_of sight.levels.now.ranks) (floor_of sight.levels.now.floors) sees.leveled.leveled (needs_of sight.needs.now.lists) sees.needing.needed
    (hard_over_of sight.levels.now.ranks) sees.leveled.overs c.highest-most.result c.floor-least.result c.args.block (omega (arith, c.floor-least.ensures)) c.args.row.now _ _ _ _ (starts (goal.at.meet_between-requires-clause-apart c).After-visit_low_changes)

-- the two walks meet at what is not on disk
pub trace-requires-clause-index : goal.trace-requires-clause-index
trace-requires-clause-index c =
    let sight = c.args.sight.now in
    let sees = c.requires.sees in
    let met = MatchOption-at_some _ _ c.in-Some.index c.in-Some.is c.in_ok-index.ensures.together in (
      met.0,
      met.1,
      together_live sight.heads.now.list.items c.args.sight.now.heads.now.rising sees.disk sees.hard sees.flights (level_of sight.levels.now.ranks) (floor_of sight.levels.now.floors) sees.leveled.leveled (needs_of sight.needs.now.lists) sees.needing.needed
          (hard_over_of sight.levels.now.ranks) sees.leveled.overs c.highest-most.result c.floor-least.result c.args.block (omega (arith, c.floor-least.ensures)) c.args.row.now _ _ _ _ (starts (goal.at.trace-requires-clause-index c).After-visit_low_changes) met.0 met.2,
    )

pub returns-in-Some-clause-told : goal.returns-in-Some-clause-told
returns-in-Some-clause-told c =
    let sight = c.args.sight.now in
    let heads = sight.heads.now.list.items in
    let sees = c.requires.sees in
    let low : c.floor-least.result ≤ floor_of sight.levels.now.floors c.args.block = omega (arith, c.floor-least.ensures) in
    let begun = starts (goal.at.returns-in-Some-clause-told c).After-visit_low_changes in
    let met = MatchOption-at_some _ _ c.in-Some.index c.in-Some.is c.in_ok-index.ensures.together in
    told_soft (patches_of heads) c.args.block c.args.row.now (LeadsNowhere (patches_of heads) c.args.block c.args.row.now) c.soft.result c.trace.result c.soft.ensures.grade c.soft.ensures.end
    (together_soft heads c.args.sight.now.heads.now.rising sees.disk sees.hard sees.flights (level_of sight.levels.now.ranks) (floor_of sight.levels.now.floors) sees.leveled.leveled (needs_of sight.needs.now.lists) sees.needing.needed
    (hard_over_of sight.levels.now.ranks) sees.leveled.overs c.highest-most.result c.floor-least.result c.args.block low c.args.row.now _ _ _ _ begun met.0 met.2)
    (some_both c.trace.result c.trace.ensures.change c.trace.ensures.path (λ end change path. traced_back heads c.args.sight.now.heads.now.rising sees.disk sees.hard sees.flights (level_of sight.levels.now.ranks) (floor_of sight.levels.now.floors) sees.leveled.leveled (needs_of sight.needs.now.lists) sees.needing.needed
    (hard_over_of sight.levels.now.ranks) sees.leveled.overs c.highest-most.result c.floor-least.result c.args.block low c.args.row.now _ _ _ _ begun met.0 end met.2 change (path met.0 met.1)))

pub returns-then-looked-limit-2-clause-told : goal.returns-then-looked-limit-2-clause-told
returns-then-looked-limit-2-clause-told c =
    let sight = c.args.sight.now in
    let heads = sight.heads.now.list.items in
    let sees = c.requires.sees in
    told_hard (patches_of heads) c.args.block c.args.row.now (LeadsNowhere (patches_of heads) c.args.block c.args.row.now) c.hard_after-then-looked-limit-2.result c.hard_after-then-looked-limit-2.ensures.grade c.hard_after-then-looked-limit-2.ensures.end
    (apart_hard heads c.args.sight.now.heads.now.rising sees.disk sees.hard sees.flights (level_of sight.levels.now.ranks) (floor_of sight.levels.now.floors) sees.leveled.leveled (needs_of sight.needs.now.lists) sees.needing.needed
    (hard_over_of sight.levels.now.ranks) sees.leveled.overs c.highest-most.result c.floor-least.result c.args.block (omega (arith, c.floor-least.ensures)) c.args.row.now _ _ _ _ (starts (goal.at.returns-then-looked-limit-2-clause-told c).After-visit_low_changes)
    (c.visit_first_away-looked.ensures.all (omega (arith, c.if-looked-limit-2.true))) (numbers_met heads c.meet_between.new.ends.up.walk) (numbers_met heads c.meet_between.new.ends.down.walk) (MatchOption-at_none _ _ c.in_default.is c.in_ok-index.ensures.apart))

-- there is nothing that could lead back
pub returns-then-len-eq0-clause-told : goal.returns-then-len-eq0-clause-told
returns-then-len-eq0-clause-told c =
    let heads = c.args.sight.now.heads.now.list.items in
    let sees = c.requires.sees in
    let none : (n : ℕ) → Contains (numbers_met heads c.visit_first_away-looked.new.walk) n → ⊥ = λ n k. absurd (omega (arith, k.1, long_met heads c.visit_first_away-looked.new.walk, c.len.ensures.long, c.if-len-eq0.true)) in
    told_hard (patches_of heads) c.args.block c.args.row.now (LeadsNowhere (patches_of heads) c.args.block c.args.row.now) c.hard_after.result c.hard_after.ensures.grade c.hard_after.ensures.end
    (none_first heads c.args.sight.now.heads.now.rising sees.disk sees.hard (level_of c.args.sight.now.levels.now.ranks) (floor_of c.args.sight.now.levels.now.floors) sees.leveled.leveled (hard_over_of c.args.sight.now.levels.now.ranks) sees.leveled.overs c.args.block c.floor-least.result (omega (arith, c.floor-least.ensures)) c.cross_only.new.self.crossed.items c.cross_only.ensures.shown c.args.row.now (λ n f. none n (c.visit_first_away-looked.ensures.all (omega (arith, c.if-looked-limit.true)) n f)))
