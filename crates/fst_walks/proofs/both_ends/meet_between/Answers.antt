use Rattle.std.proofs.Common.{◌+◌, ◌<◌, ◌≤◌, ◌∙◌, length, Contains, sym, subst, inl, inr, arith}
use Rattle.std.proofs.lemmas.Option.{IfSome_then}
use Rattle.std.proofs.lemmas.Grind.{common_steps}
use Rattle.fst_heads.specs.{Heads.patches_of}
use Rattle.fst_walks.specs.{BothEnds.{AreApart, IsHighNeed, IsLowChange, StepsHigh, StepsLow}, declared.block_walk.BlockWalk.BlockWalk}
use Rattle.fst_levels.specs.{Leveling.level_of, Needing.needs_of, Walks.numbers_met}
use Rattle.fst_walks.proofs.{Ascended.{Walking, climbing_all}, Stepping.{high_beside, high_step, low_step, walking_kept}, Visiting.{none_told, visits_longer}}
use Rattle.fst_levels.proofs.MetNumbers.{long_met}
use Rattle.fst_walks.proofs.both_ends.meet_between.Goals.{After-turn_down-met, After-turn_down-met-else-looked, then-before-now, else-before-now}
use Rattle.fst_walks.proofs.both_ends.meet_between.Goals as goal

pub returns-then-is_some-clause-together : goal.returns-then-is_some-clause-together
returns-then-is_some-clause-together c =
    let sight = c.args.sight.now in
    let heads = sight.heads.now.list.items in
    let begun = c.args.ends.now in
    let ends = c.loop-up_at.ends in
    let inside : c.loop-up_at.up_at < length (numbers_met heads ends.up.walk) = omega (arith, c.loop-up_at-test.true, c.len.ensures.long, long_met heads ends.up.walk) in
    let climbs = low_step (patches_of heads) (level_of sight.levels.now.ranks) c.args.most begun.up.crossed.items (numbers_met heads begun.up.walk) c.loop-up_at.up_at ends.up.crossed.items c.turn_up-met.new.ends.up.crossed.items (numbers_met heads ends.up.walk) (numbers_met heads c.turn_up-met.new.ends.up.walk) inside c.loop-up_at.invariant.climbs c.turn_up-met.ensures.visits c.turn_up-met.ensures.crossed in
    IfSome_then c.turn_up-met.result c.turn_up-met.ensures.met (λ index met. (met.0, met.1, record { over = climbs.climbing.only met.0 met.2; under = c.loop-up_at.invariant.descends.climbing.only met.0 met.3 }))

pub loop-up_at-preserved-then-looked : goal.loop-up_at-preserved-then-looked
loop-up_at-preserved-then-looked c =
    let sight = c.args.sight.now in
    let heads = sight.heads.now.list.items in
    let begun = c.args.ends.now in
    let ends = c.loop-up_at.ends in
    let known = c.loop-up_at.invariant in
    let inside : c.loop-up_at.up_at < length (numbers_met heads ends.up.walk) = omega (arith, c.loop-up_at-test.true, c.len.ensures.long, long_met heads ends.up.walk) in
    rw c.turn_up-met.ensures.down record {
      up = c.turn_up-met.ensures.up;
      down = known.down;
      visited_up = c.turn_up-met.ensures.visited;
      visited_down = known.visited_down;
      apart = none_told c.turn_up-met.result c.turn_up-met.ensures.apart (sym c.is_some.ensures ∙ c.if-is_some.false);
      climbs = low_step (patches_of heads) (level_of sight.levels.now.ranks) c.args.most begun.up.crossed.items (numbers_met heads begun.up.walk) c.loop-up_at.up_at ends.up.crossed.items c.turn_up-met.new.ends.up.crossed.items (numbers_met heads ends.up.walk) (numbers_met heads c.turn_up-met.new.ends.up.walk) inside known.climbs c.turn_up-met.ensures.visits c.turn_up-met.ensures.crossed;
      descends = known.descends;
      deep = known.deep;
      few_up = omega (arith, c.loop-up_at-test.true, c.len.ensures.few, known.up.long);
      few_down = known.few_down;
    }

-- the next one of the walk down is there
inside : (c : After-turn_down-met) → c.loop-up_at.down_at < length (numbers_met c.args.sight.now.heads.now.list.items c.loop-up_at.ends.down.walk)
inside c = omega (arith, c.if-down_at-len.true, c.len-in-loop-up_at.ensures.long, long_met c.args.sight.now.heads.now.list.items c.loop-up_at.ends.down.walk)

-- the step from its end leaves what is done in turn
beside : (c : After-turn_down-met) → Walking (StepsHigh (patches_of c.args.sight.now.heads.now.list.items) (level_of c.args.sight.now.levels.now.ranks) c.args.least (needs_of c.args.sight.now.needs.now.lists) c.args.ends.now.down.crossed.items) (IsHighNeed (patches_of c.args.sight.now.heads.now.list.items) (level_of c.args.sight.now.levels.now.ranks) c.args.least (needs_of c.args.sight.now.needs.now.lists)) c.args.ends.now.down.crossed.items (numbers_met c.args.sight.now.heads.now.list.items c.args.ends.now.down.walk) c.loop-up_at.down_at c.turn_down-met.new.ends.down.crossed.items (numbers_met c.args.sight.now.heads.now.list.items c.turn_down-met.new.ends.down.walk)
beside c =
    let heads = c.args.sight.now.heads.now.list.items in
    let begun = c.args.ends.now in
    let ends = c.loop-up_at.ends in
    high_beside (patches_of heads) (level_of c.args.sight.now.levels.now.ranks) c.args.least (needs_of c.args.sight.now.needs.now.lists) begun.down.crossed.items (numbers_met heads begun.down.walk) c.loop-up_at.down_at ends.down.crossed.items c.turn_down-met.new.ends.down.crossed.items (numbers_met heads ends.down.walk) (numbers_met heads c.turn_down-met.new.ends.down.walk) c.turn_from_end-last.result (omega (arith, inside c)) (omega (arith, c.turn_from_end-last.ensures, c.len-before.ensures.long, long_met heads ends.down.walk)) c.loop-up_at.invariant.descends c.turn_down-met.ensures.visits c.turn_down-met.ensures.crossed

-- and the one in turn is done after it
descended : (c : After-turn_down-met-else-looked) → c.loop-up_at.down_at < length (numbers_met c.args.sight.now.heads.now.list.items c.loop-up_at.ends.down.walk)
    → Walking (StepsHigh (patches_of c.args.sight.now.heads.now.list.items) (level_of c.args.sight.now.levels.now.ranks) c.args.least (needs_of c.args.sight.now.needs.now.lists) c.args.ends.now.down.crossed.items) (IsHighNeed (patches_of c.args.sight.now.heads.now.list.items) (level_of c.args.sight.now.levels.now.ranks) c.args.least (needs_of c.args.sight.now.needs.now.lists)) c.args.ends.now.down.crossed.items (numbers_met c.args.sight.now.heads.now.list.items c.args.ends.now.down.walk) c.loop-up_at.down_at c.turn_down-met.new.ends.down.crossed.items (numbers_met c.args.sight.now.heads.now.list.items c.turn_down-met.new.ends.down.walk)
    → Walking (StepsHigh (patches_of c.args.sight.now.heads.now.list.items) (level_of c.args.sight.now.levels.now.ranks) c.args.least (needs_of c.args.sight.now.needs.now.lists) c.args.ends.now.down.crossed.items) (IsHighNeed (patches_of c.args.sight.now.heads.now.list.items) (level_of c.args.sight.now.levels.now.ranks) c.args.least (needs_of c.args.sight.now.needs.now.lists)) c.args.ends.now.down.crossed.items (numbers_met c.args.sight.now.heads.now.list.items c.args.ends.now.down.walk) (c.loop-up_at.down_at + 1) c.turn_down-met-else-looked.new.ends.down.crossed.items (numbers_met c.args.sight.now.heads.now.list.items c.turn_down-met-else-looked.new.ends.down.walk)
descended c lt before =
    let heads = c.args.sight.now.heads.now.list.items in
    let begun = c.args.ends.now in
    let ends = c.loop-up_at.ends in
    let mid = c.turn_down-met.new.ends in
    let there : c.loop-up_at.down_at < length (numbers_met heads mid.down.walk) = omega (arith, lt, visits_longer _ (numbers_met heads ends.down.walk) (numbers_met heads mid.down.walk) c.turn_down-met.ensures.visits) in
    high_step (patches_of heads) (level_of c.args.sight.now.levels.now.ranks) c.args.least (needs_of c.args.sight.now.needs.now.lists) begun.down.crossed.items (numbers_met heads begun.down.walk) c.loop-up_at.down_at mid.down.crossed.items c.turn_down-met-else-looked.new.ends.down.crossed.items (numbers_met heads mid.down.walk) (numbers_met heads c.turn_down-met-else-looked.new.ends.down.walk) there before c.turn_down-met-else-looked.ensures.visits c.turn_down-met-else-looked.ensures.crossed

-- what is met from the end of the walk down
pub returns-then-is_some-2-clause-together : goal.returns-then-is_some-2-clause-together
returns-then-is_some-2-clause-together c =
    let under = beside (goal.at.returns-then-is_some-2-clause-together c).After-turn_down-met in
    IfSome_then c.turn_down-met.result c.turn_down-met.ensures.met (λ index met. (met.0, met.1, record { over = c.loop-up_at.invariant.climbs.climbing.only met.0 met.2; under = under.climbing.only met.0 met.3 }))

pub turn_down-met-requires-else-looked-clause-apart : goal.turn_down-met-requires-else-looked-clause-apart
turn_down-met-requires-else-looked-clause-apart c = rw c.turn_down-met.ensures.up (none_told c.turn_down-met.result c.turn_down-met.ensures.apart (sym c.is_some-else-looked.ensures ∙ c.if-is_some-2.false))

pub turn_down-met-requires-else-looked-clause-at : goal.turn_down-met-requires-else-looked-clause-at
turn_down-met-requires-else-looked-clause-at c =
    let heads = c.args.sight.now.heads.now.list.items in
    let grown = visits_longer _ (numbers_met heads c.loop-up_at.ends.down.walk) (numbers_met heads c.turn_down-met.new.ends.down.walk) c.turn_down-met.ensures.visits in
    omega (arith, grown, c.if-down_at-len.true, c.len-in-loop-up_at.ensures.long, long_met heads c.loop-up_at.ends.down.walk, long_met heads c.turn_down-met.new.ends.down.walk)

pub returns-then-is_some-3-clause-together : goal.returns-then-is_some-3-clause-together
returns-then-is_some-3-clause-together c =
    let before = (goal.at.returns-then-is_some-3-clause-together c).After-turn_down-met in
    let under = descended (goal.at.returns-then-is_some-3-clause-together c).After-turn_down-met-else-looked (inside before) (beside before) in
    IfSome_then c.turn_down-met-else-looked.result c.turn_down-met-else-looked.ensures.met (λ index met. (
      met.0,
      met.1,
      record {
        over = c.loop-up_at.invariant.climbs.climbing.only met.0 (subst (λ (w : BlockWalk). Contains (numbers_met c.args.sight.now.heads.now.list.items w.walk) met.0) c.turn_down-met.ensures.up met.2);
        under = under.climbing.only met.0 met.3;
      },
    ))

pub loop-up_at-preserved : goal.loop-up_at-preserved
loop-up_at-preserved c =
    let heads = c.args.sight.now.heads.now.list.items in
    let ends = c.loop-up_at.ends in
    let known = c.loop-up_at.invariant in
    let mid = c.turn_down-met.new.ends in
    let long = long_met heads ends.down.walk in
    let first = (goal.at.loop-up_at-preserved c).After-turn_down-met in
    let longer : length mid.down.walk.met ≤ length c.turn_down-met-else-looked.new.ends.down.walk.met = omega (arith, visits_longer _ (numbers_met heads mid.down.walk) (numbers_met heads c.turn_down-met-else-looked.new.ends.down.walk) c.turn_down-met-else-looked.ensures.visits, long_met heads mid.down.walk, long_met heads c.turn_down-met-else-looked.new.ends.down.walk) in
    let before : length ends.down.walk.met ≤ length mid.down.walk.met = omega (arith, visits_longer _ (numbers_met heads ends.down.walk) (numbers_met heads mid.down.walk) c.turn_down-met.ensures.visits, long, long_met heads mid.down.walk) in
    rw (c.turn_down-met-else-looked.ensures.up, c.turn_down-met.ensures.up) (record {
      up = known.up;
      down = c.turn_down-met-else-looked.ensures.down;
      visited_up = known.visited_up;
      visited_down = c.turn_down-met-else-looked.ensures.visited;
      apart = subst (λ w. AreApart (numbers_met heads w.walk) (numbers_met heads c.turn_down-met-else-looked.new.ends.down.walk)) c.turn_down-met.ensures.up (none_told c.turn_down-met-else-looked.result c.turn_down-met-else-looked.ensures.apart (sym c.is_some-else-looked-2.ensures ∙ c.if-is_some-3.false));
      climbs = known.climbs;
      descends = descended (goal.at.loop-up_at-preserved c).After-turn_down-met-else-looked (inside first) (beside first);
      deep = elim c.if-before-now.branch [
        | then-before-now w ↦ omega (arith, w.deep-is, c.len-now.ensures.long, longer)
        | else-before-now w ↦ omega (arith, w.deep-is, c.turn_from_end-last.ensures, c.len-before.ensures.long, longer, before)
      ];
      few_up = known.few_up;
      few_down = omega (arith, c.if-down_at-len.true, c.len-in-loop-up_at.ensures.few, known.down.long);
    })

-- the walk down is at its end
pub returns-else-down_at-len-clause-apart : goal.returns-else-down_at-len-clause-apart
returns-else-down_at-len-clause-apart c =
    let sight = c.args.sight.now in
    let heads = sight.heads.now.list.items in
    let patches = patches_of heads in
    let level = level_of sight.levels.now.ranks in
    let needs = needs_of sight.needs.now.lists in
    let begun = c.args.ends.now in
    let ends = c.loop-up_at.ends in
    let known = c.loop-up_at.invariant in
    let down = begun.down.crossed.items in
    let tops = numbers_met heads begun.down.walk in
    record {
      over_begun = walking_kept (StepsLow patches level c.args.most begun.up.crossed.items) (IsLowChange patches level c.args.most) begun.up.crossed.items (numbers_met heads begun.up.walk) c.loop-up_at.up_at ends.up.crossed.items (numbers_met heads ends.up.walk) known.climbs;
      under_begun = walking_kept (StepsHigh patches level c.args.least needs down) (IsHighNeed patches level c.args.least needs) down tops c.loop-up_at.down_at ends.down.crossed.items (numbers_met heads ends.down.walk) known.descends;
      apart = known.apart;
      ended = inr (λ n. (climbing_all (StepsHigh patches level c.args.least needs down) tops c.loop-up_at.down_at (numbers_met heads ends.down.walk) (omega (arith, c.if-down_at-len.false, c.len-in-loop-up_at.ensures.long, long_met heads ends.down.walk)) known.descends.climbing n).1);
    }

-- the walk up is at its end
pub returns-after-loop-up_at-clause-apart : goal.returns-after-loop-up_at-clause-apart
returns-after-loop-up_at-clause-apart c =
    let sight = c.args.sight.now in
    let heads = sight.heads.now.list.items in
    let patches = patches_of heads in
    let level = level_of sight.levels.now.ranks in
    let needs = needs_of sight.needs.now.lists in
    let begun = c.args.ends.now in
    let ends = c.loop-up_at.ends in
    let known = c.loop-up_at.invariant in
    let up = begun.up.crossed.items in
    let bottoms = numbers_met heads begun.up.walk in
    record {
      over_begun = walking_kept (StepsLow patches level c.args.most up) (IsLowChange patches level c.args.most) up bottoms c.loop-up_at.up_at ends.up.crossed.items (numbers_met heads ends.up.walk) known.climbs;
      under_begun = walking_kept (StepsHigh patches level c.args.least needs begun.down.crossed.items) (IsHighNeed patches level c.args.least needs) begun.down.crossed.items (numbers_met heads begun.down.walk) c.loop-up_at.down_at ends.down.crossed.items (numbers_met heads ends.down.walk) known.descends;
      apart = known.apart;
      ended = inl (λ n. (climbing_all (StepsLow patches level c.args.most up) bottoms c.loop-up_at.up_at (numbers_met heads ends.up.walk) (omega (arith, c.loop-up_at-test.false, c.len.ensures.long, long_met heads ends.up.walk)) known.climbs.climbing n).1);
    }

pub returns-after-loop-up_at-clause-down : goal.returns-after-loop-up_at-clause-down
returns-after-loop-up_at-clause-down c = grind (arith, common_steps)

pub returns-after-loop-up_at-clause-together : goal.returns-after-loop-up_at-clause-together
returns-after-loop-up_at-clause-together c = grind (arith, common_steps)

pub returns-after-loop-up_at-clause-up : goal.returns-after-loop-up_at-clause-up
returns-after-loop-up_at-clause-up c = grind (arith, common_steps)

pub returns-else-down_at-len-clause-down : goal.returns-else-down_at-len-clause-down
returns-else-down_at-len-clause-down c = grind (arith, common_steps)

pub returns-else-down_at-len-clause-together : goal.returns-else-down_at-len-clause-together
returns-else-down_at-len-clause-together c = grind (arith, common_steps)

pub returns-else-down_at-len-clause-up : goal.returns-else-down_at-len-clause-up
returns-else-down_at-len-clause-up c = grind (arith, common_steps)

pub returns-then-is_some-2-clause-apart : goal.returns-then-is_some-2-clause-apart
returns-then-is_some-2-clause-apart c = grind (arith, common_steps)

pub returns-then-is_some-2-clause-down : goal.returns-then-is_some-2-clause-down
returns-then-is_some-2-clause-down c = grind (arith, common_steps)

pub returns-then-is_some-2-clause-up : goal.returns-then-is_some-2-clause-up
returns-then-is_some-2-clause-up c = grind (arith, common_steps)

pub returns-then-is_some-clause-apart : goal.returns-then-is_some-clause-apart
returns-then-is_some-clause-apart c = grind (arith, common_steps)

pub returns-then-is_some-clause-down : goal.returns-then-is_some-clause-down
returns-then-is_some-clause-down c = grind (arith, common_steps)

pub returns-then-is_some-clause-up : goal.returns-then-is_some-clause-up
returns-then-is_some-clause-up c = grind (arith, common_steps)

pub returns-then-min-limit-clause-apart : goal.returns-then-min-limit-clause-apart
returns-then-min-limit-clause-apart c = tt
