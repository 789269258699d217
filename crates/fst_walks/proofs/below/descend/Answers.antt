use Rattle.std.proofs.Common.{◌<◌, ◌+◌, ◌∙◌, get_or, length, subst, inl, sym, arith}
use Rattle.std.proofs.lemmas.Grind.{common_steps}
use Rattle.std.proofs.lemmas.Option.{IfSome_then}
use Rattle.fst_heads.specs.Heads.{patches_of}
use Rattle.fst_walks.specs.BothEnds.{IsHighNeed, StepsHigh}
use Rattle.fst_levels.specs.{Leveling.level_of, Needing.needs_of, Walks.numbers_met}
use Rattle.fst_walks.proofs.{Ascended.{Walking, climbing_all}, Stepping.{high_led, high_step}, Visiting.{none_told}}
use Rattle.fst_levels.proofs.MetNumbers.{long_met}
use Rattle.fst_walks.proofs.below.descend.Goals.{After-turn-met}
use Rattle.fst_walks.proofs.below.descend.Goals as goal

-- after one step more
descends : (c : After-turn-met) → (let sight = c.args.sight.now in let start = c.args.down.now in let needs = needs_of sight.needs.now.lists in let patches = patches_of sight.heads.now.list.items in
    Walking (StepsHigh patches (level_of sight.levels.now.ranks) c.args.least needs start.crossed.items) (IsHighNeed patches (level_of sight.levels.now.ranks) c.args.least needs) start.crossed.items (numbers_met sight.heads.now.list.items start.walk) (c.loop-at.at + 1) c.turn-met.new.down.crossed.items (numbers_met sight.heads.now.list.items c.turn-met.new.down.walk))
descends c =
    let heads = c.args.sight.now.heads.now.list.items in
    let start = c.args.down.now in
    let down = c.loop-at.down in
    let inside : c.loop-at.at < length (numbers_met heads down.walk) = omega (arith, c.loop-at-test.true, c.len.ensures.long, long_met heads down.walk) in
    high_step (patches_of heads) (level_of c.args.sight.now.levels.now.ranks) c.args.least (needs_of c.args.sight.now.needs.now.lists) start.crossed.items (numbers_met heads start.walk) c.loop-at.at down.crossed.items c.turn-met.new.down.crossed.items (numbers_met heads down.walk) (numbers_met heads c.turn-met.new.down.walk) inside c.loop-at.invariant.descends c.turn-met.ensures.visits c.turn-met.ensures.crossed

pub returns-then-is_some-3-clause-met : goal.returns-then-is_some-3-clause-met
returns-then-is_some-3-clause-met c =
    let walked = descends (goal.at.returns-then-is_some-3-clause-met c).After-turn-met in
    IfSome_then c.turn-met.result.0 c.turn-met.ensures.met (λ n met. record { under = walked.climbing.only n met.0; change = met.1 })

-- what is across from what was met is led to
pub returns-then-is_some-clause-met : goal.returns-then-is_some-clause-met
returns-then-is_some-clause-met c =
    let sight = c.args.sight.now in
    let heads = sight.heads.now.list.items in
    let start = c.args.down.now in
    let down = c.loop-at.down in
    IfSome_then c.any_across-across.result c.any_across-across.ensures (λ n told.
    let at = told.1.0 in
    let inside : at < length (numbers_met heads down.walk) = omega (arith, told.1.1, long_met heads down.walk) in
    record {
      under = high_led (patches_of heads) (level_of sight.levels.now.ranks) c.args.least (needs_of sight.needs.now.lists) start.crossed.items (numbers_met heads start.walk) c.loop-at.at at down.crossed.items (numbers_met heads down.walk) inside c.loop-at.invariant.descends n
          (subst (λ shown. StepsHigh (patches_of heads) (level_of sight.levels.now.ranks) c.args.least (needs_of sight.needs.now.lists) shown (get_or (numbers_met heads down.walk) at 0) n) c.deref.ensures.value told.1.2);
      change = told.0;
    })

-- and what is below it
pub returns-then-is_some-2-clause-met : goal.returns-then-is_some-2-clause-met
returns-then-is_some-2-clause-met c =
    let sight = c.args.sight.now in
    let heads = sight.heads.now.list.items in
    let start = c.args.down.now in
    let down = c.loop-at.down in
    let inside : c.loop-at.at < length (numbers_met heads down.walk) = omega (arith, c.loop-at-test.true, c.len.ensures.long, long_met heads down.walk) in
    IfSome_then c.change_below-below.result c.change_below-below.ensures (λ n told. record {
      under = high_led (patches_of heads) (level_of sight.levels.now.ranks) c.args.least (needs_of sight.needs.now.lists) start.crossed.items (numbers_met heads start.walk) c.loop-at.at c.loop-at.at down.crossed.items (numbers_met heads down.walk) inside c.loop-at.invariant.descends n (inl told.1);
      change = told.0;
    })

pub loop-at-preserved : goal.loop-at-preserved
loop-at-preserved c = record {
  down = c.turn-met.ensures.down;
  visited = c.turn-met.ensures.visited;
  away = none_told c.turn-met.result.0 c.turn-met.ensures.away (sym c.is_some-in-loop-at-2.ensures ∙ c.if-is_some-3.false);
  descends = descends (goal.at.loop-at-preserved c).After-turn-met;
  few = omega (arith, c.loop-at-test.true, c.len.ensures.few, c.loop-at.invariant.down.long);
}

-- the walk is at its end
pub returns-clause-none : goal.returns-clause-none
returns-clause-none c n x =
    let sight = c.args.sight.now in
    let heads = sight.heads.now.list.items in
    let start = c.args.down.now in
    let met = numbers_met heads c.loop-at.down.walk in
    let all = climbing_all (StepsHigh (patches_of heads) (level_of sight.levels.now.ranks) c.args.least (needs_of sight.needs.now.lists) start.crossed.items) (numbers_met heads start.walk) c.loop-at.at met (omega (arith, c.loop-at-test.false, c.len.ensures.long, long_met heads c.loop-at.down.walk)) c.loop-at.invariant.descends.climbing n in
    c.loop-at.invariant.away n (all.1 x.under) x.change

pub returns-then-looked-left-clause-met : goal.returns-then-looked-left-clause-met
returns-then-looked-left-clause-met c = grind (arith, common_steps)
