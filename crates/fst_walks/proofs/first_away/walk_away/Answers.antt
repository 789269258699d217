use Rattle.std.proofs.Common.{◌<◌, length, get_or, inl, inr, arith}
use Rattle.std.proofs.lemmas.List.Elements.{Contains-get_or}
use Rattle.fst_heads.specs.Heads.{patches_of}
use Rattle.fst_walks.specs.BothEnds.{StepsAway}
use Rattle.fst_levels.specs.{Leveling.{hard_over_of, level_of}, Walks.numbers_met}
use Rattle.fst_walks.proofs.Ascended.{climbing_more, climbing_all, led_on}
use Rattle.fst_levels.proofs.MetNumbers.{long_met}
use Rattle.fst_walks.proofs.first_away.walk_away.Goals as goal

pub loop-at-smaller : goal.loop-at-smaller
loop-at-smaller c = omega (arith, c.len.ensures.few, c.loop-at-test.true, c.loop-at.invariant.visited.long)

pub loop-at-preserved : goal.loop-at-preserved
loop-at-preserved c =
    let heads = c.args.sight.now.heads.now.list.items in
    let walk = c.loop-at.walk in
    let at = c.loop-at.at in
    let lt : at < length walk.met = omega (arith, c.loop-at-test.true, c.len.ensures.long) in
    record {
      visited = c.step_away.ensures.visited;
      climbing = climbing_more (StepsAway (patches_of heads) (hard_over_of c.args.sight.now.levels.now.ranks) (level_of c.args.sight.now.levels.now.ranks) c.args.least c.args.block) (numbers_met heads c.args.walk.now) at (numbers_met heads walk) (numbers_met heads c.step_away.new.walk) (omega (arith, lt, long_met heads walk)) c.loop-at.invariant.climbing (c.step_away.ensures.visits (omega (arith, c.saturating_add-looked.ensures, c.if-looked-most.false, c.step_away.type_inv)));
    }

pub returns-clause-led : goal.returns-clause-led
returns-clause-led c few =
    let heads = c.args.sight.now.heads.now.list.items in
    climbing_all (StepsAway (patches_of heads) (hard_over_of c.args.sight.now.levels.now.ranks) (level_of c.args.sight.now.levels.now.ranks) c.args.least c.args.block) (numbers_met heads c.args.walk.now) c.loop-at.at (numbers_met heads c.loop-at.walk)
    (omega (arith, c.loop-at-test.false, c.len.ensures.long, long_met heads c.loop-at.walk)) c.loop-at.invariant.climbing

pub returns-clause-only : goal.returns-clause-only
returns-clause-only c = c.loop-at.invariant.climbing.only

pub returns-then-looked-most-clause-only : goal.returns-then-looked-most-clause-only
returns-then-looked-most-clause-only c q met =
    let heads = c.args.sight.now.heads.now.list.items in
    let walk = c.loop-at.walk in
    let at = c.loop-at.at in
    let lt : at < length walk.met = omega (arith, c.loop-at-test.true, c.len.ensures.long) in
    let queue = numbers_met heads walk in
    let x = c.loop-at.invariant.climbing in
    elim (c.step_away.ensures.only q met) [
      | inl old ↦ x.only q old
      | inr s ↦ led_on (StepsAway (patches_of heads) (hard_over_of c.args.sight.now.levels.now.ranks) (level_of c.args.sight.now.levels.now.ranks) c.args.least c.args.block) (numbers_met heads c.args.walk.now) (get_or queue at 0) q (x.only (get_or queue at 0) (Contains-get_or queue at 0 (omega (arith, lt, long_met heads walk)))) s
    ]
