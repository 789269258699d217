use Rattle.std.proofs.Common.{◌∙◌, ◌+◌, Contains, refl, sym, subst, inl, inr, arith}
use Rattle.fst_heads.specs.{Heads.patches_of, Nodes.{nodes_of, pending_in}}
use Rattle.fst_heads.proofs.Indices.{any_default}
use Rattle.fst_walks.specs.Searching.{IsNextAbove, IsNextHeld}
use Rattle.fst_levels.specs.Walks.{numbers_met}
use Rattle.fst_walks.proofs.{Ascended.{Climbing, climbing_advanced, climbing_all, climbing_begun, climbing_first}, Stepped.turned, Visiting.{none_told, some_told}}
use Rattle.fst_levels.proofs.MetNumbers.{long_met}
use Rattle.fst_walks.proofs.cycle.walks_meet.Goals.{After-advance, After-advance-else-goes_up}
use Rattle.fst_walks.proofs.cycle.walks_meet.Goals as goal

pub returns-then-is_some-clause-meet : goal.returns-then-is_some-clause-meet
returns-then-is_some-clause-meet c _ = some_told c.meets.result c.meets.ensures.met (sym c.is_some.ensures ∙ c.if-is_some.true) (λ index met. (met.0, record { over = inl met.2; under = inl met.3 }))

pub loop-up-init : goal.loop-up-init
loop-up-init c =
    let heads = c.args.sight.now.heads.now.list.items in
    let up = numbers_met heads c.args.ends.now.up.walk in
    let none = none_told c.meets.result c.meets.ensures.apart (sym c.is_some.ensures ∙ c.if-is_some.false) in
    record {
      apart = record {
        walk_live = c.requires.up;
        other_live = c.requires.down;
        apart = λ n over under. let same = any_default up over.0 0 n over.1 ∙ over.2 in none over.0 (omega arith) (omega (arith, over.1, long_met heads c.args.ends.now.up.walk)) (subst (Contains (numbers_met heads c.args.ends.now.down.walk)) (sym same) under);
      };
      climbs = climbing_first _ up;
      descends = climbing_first _ (numbers_met heads c.args.ends.now.down.walk);
      crossed = (refl, refl);
      up_deep = omega arith;
      down_deep = omega arith;
      few_up = omega arith;
      few_down = omega arith;
    }

-- what the walk up led to at its turn is met
climbed : (c : After-advance) → Climbing (IsNextAbove (patches_of c.args.sight.now.heads.now.list.items) (pending_in (nodes_of c.args.sight.now.heads.now.list.items))) (numbers_met c.args.sight.now.heads.now.list.items c.args.ends.now.up.walk) (c.loop-up.up.at + 1) (numbers_met c.args.sight.now.heads.now.list.items c.advance.new.walk)
climbed c = let heads = c.args.sight.now.heads.now.list.items in let up = c.loop-up.ends.up.walk in
    climbing_advanced _ (numbers_met heads c.args.ends.now.up.walk) c.loop-up.up.at (numbers_met heads up) (numbers_met heads c.advance.new.walk) (omega (arith, c.loop-up-test.true, c.len.ensures.long, long_met heads up)) c.loop-up.invariant.climbs c.advance.ensures.advances

-- and so for the walk down
descended : (c : After-advance-else-goes_up) → Climbing (IsNextHeld (patches_of c.args.sight.now.heads.now.list.items) (pending_in (nodes_of c.args.sight.now.heads.now.list.items))) (numbers_met c.args.sight.now.heads.now.list.items c.args.ends.now.down.walk) (c.loop-up.down.at + 1) (numbers_met c.args.sight.now.heads.now.list.items c.advance-else-goes_up.new.walk)
descended c = let heads = c.args.sight.now.heads.now.list.items in let down = c.loop-up.ends.down.walk in
    climbing_advanced _ (numbers_met heads c.args.ends.now.down.walk) c.loop-up.down.at (numbers_met heads down) (numbers_met heads c.advance-else-goes_up.new.walk) (omega (arith, c.if-down-len.true, c.len-in-loop-up.ensures.long, long_met heads down)) c.loop-up.invariant.descends c.advance-else-goes_up.ensures.advances

pub advance-requires-else-goes_up-clause-apart : goal.advance-requires-else-goes_up-clause-apart
advance-requires-else-goes_up-clause-apart c = turned c.loop-up.invariant.apart

pub returns-then-advance-clause-meet : goal.returns-then-advance-clause-meet
returns-then-advance-clause-meet c _ =
    let met = c.advance.ensures.met c.if-advance.true in
    (met.n, record { over = (climbed (goal.at.returns-then-advance-clause-meet c).After-advance).only met.n met.walk_met; under = c.loop-up.invariant.descends.only met.n met.other_met })

pub returns-then-advance-2-clause-meet : goal.returns-then-advance-2-clause-meet
returns-then-advance-2-clause-meet c _ =
    let met = c.advance-else-goes_up.ensures.met c.if-advance-2.true in
    (met.n, record { over = c.loop-up.invariant.climbs.only met.n met.other_met; under = (descended (goal.at.returns-then-advance-2-clause-meet c).After-advance-else-goes_up).only met.n met.walk_met })

pub loop-up-preserved-then-goes_up : goal.loop-up-preserved-then-goes_up
loop-up-preserved-then-goes_up c =
    let known = c.loop-up.invariant in
    record {
      apart = c.advance.ensures.apart c.if-advance.false;
      climbs = rw c.advance.ensures.at (climbed (goal.at.loop-up-preserved-then-goes_up c).After-advance);
      descends = known.descends;
      crossed = known.crossed;
      up_deep = c.advance.ensures.deep;
      down_deep = known.down_deep;
      few_up = omega (arith, c.advance.ensures.at, c.loop-up-test.true, c.len.ensures.few, known.apart.walk_live.long);
      few_down = known.few_down;
    }

pub loop-up-preserved : goal.loop-up-preserved
loop-up-preserved c =
    let known = c.loop-up.invariant in
    record {
      apart = turned (c.advance-else-goes_up.ensures.apart c.if-advance-2.false);
      climbs = known.climbs;
      descends = rw c.advance-else-goes_up.ensures.at (descended (goal.at.loop-up-preserved c).After-advance-else-goes_up);
      crossed = known.crossed;
      up_deep = known.up_deep;
      down_deep = c.advance-else-goes_up.ensures.deep;
      few_up = known.few_up;
      few_down = omega (arith, c.advance-else-goes_up.ensures.at, c.if-down-len.true, c.len-in-loop-up.ensures.few, known.apart.other_live.long);
    }

-- the walk down is at its end
pub returns-else-down-len-clause-apart : goal.returns-else-down-len-clause-apart
returns-else-down-len-clause-apart c _ =
    let heads = c.args.sight.now.heads.now.list.items in
    let begun = c.args.ends.now in
    let ends = c.loop-up.ends in
    let known = c.loop-up.invariant in
    let tops = numbers_met heads begun.down.walk in
    record {
      over_begun = climbing_begun _ (numbers_met heads begun.up.walk) c.loop-up.up.at (numbers_met heads ends.up.walk) known.climbs;
      under_begun = climbing_begun _ tops c.loop-up.down.at (numbers_met heads ends.down.walk) known.descends;
      apart = known.apart.apart;
      ended = inr (λ n. (climbing_all _ tops c.loop-up.down.at (numbers_met heads ends.down.walk) (omega (arith, c.if-down-len.false, c.len-in-loop-up.ensures.long, long_met heads ends.down.walk)) known.descends n).1);
    }

-- the walk up is at its end
pub returns-after-loop-up-clause-apart : goal.returns-after-loop-up-clause-apart
returns-after-loop-up-clause-apart c _ =
    let heads = c.args.sight.now.heads.now.list.items in
    let begun = c.args.ends.now in
    let ends = c.loop-up.ends in
    let known = c.loop-up.invariant in
    let bottoms = numbers_met heads begun.up.walk in
    record {
      over_begun = climbing_begun _ bottoms c.loop-up.up.at (numbers_met heads ends.up.walk) known.climbs;
      under_begun = climbing_begun _ (numbers_met heads begun.down.walk) c.loop-up.down.at (numbers_met heads ends.down.walk) known.descends;
      apart = known.apart.apart;
      ended = inl (λ n. (climbing_all _ bottoms c.loop-up.up.at (numbers_met heads ends.up.walk) (omega (arith, c.loop-up-test.false, c.len.ensures.long, long_met heads ends.up.walk)) known.climbs n).1);
    }
