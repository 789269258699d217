use Rattle.std.proofs.Common.{◌∙◌, get_or, subst, inl, inr, arith}
use Rattle.std.proofs.lemmas.{List.Elements.Contains-get_or, Option.IfSome_then}
use Rattle.fst_heads.specs.Heads.{patches_of}
use Rattle.fst_walks.specs.BothEnds.{StepsHigh}
use Rattle.fst_levels.specs.{Leveling.level_of, Needing.needs_of, Walks.numbers_met}
use Rattle.fst_walks.proofs.Ascended.{led_on}
use Rattle.fst_levels.proofs.MetNumbers.{long_met}
use Rattle.fst_walks.proofs.skim.skim.Goals as goal

pub returns-then-is_some-clause-met : goal.returns-then-is_some-clause-met
returns-then-is_some-clause-met c =
    let sight = c.args.sight.now in
    let heads = sight.heads.now.list.items in
    let steps = StepsHigh (patches_of heads) (level_of sight.levels.now.ranks) c.args.least (needs_of sight.needs.now.lists) in
    let start = c.args.down.now in
    let down = c.loop-at.down in
    let met = numbers_met heads down.walk in
    IfSome_then c.any_across-across.result c.any_across-across.ensures (λ n told.
    let m = get_or met told.1.0 0 in
    record {
      under = led_on (steps start.crossed.items) (numbers_met heads start.walk) m n (c.loop-at.invariant.led m (Contains-get_or met told.1.0 0 (omega (arith, told.1.1, long_met heads down.walk))))
          (subst (λ shown. steps shown m n) (c.deref.ensures.value ∙ c.loop-at.invariant.crossed) told.1.2);
      change = told.0;
    })

pub loop-at-preserved : goal.loop-at-preserved
loop-at-preserved c =
    let sight = c.args.sight.now in
    let heads = sight.heads.now.list.items in
    let steps = StepsHigh (patches_of heads) (level_of sight.levels.now.ranks) c.args.least (needs_of sight.needs.now.lists) in
    let start = c.args.down.now in
    let down = c.loop-at.down in
    let met = numbers_met heads down.walk in
    let at = c.loop-at.at in
    let inv = c.loop-at.invariant in
    let m = get_or met at 0 in
    record {
      down = record { long = c.cross_newest-more.ensures.visited.long; crossed = inv.down.crossed };
      visited = c.cross_newest-more.ensures.visited;
      crossed = inv.crossed;
      led = λ n k. elim (c.cross_newest-more.ensures.only n k) [
        | inl was ↦ inv.led n was
        | inr s ↦
            led_on (steps start.crossed.items) (numbers_met heads start.walk) m n (inv.led m (Contains-get_or met at 0 (omega (arith, c.if-len-at.false, c.len.ensures.long, long_met heads down.walk))))
            (subst (λ shown. steps shown m n) (c.deref-in-loop-at.ensures.value ∙ inv.crossed) s)
      ];
    }
