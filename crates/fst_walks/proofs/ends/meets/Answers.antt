use Rattle.std.proofs.Common.{◌<◌, length, get_or, Contains, sym, subst, ◌∙◌, inl, inr, arith}
use Rattle.std.proofs.lemmas.Bool.{cases_eq, false≢true}
use Rattle.std.proofs.lemmas.List.Elements.{Contains-get_or}
use Rattle.fst_levels.specs.Walks.{numbers_met}
use Rattle.fst_levels.proofs.MetNumbers.{long_met, index_met, number_of_met, met_index}
use Rattle.fst_walks.proofs.ends.meets.Goals as goal

pub returns-then-has_met-clause-met : goal.returns-then-has_met-clause-met
returns-then-has_met-clause-met c =
    let heads = c.args.sight.now.heads.now.list.items in
    let walk = c.args.walk.now in
    let met = numbers_met heads walk in
    let at = c.loop-at.at in
    let lt : at < length walk.met = omega (arith, c.loop-at-test.true, c.len-at-end.ensures.long) in
    let index = index_met heads walk at c.index_at-index.result c.requires.walk lt c.index_at-index.ensures.index c.index_at-index.ensures.inside in (
      get_or met at 0,
      index,
      Contains-get_or met at 0 (omega (arith, lt, long_met heads walk)),
      number_of_met heads c.args.other.now (get_or met at 0) c.index_at-index.result index (c.has_met.ensures.met.0 c.if-has_met.true),
    )

pub loop-at-preserved : goal.loop-at-preserved
loop-at-preserved c k past up here =
    let heads = c.args.sight.now.heads.now.list.items in
    let walk = c.args.walk.now in
    let other = c.args.other.now in
    let met = numbers_met heads walk in
    let at = c.loop-at.at in
    let lt : at < length walk.met = omega (arith, c.loop-at-test.true, c.len-at-end.ensures.long) in
    let index = index_met heads walk at c.index_at-index.result c.requires.walk lt c.index_at-index.ensures.index c.index_at-index.ensures.inside in
    elim (cases_eq k at) [
      | inl same ↦
          let there = subst (λ j. Contains (numbers_met heads other) (get_or met j 0)) same here in
          false≢true (sym c.if-has_met.false ∙ c.has_met.ensures.met.1 (met_index heads other c.args.sight.now.heads.now.rising c.requires.other.long c.has_met.ensures.inside (get_or met at 0) c.index_at-index.result index there))
      | inr before ↦ c.loop-at.invariant k past (omega (arith, up, before)) here
    ]

pub returns-clause-apart : goal.returns-clause-apart
returns-clause-apart c at past inside here = c.loop-at.invariant at past (omega (arith, inside, c.loop-at-test.false, c.len-at-end.ensures.long)) here
