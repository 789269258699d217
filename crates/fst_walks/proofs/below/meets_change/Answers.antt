use Rattle.std.proofs.Common.{◌≡◌, ◌<◌, ◌∙◌, true, length, get_or, Contains, ap, sym, subst, inl, inr, arith}
use Rattle.std.proofs.lemmas.Bool.{cases_eq, false≢true}
use Rattle.std.proofs.lemmas.List.Elements.{Contains-get_or}
use Rattle.fst_heads.specs.{Heads.{patch_of, patches_of}, Indices.PassesAt, Tests.passes}
use Rattle.fst_heads.specs.declared.test.Test.TheVariants as test
use Rattle.fst_levels.specs.Walks.{numbers_met}
use Rattle.fst_levels.proofs.{NearRow.{here_passes, passes_here}, MetNumbers.{index_met, long_met}}
use Rattle.fst_walks.proofs.below.meets_change.Goals as goal

pub returns-then-passes-clause-met : goal.returns-then-passes-clause-met
returns-then-passes-clause-met c =
    let heads = c.args.sight.now.heads.now.list.items in
    let walk = c.args.walk.now in
    let at = c.loop-at.at in
    let d = c.index-head.result.now in
    let lt : at < length walk.met = omega (arith, c.loop-at-test.true, c.len-at-end.ensures.long) in
    let n = get_or (numbers_met heads walk) at 0 in
    let index = index_met heads walk at c.index_at.result c.requires.walk lt c.index_at.ensures.index c.index_at.ensures.inside in
    let told : passes (test.LiveOn c.args.block) (patch_of (get_or heads c.index_at.result d)) ≡ true = sym (c.passes.ensures ∙ ap (λ h. passes (test.LiveOn c.args.block) (patch_of h)) c.index-head.ensures) ∙ c.if-passes.true in
    let own = ap (λ h. h.number) c.index-head.ensures ∙ index.1 d in
    subst (λ m. Contains (numbers_met heads walk) m × PassesAt (test.LiveOn c.args.block) (patches_of heads) m) (sym own)
    (Contains-get_or (numbers_met heads walk) at 0 (omega (arith, lt, long_met heads walk)), passes_here heads c.args.sight.now.heads.now.rising n c.index_at.result d index (test.LiveOn c.args.block) told)

pub loop-at-preserved : goal.loop-at-preserved
loop-at-preserved c k past up here =
    let heads = c.args.sight.now.heads.now.list.items in
    let walk = c.args.walk.now in
    let at = c.loop-at.at in
    let d = c.index-head.result.now in
    let lt : at < length walk.met = omega (arith, c.loop-at-test.true, c.len-at-end.ensures.long) in
    let index = index_met heads walk at c.index_at.result c.requires.walk lt c.index_at.ensures.index c.index_at.ensures.inside in
    elim (cases_eq k at) [
      | inl same ↦
          let there = subst (λ j. PassesAt (test.LiveOn c.args.block) (patches_of heads) (get_or (numbers_met heads walk) j 0)) same here in
          let said = here_passes heads c.args.sight.now.heads.now.rising (get_or (numbers_met heads walk) at 0) c.index_at.result d index (test.LiveOn c.args.block) there in
          false≢true (sym c.if-passes.false ∙ (c.passes.ensures ∙ (ap (λ h. passes (test.LiveOn c.args.block) (patch_of h)) c.index-head.ensures ∙ said)))
      | inr before ↦ c.loop-at.invariant k past (omega (arith, up, before)) here
    ]
