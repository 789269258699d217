use Rattle.std.proofs.Common.{get_or, Contains, sym, subst, inl, inr, arith}
use Rattle.std.proofs.lemmas.List.Elements.{Contains-get_or}
use Rattle.fst_types.specs.{Closure.{one, join}, Dependencies.DependsOn}
use Rattle.fst_heads.specs.{Heads.patches_of, declared.head.Head.Head}
use Rattle.fst_heads.proofs.Indices.{direct_at}
use Rattle.fst_levels.specs.Walks.{numbers_met}
use Rattle.fst_levels.proofs.MetNumbers.{index_met, long_met}
use Rattle.fst_levels.proofs.under_hard.keep_below.Goals as goal

-- what a patch that was met directly depends on, the hard change depends on
pub keep_over-requires-clause-below : goal.keep_over-requires-clause-below
keep_over-requires-clause-below c =
    let heads = c.args.heads.now.list.items in
    let walk = c.args.walk.now in
    let row = c.as_slice-number-items.result.now in
    let n = get_or (numbers_met heads walk) c.args.at 0 in
    let q = get_or row c.loop-number.number-index 0 in
    let s = c.index_at.result in
    let d : Head = c.index-head.result.now in
    let index = index_met heads walk c.args.at s c.requires.long c.requires.at c.index_at.ensures.index c.index_at.ensures.inside in
    let straight = direct_at heads n q s d index (subst (λ (h : Head). Contains h.dependencies.items q) c.index-head.ensures (subst (λ names. Contains names q) c.as_slice-number-items.ensures (Contains-get_or row c.loop-number.number-index 0 c.loop-number-test.true))) in
    elim (c.requires.met n (Contains-get_or (numbers_met heads walk) c.args.at 0 (omega (arith, c.requires.at, long_met heads walk)))) [
      | inl e ↦ subst (λ m. DependsOn (patches_of heads) m q) (sym e) (one straight)
      | inr path ↦ join path (one straight)
    ]
