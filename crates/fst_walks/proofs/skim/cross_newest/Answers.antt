use Rattle.std.proofs.Common.{◌<◌, ◌∙◌, false, length, get_or, sym, ap, subst, inl, inr, arith}
use Rattle.std.proofs.lemmas.{Bool.false≢true, List.Elements.{Contains-get_or}}
use Rattle.fst_types.specs.{Patches.block_of_kind}
use Rattle.fst_heads.specs.{Heads.{kind_of, patches_of}, Reaching.IsReached, declared.head.Head.Head}
use Rattle.fst_heads.proofs.{Indices.patch_at}
use Rattle.fst_levels.specs.{Needing.needs_of, Walks.numbers_met}
use Rattle.fst_levels.proofs.{MetNumbers.{index_met, long_met}}
use Rattle.fst_walks.specs.BothEnds.{IsNeed}
use Rattle.fst_walks.proofs.CrossingDown.{crosses_from}
use Rattle.fst_walks.proofs.skim.cross_newest.Goals.{After-from-block}
use Rattle.fst_walks.proofs.skim.cross_newest.Goals as goal

-- the block of the change is one of the blocks
inside : (c : After-from-block) → c.in-Change.block < length c.args.sight.now.lists.now
inside c = c.requires.sees.inside _ c.in-Change.block (patch_at c.args.sight.now.heads.now.list.items c.index_at.result _ (omega (arith, c.index_at.ensures.inside, c.requires.visited.long))) ((sym (ap (λ (h : Head). block_of_kind (kind_of h.kind)) c.index.ensures) ∙ ap (λ k. block_of_kind (kind_of k)) c.in-Change.is))

pub bounds-crossed-block : goal.bounds-crossed-block
bounds-crossed-block c = let lt = inside (goal.at.bounds-crossed-block c).After-from-block in omega (arith, lt, c.from-block.ensures, c.requires.crossed)

pub visit_newest_needs-requires-clause-block : goal.visit_newest_needs-requires-clause-block
visit_newest_needs-requires-clause-block c = let lt = inside (goal.at.visit_newest_needs-requires-clause-block c).After-from-block in omega (arith, lt, c.from-block.ensures)

pub returns-clause-only : goal.returns-clause-only
returns-clause-only c n k =
    let sight = c.args.sight.now in
    let heads = sight.heads.now.list.items in
    let patches = patches_of heads in
    let walk = c.args.walk.now in
    let needs = needs_of sight.needs.now.lists in
    let crossed = c.args.crossed.now in
    let b = c.in-Change.block in
    let met = numbers_met heads walk in
    let m = get_or met c.args.at 0 in
    let v = c.requires.visited in
    let index = index_met heads walk c.args.at c.index_at.result v.long c.requires.at c.index_at.ensures.index c.index_at.ensures.inside in
    let live = v.live m (Contains-get_or met c.args.at 0 (omega (arith, c.requires.at, long_met heads walk))) in
    let on = (sym (ap (λ (h : Head). block_of_kind (kind_of h.kind)) c.index.ensures) ∙ ap (λ k. block_of_kind (kind_of k)) c.in-Change.is) in
    let fresh : IsReached crossed b → ⊥ = λ r. false≢true (sym c.if-crossed-block.false ∙ (ap (λ k. get_or crossed k false) c.from-block.ensures ∙ r)) in
    elim (c.visit_newest_needs.ensures.only n k) [
      | inl was ↦ inl was
      | inr x ↦ inr (inr (crosses_from heads c.args.sight.now.heads.now.rising needs m c.index_at.result _ index live b on crossed n fresh (subst (λ k. IsNeed patches needs k n) c.from-block.ensures x.0), x.1))
    ]
