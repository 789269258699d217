use Rattle.std.proofs.Common.{◌∙◌, get_or, Contains, ap, sym, subst, arith}
use Rattle.std.proofs.lemmas.{Bool.false≢true, List.Elements.Contains-get_or}
use Rattle.fst_heads.specs.{Heads.patches_of, Indices.HasIndex, declared.head.Head.Head}
use Rattle.fst_heads.proofs.{Indices.{direct_at, index_here}, Listing.rising_patches}
use Rattle.fst_heads.specs.Grading.{IsHardNumber}
use Rattle.fst_levels.specs.Walks.{numbers_met}
use Rattle.fst_levels.proofs.{ComesBack.live_number, MetNumbers.index_met}
use Rattle.fst_walks.specs.BothEnds.{GoesBelow}
use Rattle.fst_walks.proofs.way_down.change_below.Goals as goal

pub is_any_hard-requires-clause-index : goal.is_any_hard-requires-clause-index
is_any_hard-requires-clause-index c = subst (λ n. HasIndex c.args.sight.now.heads.now.list.items n c.index_at-index.result) (sym (ap (λ h. h.number) c.index-2.ensures)) (index_here c.args.sight.now.heads.now.list.items c.index_at-index.result c.index-2.result.now (omega (arith, c.index_at-index.ensures.inside, c.requires.visited.long)))

pub returns-then-is_high_change : goal.returns-then-is_high_change
returns-then-is_high_change c =
    let heads = c.args.sight.now.heads.now.list.items in
    let patches = patches_of heads in
    let walk = c.args.walk.now in
    let n = get_or (numbers_met heads walk) c.args.at 0 in
    let s = c.index_at-index.result in
    let d : Head = c.index.result.now in
    let index = index_met heads walk c.args.at s c.requires.visited.long c.requires.at c.index_at-index.ensures.index c.index_at-index.ensures.inside in
    let few = c.newest_few-below-items.result.now in
    let i = c.loop-below.below-index in
    let q = get_or few i 0 in
    let named = c.newest_few-below-items.ensures.only q (Contains-get_or few i 0 (omega (arith, c.loop-below-test.true))) in
    let told = c.is_high_change.ensures c.if-is_high_change.true in
    let soft : GoesBelow patches n = λ k hard. false≢true (sym c.if-is_any_hard.false ∙ c.is_any_hard.ensures.1 (k, subst (IsHardNumber patches k) (sym (ap (λ h. h.number) c.index-2.ensures ∙ index.1 c.index-2.result.now)) hard)) in
    (told.0, (soft, direct_at heads n q s d index (subst (λ row. Contains row q) (c.as_slice-row.ensures ∙ ap (λ h. h.dependencies.items) c.index.ensures) named), (live_number patches (rising_patches heads c.args.sight.now.heads.now.rising) c.args.on c.args.on q told.0, told.1)))
