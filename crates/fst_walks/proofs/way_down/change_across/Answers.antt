use Rattle.std.proofs.Common.{◌<◌, Contains, false, length, get_or, sym, ap, subst, ◌∙◌, inr, arith}
use Rattle.std.proofs.lemmas.{Bool.false≢true, List.Elements.{Contains-get_or}}
use Rattle.fst_types.specs.{Patches.block_of_kind}
use Rattle.fst_heads.specs.{Heads.{kind_of, patches_of}, Reaching.IsReached, declared.head.Head.Head}
use Rattle.fst_heads.proofs.{Indices.patch_at, Listing.rising_patches}
use Rattle.fst_levels.specs.{Needing.needs_of, Walks.numbers_met}
use Rattle.fst_levels.proofs.{ComesBack.live_number, MetNumbers.{index_met, long_met}}
use Rattle.fst_walks.proofs.CrossingDown.{crosses_from}
use Rattle.fst_walks.proofs.way_down.change_across.Goals.{After-from-block}
use Rattle.fst_walks.proofs.way_down.change_across.Goals as goal

-- the block of the change is one of the blocks
inside : (c : After-from-block) → c.in-Change.block < length c.args.sight.now.lists.now
inside c = c.requires.sees.inside _ c.in-Change.block (patch_at c.args.sight.now.heads.now.list.items c.index_at.result _ (omega (arith, c.index_at.ensures.inside, c.requires.visited.long))) ((sym (ap (λ (h : Head). block_of_kind (kind_of h.kind)) c.index.ensures) ∙ ap (λ k. block_of_kind (kind_of k)) c.in-Change.is))

pub bounds-crossed-block : goal.bounds-crossed-block
bounds-crossed-block c = let lt = inside (goal.at.bounds-crossed-block c).After-from-block in omega (arith, lt, c.from-block.ensures, c.requires.crossed)

pub newest_on-requires : goal.newest_on-requires
newest_on-requires c = let lt = inside (goal.at.newest_on-requires c).After-from-block in omega (arith, lt, c.from-block.ensures, c.requires.sees.needing.long)

pub returns-then-is_high_change : goal.returns-then-is_high_change
returns-then-is_high_change c =
    let sight = c.args.sight.now in
    let heads = sight.heads.now.list.items in
    let patches = patches_of heads in
    let walk = c.args.walk.now in
    let needs = needs_of sight.needs.now.lists in
    let crossed = c.args.crossed.now in
    let b = c.in-Change.block in
    let q = c.in_ok-number.number in
    let met = numbers_met heads walk in
    let n = get_or met c.args.at 0 in
    let v = c.requires.visited in
    let rising = c.args.sight.now.heads.now.rising in
    let index = index_met heads walk c.args.at c.index_at.result v.long c.requires.at c.index_at.ensures.index c.index_at.ensures.inside in
    let live = v.live n (Contains-get_or met c.args.at 0 (omega (arith, c.requires.at, long_met heads walk))) in
    let on = (sym (ap (λ (h : Head). block_of_kind (kind_of h.kind)) c.index.ensures) ∙ ap (λ k. block_of_kind (kind_of k)) c.in-Change.is) in
    let fresh : IsReached crossed b → ⊥ = λ r. false≢true (sym c.if-crossed-block.false ∙ (ap (λ k. get_or crossed k false) c.from-block.ensures ∙ r)) in
    let told = c.is_high_change.ensures c.if-is_high_change.true in
    (told.0, inr (crosses_from heads rising needs n c.index_at.result _ index live b on crossed q fresh (subst (λ k. Contains (needs k) q) c.from-block.ensures c.in_ok-number.ensures, live_number patches (rising_patches heads rising) c.args.on c.args.on q told.0), told.1))
