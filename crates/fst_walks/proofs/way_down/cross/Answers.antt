use Rattle.std.proofs.Common.{◌≡◌, ◌≤◌, ◌∙◌, ℕ, Some, get_or, sym, ap, arith}
use Rattle.std.proofs.lemmas.Bool.{false≢true}
use Rattle.fst_types.specs.Patches.{block_of_kind}
use Rattle.fst_heads.specs.{Heads.{kind_of, patches_of}, Reaching.IsReached, declared.head.Head.Head}
use Rattle.fst_heads.proofs.{Indices.patch_at}
use Rattle.fst_walks.specs.BothEnds.{CrossesDown}
use Rattle.fst_levels.specs.{Leveling.level_of, Needing.needs_of, Walks.numbers_met}
use Rattle.fst_walks.proofs.CrossingDown.{no_change, crosses_from, crosses_to, shows_more, shows_same, crosses_none, shows_none}
use Rattle.fst_walks.proofs.Visiting.{visits_none, visits_same}
use Rattle.fst_walks.proofs.way_down.cross.Goals as goal

pub bounds-crossed-block : goal.bounds-crossed-block
bounds-crossed-block c =
    let inside = c.requires.sees.inside _ c.in-Change.block (patch_at c.args.sight.now.heads.now.list.items c.args.index _ c.requires.index.0) ((sym (ap (λ (h : Head). block_of_kind (kind_of h.kind)) c.index.ensures) ∙ ap (λ k. block_of_kind (kind_of k)) c.in-Change.is)) in
    omega (arith, inside, c.requires.crossed)

pub bounds-crossed-block-then-not-crossed-block : goal.bounds-crossed-block-then-not-crossed-block
bounds-crossed-block-then-not-crossed-block c =
    let inside = c.requires.sees.inside _ c.in-Change.block (patch_at c.args.sight.now.heads.now.list.items c.args.index _ c.requires.index.0) ((sym (ap (λ (h : Head). block_of_kind (kind_of h.kind)) c.index.ensures) ∙ ap (λ k. block_of_kind (kind_of k)) c.in-Change.is)) in
    omega (arith, inside, c.requires.crossed)

pub visit_high_needs-requires-clause-block : goal.visit_high_needs-requires-clause-block
visit_high_needs-requires-clause-block c = c.requires.sees.inside _ c.in-Change.block (patch_at c.args.sight.now.heads.now.list.items c.args.index _ c.requires.index.0) ((sym (ap (λ (h : Head). block_of_kind (kind_of h.kind)) c.index.ensures) ∙ ap (λ k. block_of_kind (kind_of k)) c.in-Change.is))

pub returns-then-not-crossed-block-clause-visits : goal.returns-then-not-crossed-block-clause-visits
returns-then-not-crossed-block-clause-visits c =
    let sight = c.args.sight.now in
    let heads = sight.heads.now.list.items in
    let needs = needs_of sight.needs.now.lists in
    let n = c.args.number in
    let b = c.in-Change.block in
    let crossed = c.args.crossed.now in
    let on = (sym (ap (λ (h : Head). block_of_kind (kind_of h.kind)) c.index.ensures) ∙ ap (λ k. block_of_kind (kind_of k)) c.in-Change.is) in
    let fresh : IsReached crossed b → ⊥ = λ r. false≢true (sym c.if-not-crossed-block.true ∙ r) in
    visits_same _ (λ q. CrossesDown (patches_of heads) needs crossed n q × (c.args.least ≤ level_of sight.levels.now.ranks q)) (numbers_met heads c.args.walk.now) (numbers_met heads c.visit_high_needs.new.walk)
    (λ q k. (crosses_from heads c.args.sight.now.heads.now.rising needs n c.args.index _ c.requires.index c.requires.live b on crossed q fresh k.0, k.1))
    (λ q x. ((crosses_to heads c.args.sight.now.heads.now.rising needs n c.args.index _ c.requires.index c.requires.live b on crossed q x.0).1, x.1))
    c.visit_high_needs.ensures.visits

pub returns-then-not-crossed-block-clause-crossed : goal.returns-then-not-crossed-block-clause-crossed
returns-then-not-crossed-block-clause-crossed c =
    let on = (sym (ap (λ (h : Head). block_of_kind (kind_of h.kind)) c.index.ensures) ∙ ap (λ k. block_of_kind (kind_of k)) c.in-Change.is) in
    let inside = c.requires.sees.inside _ c.in-Change.block (patch_at c.args.sight.now.heads.now.list.items c.args.index _ c.requires.index.0) on in
    shows_more c.args.sight.now.heads.now.list.items c.args.sight.now.heads.now.rising (needs_of c.args.sight.now.needs.now.lists) c.args.number c.args.index _ c.requires.index c.requires.live c.in-Change.block on c.args.crossed.now (omega (arith, inside, c.requires.crossed))

pub returns-else-not-crossed-block-clause-visits : goal.returns-else-not-crossed-block-clause-visits
returns-else-not-crossed-block-clause-visits c =
    let sight = c.args.sight.now in
    let heads = sight.heads.now.list.items in
    let needs = needs_of sight.needs.now.lists in
    let n = c.args.number in
    let b = c.in-Change.block in
    let crossed = c.args.crossed.now in
    let on = (sym (ap (λ (h : Head). block_of_kind (kind_of h.kind)) c.index.ensures) ∙ ap (λ k. block_of_kind (kind_of k)) c.in-Change.is) in
    visits_none (λ q. CrossesDown (patches_of heads) needs crossed n q × (c.args.least ≤ level_of sight.levels.now.ranks q)) (numbers_met heads c.args.walk.now) (λ q x. absurd ((crosses_to heads c.args.sight.now.heads.now.rising needs n c.args.index _ c.requires.index c.requires.live b on crossed q x.0).0 c.if-not-crossed-block.false))

pub returns-else-not-crossed-block-clause-crossed : goal.returns-else-not-crossed-block-clause-crossed
returns-else-not-crossed-block-clause-crossed c =
    let on = (sym (ap (λ (h : Head). block_of_kind (kind_of h.kind)) c.index.ensures) ∙ ap (λ k. block_of_kind (kind_of k)) c.in-Change.is) in
    shows_same c.args.sight.now.heads.now.list.items c.args.sight.now.heads.now.rising (needs_of c.args.sight.now.needs.now.lists) c.args.number c.args.index _ c.requires.index c.requires.live c.in-Change.block on c.args.crossed.now c.if-not-crossed-block.false

pub returns-in_default : goal.returns-in_default
returns-in_default c =
    let none : (b : ℕ) → block_of_kind (kind_of (get_or c.args.sight.now.heads.now.list.items c.args.index c.index.result.now).kind) ≡ Some b → ⊥ = λ b e. no_change _ c.in_default.not-Change b (ap (λ (h : Head). block_of_kind (kind_of h.kind)) c.index.ensures ∙ e) in
    let needs = needs_of c.args.sight.now.needs.now.lists in
    record {
      visited = c.requires.visited;
      visits = crosses_none c.args.sight.now.heads.now.list.items c.args.sight.now.heads.now.rising needs c.args.number c.args.index _ c.requires.index c.requires.live none c.args.crossed.now (λ q. c.args.least ≤ level_of c.args.sight.now.levels.now.ranks q) (numbers_met c.args.sight.now.heads.now.list.items c.args.walk.now);
      crossed = shows_none c.args.sight.now.heads.now.list.items c.args.sight.now.heads.now.rising needs c.args.number c.args.index _ c.requires.index c.requires.live none c.args.crossed.now;
    }
