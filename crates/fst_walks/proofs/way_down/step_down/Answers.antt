use Rattle.std.proofs.Common.{◌≤◌, ◌∙◌, get_or, ap, sym, subst, inl, inr, arith}
use Rattle.std.proofs.lemmas.List.Elements.{Contains-get_or}
use Rattle.fst_types.specs.Dependencies.{IsLiveNumber}
use Rattle.fst_heads.specs.{Heads.patches_of, Indices.HasIndex}
use Rattle.fst_heads.proofs.Indices.{index_here}
use Rattle.fst_walks.specs.{BothEnds.{CrossesDown, ShowsBlockUnder, StepsBelow, StepsHigh}, Descending.Visits}
use Rattle.fst_levels.specs.{Leveling.level_of, Needing.needs_of, Walks.numbers_met}
use Rattle.fst_levels.proofs.MetNumbers.{index_met, long_met}
use Rattle.fst_walks.proofs.Visiting.{visits_both}
use Rattle.fst_walks.proofs.way_down.step_down.Goals as goal

pub visit_high_below-below-requires-clause-index : goal.visit_high_below-below-requires-clause-index
visit_high_below-below-requires-clause-index c = subst (λ n. HasIndex c.args.sight.now.heads.now.list.items n c.index_at-index.result) (sym (ap (λ h. h.number) c.index.ensures)) (index_here c.args.sight.now.heads.now.list.items c.index_at-index.result c.index.result.now (omega (arith, c.index_at-index.ensures.inside, c.requires.visited.long)))

pub cross-across-requires-clause-live : goal.cross-across-requires-clause-live
cross-across-requires-clause-live c =
    let heads = c.args.sight.now.heads.now.list.items in
    let walk = c.args.walk.now in
    let met = numbers_met heads walk in
    let at = c.args.at in
    let v = c.requires.visited in
    let index = index_met heads walk at c.index_at-index.result v.long c.requires.at c.index_at-index.ensures.index c.index_at-index.ensures.inside in
    subst (IsLiveNumber (patches_of heads)) (sym (ap (λ h. h.number) c.index.ensures ∙ index.1 c.index.result.now)) (v.live (get_or met at 0) (Contains-get_or met at 0 (omega (arith, c.requires.at, long_met heads walk))))

pub cross-across-requires-clause-index : goal.cross-across-requires-clause-index
cross-across-requires-clause-index c = subst (λ n. HasIndex c.args.sight.now.heads.now.list.items n c.index_at-index.result) (sym (ap (λ h. h.number) c.index.ensures)) (index_here c.args.sight.now.heads.now.list.items c.index_at-index.result c.index.result.now (omega (arith, c.index_at-index.ensures.inside, c.requires.visited.long)))

pub returns-clause-visits : goal.returns-clause-visits
returns-clause-visits c =
    let heads = c.args.sight.now.heads.now.list.items in
    let patches = patches_of heads in
    let walk = c.args.walk.now in
    let met = numbers_met heads walk in
    let now = c.args.crossed.now in
    let n = get_or met c.args.at 0 in
    let index = index_met heads walk c.args.at c.index_at-index.result c.requires.visited.long c.requires.at c.index_at-index.ensures.index c.index_at-index.ensures.inside in
    let same = ap (λ h. h.number) c.index.ensures ∙ index.1 c.index.result.now in
    let level = level_of c.args.sight.now.levels.now.ranks in
    let least = c.args.least in
    let needs = needs_of c.args.sight.now.needs.now.lists in
    let mid = numbers_met heads c.visit_high_below-below.new.walk in
    let new = numbers_met heads c.cross-across.new.walk in
    let below = subst (λ m. Visits (StepsBelow patches level least m) met mid) same c.visit_high_below-below.ensures.visits in
    let across = subst (λ m. Visits (λ q. CrossesDown patches needs now m q × (least ≤ level q)) mid new) same c.cross-across.ensures.visits in
    visits_both (StepsBelow patches level least n) (λ q. CrossesDown patches needs now n q × (least ≤ level q)) (StepsHigh patches level least needs now n) met mid new (λ q s. s) (λ q k. inl k) (λ q k. inr k) below across

pub returns-clause-crossed : goal.returns-clause-crossed
returns-clause-crossed c =
    let heads = c.args.sight.now.heads.now.list.items in
    let walk = c.args.walk.now in
    let index = index_met heads walk c.args.at c.index_at-index.result c.requires.visited.long c.requires.at c.index_at-index.ensures.index c.index_at-index.ensures.inside in
    let same = ap (λ h. h.number) c.index.ensures ∙ index.1 c.index.result.now in
    subst (λ m. ShowsBlockUnder (patches_of heads) m c.args.crossed.now c.cross-across.new.crossed) same c.cross-across.ensures.crossed
