use Rattle.std.proofs.lemmas.Grind.{common_steps}
use Rattle.std.proofs.Common.{◌≡◌, ◌≤◌, ◌∙◌, get_or, Contains, ap, sym, subst, inl, inr, arith}
use Rattle.std.proofs.lemmas.List.Elements.{Contains-get_or}
use Rattle.fst_types.specs.{Closure.one, Dependencies.{DirectlyOn, IsLiveNumber}}
use Rattle.fst_heads.specs.{Heads.patches_of, declared.head.Head.Head}
use Rattle.fst_heads.proofs.{PendingAt.node_in, Indices.{any_default}}
use Rattle.fst_walks.specs.{BothEnds.{IsLow, StepsLow}, Descending.Visits}
use Rattle.fst_levels.specs.{Leveling.level_of, Walks.numbers_met, WayBack.{Crosses}}
use Rattle.fst_levels.proofs.{Above.{above_from, above_there, above_to}, Holding.live_up, MetNumbers.{index_met, long_met}}
use Rattle.fst_walks.proofs.{CrossingBack.{off_disk}, Visiting.{visits_both, visits_same}}
use Rattle.fst_walks.proofs.way_up.step_up.Goals as goal

pub visit_low_row-requires-clause-live : goal.visit_low_row-requires-clause-live
visit_low_row-requires-clause-live c n named p h e =
    let sight = c.args.sight.now in
    let heads = sight.heads.now.list.items in
    let patches = patches_of heads in
    let walk = c.args.walk.now in
    let met = numbers_met heads walk in
    let s = c.index_at-index.result in
    let d : Head = c.index-head.result.now in
    let index = index_met heads walk c.args.at s c.requires.visited.long c.requires.at c.index_at-index.ensures.index c.index_at-index.ensures.inside in
    let x : Head = get_or heads s d in
    let here = node_in heads s x index.0 (any_default heads s d x index.0) in
    let below = subst (IsLiveNumber patches) (sym (index.1 d)) (c.requires.visited.live (get_or met c.args.at 0) (Contains-get_or met c.args.at 0 (omega (arith, c.requires.at, long_met heads walk)))) in
    let over = above_there heads c.requires.sees.linked x here p n h e (subst (λ row. Contains row n) (c.as_slice-above.ensures ∙ ap (λ h. h.dependants.items) c.index-head.ensures) named) in
    off_disk heads c.args.sight.now.heads.now.rising n (live_up patches c.requires.sees.disk n x.number (one over) below) p h e

pub returns-clause-visits : goal.returns-clause-visits
returns-clause-visits c =
    let sight = c.args.sight.now in
    let heads = sight.heads.now.list.items in
    let patches = patches_of heads in
    let level = level_of sight.levels.now.ranks in
    let most = c.args.most in
    let walk = c.args.walk.now in
    let met = numbers_met heads walk in
    let now = c.args.crossed.now in
    let n = get_or met c.args.at 0 in
    let s = c.index_at-index.result in
    let d : Head = c.index-head.result.now in
    let index = index_met heads walk c.args.at s c.requires.visited.long c.requires.at c.index_at-index.ensures.index c.index_at-index.ensures.inside in
    let x : Head = get_or heads s d in
    let mid = numbers_met heads c.visit_low_row.new.walk in
    let new = numbers_met heads c.cross-across.new.walk in
    let here = node_in heads s x index.0 (any_default heads s d x index.0) in
    let number : x.number ≡ n = index.1 d in
    let above : Visits (λ q. DirectlyOn patches q n × IsLow patches level most q) met mid =
    visits_same _ (λ q. DirectlyOn patches q n × IsLow patches level most q) met mid
    (λ q k. (subst (DirectlyOn patches q) number (above_from heads c.requires.sees.linked x here q (subst (λ row. Contains row q) (c.as_slice-above.ensures ∙ ap (λ h. h.dependants.items) c.index-head.ensures) k.0) k.1.0), k.1))
    (λ q k. (subst (λ row. Contains row q) (sym (c.as_slice-above.ensures ∙ ap (λ h. h.dependants.items) c.index-head.ensures)) (above_to heads c.requires.sees.linked x here q (subst (DirectlyOn patches q) (sym number) k.0)), k.1))
    c.visit_low_row.ensures.visits in
    let across = subst (λ m. Visits (λ q. Crosses patches now m q × (level q ≤ most)) mid new) (ap (λ h. h.number) c.index-head.ensures ∙ number) c.cross-across.ensures.visits in
    visits_both (λ q. DirectlyOn patches q n × IsLow patches level most q) (λ q. Crosses patches now n q × (level q ≤ most)) (StepsLow patches level most now n) met mid new (λ q k. k) (λ q k. inl k) (λ q k. inr k) above across

pub returns-clause-crossed : goal.returns-clause-crossed
returns-clause-crossed c = grind (arith, common_steps)

pub returns-clause-room : goal.returns-clause-room
returns-clause-room c = grind (arith, common_steps)

pub returns-clause-visited : goal.returns-clause-visited
returns-clause-visited c = grind (arith, common_steps)
