use Rattle.std.proofs.Common.{◌∙◌, List, Contains, sym, subst}
use Rattle.std.proofs.lemmas.Grind.{get_or_picked}
use Rattle.fst_levels.specs.declared.needs.Way.{Way}
use Rattle.fst_levels.proofs.needs.Needs.reserve_way.Goals as goal

-- what is kept is among what there was
pub returns-clause-ways : goal.returns-clause-ways
returns-clause-ways c =
    rw (← c.self.view_is) (λ w h.
    let kept = c.retain.ensures.filtered in
    let there = subst (λ (ws : List Way). Contains ws w) (c.reserve.ensures.items ∙ kept.4) h in
    let was = (get_or_picked kept.0 c.self.inside.ways.items there.0 w there.1).1 in
    (was.0, was.1, sym was.2 ∙ there.2))
