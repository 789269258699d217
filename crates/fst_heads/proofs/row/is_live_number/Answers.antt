use Rattle.fst_heads.proofs.{Basics.{◌∙◌, ap, sym}, Words.is_live_place, Indices.{live_at, not_live_none}}
use Rattle.fst_heads.proofs.row.is_live_number.Goals as goal

pub returns-in-Some : goal.returns-in-Some
returns-in-Some c =
    let p = live_at c.args.heads.now.list.items c.args.number c.in-Some.index c.index.result.now c.args.heads.now.rising c.in-Some.ensures.found in
    let said = c.is_live.ensures ∙ ap (λ h. is_live_place h.place) c.index.ensures in
    (λ e. p.0 (sym said ∙ e), λ l. said ∙ p.1 l)

pub returns-in-None : goal.returns-in-None
returns-in-None c = ((λ e. cc), λ l. absurd (not_live_none c.args.heads.now.list.items c.args.number c.in-None.ensures.none l))
