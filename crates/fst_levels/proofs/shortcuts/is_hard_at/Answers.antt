use Rattle.std.proofs.Common.{◌≡◌, ◌∙◌, ◌&&◌, get_or, ap, sym}
use Rattle.fst_types.specs.Tests.{is_change_at}
use Rattle.fst_heads.specs.{Heads.{kind_of, patch_of}, Tests.is_hard_kind}
use Rattle.fst_levels.proofs.NearRow.{no_patch, hard_here, here_hard}
use Rattle.fst_types.specs.declared.place.Place.TheVariants as place
use Rattle.fst_levels.proofs.shortcuts.is_hard_at.Goals as goal

pub returns-in-Some : goal.returns-in-Some
returns-in-Some c =
    let heads = c.args.sight.now.heads.now.list.items in
    let s = c.in-Some.index in
    let d = c.index.result.now in
    let b = c.args.block in
    let found = c.in-Some.ensures.found in
    let said : c.is_hard_in.result ≡ (is_change_at place.Memory b (patch_of (get_or heads s d)) && is_hard_kind (kind_of (get_or heads s d).kind)) = c.is_hard_in.ensures ∙ ap (λ h. is_change_at place.Memory b (patch_of h) && is_hard_kind (kind_of h.kind)) c.index.ensures in
    (λ e. hard_here heads c.args.sight.now.heads.now.rising c.args.number s d found b (sym said ∙ e), λ h. said ∙ here_hard heads c.args.sight.now.heads.now.rising c.args.number s d found b h)

pub returns-in-None : goal.returns-in-None
returns-in-None c = ((λ e. cc), λ h. absurd (no_patch c.args.sight.now.heads.now.list.items c.args.number c.in-None.ensures.none h.patch h.head h.numbered))
