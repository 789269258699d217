use Rattle.std.proofs.Common.{◌≡◌, ◌∙◌, ◌&&◌, ℕ, Option, get_or, sym, ap}
use Rattle.fst_types.specs.{Patches.block_of_kind, Tests.is_change_at}
use Rattle.fst_heads.specs.{Heads.{kind_of, patch_of}, Tests.is_hard_kind, declared.head.Head.Head}
use Rattle.fst_walks.proofs.CrossingBack.{no_change}
use Rattle.fst_levels.proofs.{Above.{hard_on_here, hard_same}, NearRow.{hard_here, here_hard}}
use Rattle.fst_types.specs.declared.place.Place.TheVariants as place
use Rattle.fst_walks.proofs.way_down.is_any_hard.Goals as goal

abbrev block_of : Head → Option ℕ
block_of h = block_of_kind (kind_of h.kind)

pub returns-in-Change : goal.returns-in-Change
returns-in-Change c =
    let heads = c.args.sight.now.heads.now.list.items in
    let rising = c.args.sight.now.heads.now.rising in
    let n = c.args.number in
    let s = c.args.index in
    let b = c.in-Change.block in
    let d = c.index-head.result.now in
    let said : c.is_hard_in.result ≡ (is_change_at place.Memory b (patch_of (get_or heads s d)) && is_hard_kind (kind_of (get_or heads s d).kind)) = c.is_hard_in.ensures ∙ ap (λ h. is_change_at place.Memory b (patch_of h) && is_hard_kind (kind_of h.kind)) c.index-head.ensures in
    let on = sym (ap block_of c.index-head.ensures) ∙ ap (λ k. block_of_kind (kind_of k)) c.in-Change.is in (
      λ e. (b, hard_here heads rising n s d c.requires.index b (sym said ∙ e)),
      λ h. said ∙ here_hard heads rising n s d c.requires.index b (hard_same heads rising n s d c.requires.index b on h.0 h.1),
    )

pub returns : goal.returns
returns c =
    (λ e. cc, λ h. absurd (no_change _ c.in_default.not-Change h.0 (ap block_of c.index-head.ensures ∙ (hard_on_here c.args.sight.now.heads.now.list.items c.args.sight.now.heads.now.rising c.args.number c.args.index c.index-head.result.now c.requires.index h.0 h.1).change)))
