use Rattle.std.proofs.Common.{◌≡◌, ◌∙◌, get_or, ap, sym}
use Rattle.fst_heads.specs.{Heads.patch_of, Tests.passes}
use Rattle.fst_levels.proofs.NearRow.{no_patch, passes_here, here_passes}
use Rattle.fst_levels.proofs.shortcuts.passes_at.Goals as goal

pub returns-in-Some : goal.returns-in-Some
returns-in-Some c =
    let heads = c.args.sight.now.heads.now.list.items in
    let s = c.in-Some.index in
    let d = c.index.result.now in
    let found = c.in-Some.ensures.found in
    let said : c.passes.result ≡ passes c.args.test (patch_of (get_or heads s d)) = c.passes.ensures ∙ ap (λ h. passes c.args.test (patch_of h)) c.index.ensures in
    (λ e. passes_here heads c.args.sight.now.heads.now.rising c.args.number s d found c.args.test (sym said ∙ e), λ p. said ∙ here_passes heads c.args.sight.now.heads.now.rising c.args.number s d found c.args.test p)

pub returns-in-None : goal.returns-in-None
returns-in-None c = ((λ e. cc), λ p. absurd (no_patch c.args.sight.now.heads.now.list.items c.args.number c.in-None.ensures.none p.patch p.head p.numbered))
