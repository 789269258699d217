use Rattle.std.proofs.Common.{◌≡◌, ◌∙◌, sym, ap, subst}
use Rattle.fst_types.specs.Patches.{IsOn}
use Rattle.fst_types.proofs.Crash.{same_number}
use Rattle.fst_heads.specs.{Heads.{patch_of, patches_of}, Indices.PassesAt, Tests.passes}
use Rattle.fst_heads.proofs.{Listing.rising_patches, Indices.patch_is}
use Rattle.fst_heads.specs.declared.test.Test.TheVariants as test
use Rattle.fst_levels.specs.WayBack.{LeadsBack}
use Rattle.fst_levels.proofs.{ComesBack.live_on, NearRow.passes_here}
use Rattle.fst_levels.proofs.known.known_end.Goals as goal
use Rattle.fst_types.proofs.Numbers.{one_block}

pub returns-then-passes_at : goal.returns-then-passes_at
returns-then-passes_at c p h index =
    let heads = c.args.sight.now.heads.now.list.items in
    let patches = patches_of heads in
    let rising = rising_patches heads c.args.sight.now.heads.now.rising in
    let s = c.args.index in
    let b = c.args.block in
    let d = c.index-head.result.now in
    let end = c.in_ok-end.end in
    let k = c.in_ok-end.ensures in
    let w = k.0 in
    let there : PassesAt (test.LiveOn b) patches w.end = subst (PassesAt (test.LiveOn b) patches) (sym k.3) (c.passes_at.ensures.0 c.if-passes_at.true) in
    let x = c.requires.sees.needing.back w k.1 b there in
    let here = passes_here heads c.args.sight.now.heads.now.rising p.number s d index (test.LiveOn b) (sym (c.passes.ensures ∙ ap (λ h. passes (test.LiveOn b) (patch_of h)) c.index-head.ensures) ∙ c.if-not-passes.false) in
    let own : here.patch ≡ p = same_number patches here.patch p rising here.head h here.numbered in
    let on = subst (λ q. IsOn q b) own (live_on patches rising b b p.number here).1 in
    let number = ap (λ q. q.number) (patch_is heads p s d c.args.sight.now.heads.now.rising h index) in
    let same : x.patch ≡ p = same_number patches x.patch p rising x.head h (x.numbered ∙ (k.2 ∙ (ap (λ h. h.number) c.index-head.ensures ∙ number))) in
    let block = one_block p x.block b (subst (λ q. IsOn q x.block) same x.change) on in
    subst (LeadsBack patches b p.dependencies) k.3 (subst (λ c. LeadsBack patches c p.dependencies w.end) block (subst (λ q. LeadsBack patches x.block q.dependencies w.end) same x.back))
