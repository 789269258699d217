use Rattle.std.proofs.Common.{◌≡◌, ◌∙◌, ◌&&◌, Some, get_or, refl, sym, ap, subst}
use Rattle.fst_heads.specs.{Grading.LeadsNowhere, Heads.{kind_of, patch_of, patches_of}, Indices.HasIndex, Tests.is_hard_kind}
use Rattle.fst_types.specs.Tests.{is_change_at}
use Rattle.fst_heads.proofs.{Listing.rising_patches, Indices.{patch_at, some_element}}
use Rattle.fst_levels.specs.{Walks.number_at, WayBack.LeadsBack}
use Rattle.fst_walks.proofs.{AsBefore.{back_as, hard_as}, Told.{told_back, told_hard}}
use Rattle.fst_levels.proofs.{NearRow.{hard_here, is_it, row_direct}, MetNumbers.index_at}
use Rattle.fst_types.specs.declared.place.Place.TheVariants as place
use Rattle.fst_walks.proofs.before.told_by.Goals as goal

pub returns-then-is_within : goal.returns-then-is_within
returns-then-is_within c =
    let heads = c.args.sight.now.heads.now.list.items in
    let patches = patches_of heads in
    let s = c.args.index in
    let d = c.index-head.result.now in
    let b = c.args.block in
    let row = c.args.row.now in
    let n = number_at heads s in
    let index = index_at heads s c.requires.inside in
    let hard = hard_here heads c.args.sight.now.heads.now.rising n s d index b (sym (c.is_hard_in.ensures ∙ ap (λ h. is_change_at place.Memory b (patch_of h) && is_hard_kind (kind_of h.kind)) c.index-head.ensures) ∙ c.if-is_hard_in.true) in
    told_hard patches b row (LeadsNowhere patches b row) c.hard.result c.hard.ensures.grade c.hard.ensures.end
    (hard_as heads c.args.sight.now.heads.now.rising c.requires.sees.hard b c.requires.sees.disk n row c.as_slice-other.result.now hard (row_direct heads c.args.sight.now.heads.now.rising n s d index c.as_slice-other.result.now (c.as_slice-other.ensures ∙ ap (λ h. h.dependencies.items) c.index-head.ensures)) (c.is_within.ensures c.if-is_within.true))

pub returns : goal.returns
returns c =
    let heads = c.args.sight.now.heads.now.list.items in
    let patches = patches_of heads in
    let sees = c.requires.sees in
    let s = c.args.index in
    let d = c.index-head.result.now in
    let b = c.args.block in
    let row = c.args.row.now in
    let other = c.as_slice-other.result.now in
    let end = c.in_ok-end.end in
    let e = some_element heads s c.requires.inside in
    let p = patch_of (get_or heads s e) in
    let head = patch_at heads s e c.requires.inside in
    let index = index_at heads s c.requires.inside in
    let same : other ≡ p.dependencies = c.as_slice-other.ensures ∙ (ap (λ h. h.dependencies.items) c.index-head.ensures ∙ ap (λ q. q.dependencies) (is_it heads c.args.sight.now.heads.now.rising (number_at heads s) s d index p head (index.1 e))) in
    let back = c.in_ok-end.ensures p head (subst (λ n. HasIndex heads n s) (sym (index.1 e)) index) in
    told_back patches (rising_patches heads c.args.sight.now.heads.now.rising) sees.disk b row c.soft.result (Some end) c.soft.ensures.grade c.soft.ensures.end refl
    (back_as heads c.args.sight.now.heads.now.rising sees.hard b sees.disk row other end (c.is_within-2.ensures c.if-not-is_within.false) (subst (λ ds. LeadsBack patches b ds end) (sym same) back))
