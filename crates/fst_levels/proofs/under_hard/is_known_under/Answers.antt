use Rattle.std.proofs.Common.{sym, subst}
use Rattle.fst_heads.specs.Heads.{patch_of, patches_of}
use Rattle.fst_heads.proofs.Indices.{patch_at, some_element}
use Rattle.fst_levels.specs.{Leveling.hard_over_of, WayBack.{IsKeptUnder, IsUnderHard}}
use Rattle.fst_levels.proofs.KeptOver.{kept_is_under}
use Rattle.std.proofs.Common.{get_or}
use Rattle.fst_levels.proofs.under_hard.is_known_under.Goals as goal

pub returns-in-Some : goal.returns-in-Some
returns-in-Some c told =
    let heads = c.args.sight.now.heads.now.list.items in
    let patches = patches_of heads in
    let over = hard_over_of c.args.sight.now.levels.now.ranks in
    let b = c.args.block in
    let s = c.in-Some.index in
    let found = c.in-Some.ensures.found in
    let d = some_element heads s found.0 in
    let kept = (c.is_under_hard.ensures c.args.number found).0 told in
    subst (IsUnderHard patches b) (found.1 d)
    (kept_is_under patches over c.requires.leveled.overs b (patch_of (get_or heads s d)) (patch_at heads s d found.0) (subst (IsKeptUnder patches over b) (sym (found.1 d)) kept))
