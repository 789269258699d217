use Rattle.std.proofs.Common.{◌∙◌, get_or, Contains, ap, subst, inr}
use Rattle.fst_types.specs.{Closure.one, Dependencies.DependsOn}
use Rattle.fst_heads.specs.{Heads.{patch_of, patches_of}, declared.head.Head.Head}
use Rattle.fst_heads.proofs.{PendingAt.node_in, Indices.{any_default, patch_at}}
use Rattle.fst_levels.proofs.Above.{above_there}
use Rattle.fst_levels.proofs.ancestors.stand_in.Goals as goal

pub returns : goal.returns
returns c q h e =
    let heads = c.args.sight.now.heads.now.list.items in
    let s = c.in_ok-index.index in
    let t = c.in_ok-over.over in
    let n = c.in_ok-first.first in
    let d : Head = c.index.result.now in
    let index = c.in_ok-index.ensures.found in
    let over = c.in_ok-over.ensures.found in
    let x : Head = get_or heads s d in
    let here = node_in heads s x index.0 (any_default heads s d x index.0) in
    let direct = above_there heads c.requires.sees.linked x here (patch_of (get_or heads t d)) n (patch_at heads t d over.0) (over.1 d) (subst (λ row. Contains row n) (c.as_slice.ensures ∙ ap (λ h. h.dependants.items) c.index.ensures) c.in_ok-first.ensures) in
    inr (subst (DependsOn (patches_of heads) n) (index.1 d) (one direct))
