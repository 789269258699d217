use Rattle.std.proofs.Common.{◌≡◌, ◌∙◌, ℕ, Contains, get_or, ap, sym, subst}
use Rattle.fst_types.specs.{Closure.one, Dependencies.DependsOn}
use Rattle.fst_heads.specs.{Heads.{patch_of, patches_of}, Indices.HasIndex, declared.head.Head.Head}
use Rattle.fst_heads.proofs.Indices.{direct_at, patch_at}
use Rattle.fst_levels.specs.Leveling.{jump_of}
use Rattle.fst_walks.proofs.GateBelow.{of_either, of_some}
use Rattle.fst_walks.proofs.gate_below.step_on.Goals as goal

pub returns : goal.returns
returns c =
    let heads = c.args.sight.now.heads.now.list.items in
    let patches = patches_of heads in
    let ranks = c.args.sight.now.levels.now.ranks in
    let at = c.args.index in
    let d : Head = c.index-head.result.now in
    let far = c.rank_of-far.result.ancestry.jump in
    of_either (λ s. (q : ℕ) × HasIndex heads q s.index × ((n : ℕ) → HasIndex heads n at → DependsOn patches n q)) c.shortest-down.result c.step_to.result c.shorter.result c.shorter.ensures
    (of_some _ _ c.shortest-down.result (λ s is below. (below.0, below.2, λ n here. one (direct_at heads n below.0 at d here (subst (λ row. Contains row below.0) (c.as_slice.ensures ∙ ap (λ h. h.dependencies.items) c.index-head.ensures) below.1)))) c.shortest-down.ensures)
    (of_some _ _ c.step_to.result
    (λ s is here. (
      far,
      here,
      λ n own.
          let up : jump_of ranks (get_or heads at d).number ≡ (get_or heads s.index d).number = ap (λ h. jump_of ranks h.number) (sym c.index-head.ensures) ∙ (sym c.rank_of-far.ensures.jump ∙ sym (here.1 d)) in
          subst (λ m. DependsOn patches m far) (own.1 d) (subst (DependsOn patches (get_or heads at d).number) (here.1 d) (c.requires.sees.leveled.jumps.over (patch_of (get_or heads at d)) (patch_of (get_or heads s.index d)) (patch_at heads at d own.0) (patch_at heads s.index d here.0) up)),
    ))
    c.step_to.ensures)
