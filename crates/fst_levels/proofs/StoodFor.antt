-- The head at the index of a number is a hard change in memory: so is the number's patch.
use Rattle.std.proofs.Common.{◌≡◌, ◌∙◌, ◌&&◌, ℕ, true, List, get_or, sym, ap}
use Rattle.fst_types.specs.{Tests.is_change_at}
use Rattle.fst_heads.specs.{Heads.{IsRising, kind_of, patch_of, patches_of}, Indices.HasIndex, Tests.is_hard_kind, declared.head.Head.Head}
use Rattle.fst_levels.specs.Needing.{IsHardAt}
use Rattle.fst_levels.proofs.{NearRow.hard_here, NeedsKept.hard_at}
use Rattle.fst_types.specs.declared.place.Place.TheVariants as place

-- the head at the index of a number
pub hard_at_index : (heads : List Head) → IsRising heads → (n s : ℕ) → HasIndex heads n s → (h : Head) → h ≡ get_or heads s h → (b : ℕ) → (is_change_at place.Memory b (patch_of h) && is_hard_kind (kind_of h.kind)) ≡ true → IsHardAt (patches_of heads) place.Memory b n
hard_at_index heads rising n s index h is b told =
    hard_at (patches_of heads) b n (hard_here heads rising n s h index b (ap (λ (x : Head). is_change_at place.Memory b (patch_of x) && is_hard_kind (kind_of x.kind)) (sym is) ∙ told))
