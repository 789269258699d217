use Rattle.fst_heads.proofs.{Basics.{◌≡◌, ◌∙◌, ℕ, List, Some, Contains, get_or, ap, sym, subst, inl, inr}, Patches.{Patch, block_of_kind}}
use Rattle.fst_heads.proofs.{Words.{Head, IsRising, kind_of, patches_of, HasIndex}, Indices.{patch_is, index_in, patch_index, none_index}}
use Rattle.fst_heads.proofs.places.block_of.Goals as goal

-- the block of the patch at the index
block_at : (heads : List Head) (p : Patch) (n s : ℕ) (d : Head) → IsRising heads → HasIndex heads n s → Contains (patches_of heads) p → p.number ≡ n → block_of_kind (kind_of (get_or heads s d).kind) ≡ block_of_kind p.kind
block_at heads p n s d rising index there numbered =
    ap (λ q. block_of_kind q.kind) (patch_is heads p s d rising there (subst (λ m. HasIndex heads m s) (sym numbered) index))

pub returns-in_err-index : goal.returns-in_err-index
returns-in_err-index c p there numbered =
    let t = index_in c.args.heads.now.list.items p there in
    absurd (none_index c.args.heads.now.list.items c.args.number t.0 c.in_err-index.ensures.none (subst (λ n. HasIndex c.args.heads.now.list.items n t.0) numbered (patch_index c.args.heads.now.list.items p t.0 t.1 t.2)))

pub returns-in-Change : goal.returns-in-Change
returns-in-Change c p there numbered =
    ap Some c.from.ensures ∙ (sym (ap (λ k. block_of_kind (kind_of k)) c.in-Change.is) ∙ (ap (λ h. block_of_kind (kind_of h.kind)) c.index.ensures ∙ block_at c.args.heads.now.list.items p c.args.number c.in_ok-index.index _ c.args.heads.now.rising c.in_ok-index.ensures.found there numbered))

pub returns-in-Empty : goal.returns-in-Empty
returns-in-Empty c p there numbered =
    elim c.in-Empty.is [
      | inl e ↦ sym (ap (λ k. block_of_kind (kind_of k)) e) ∙ (ap (λ h. block_of_kind (kind_of h.kind)) c.index.ensures ∙ block_at c.args.heads.now.list.items p c.args.number c.in_ok-index.index _ c.args.heads.now.rising c.in_ok-index.ensures.found there numbered)
      | inr o ↦ elim o [
        | inl e ↦ sym (ap (λ k. block_of_kind (kind_of k)) e) ∙ (ap (λ h. block_of_kind (kind_of h.kind)) c.index.ensures ∙ block_at c.args.heads.now.list.items p c.args.number c.in_ok-index.index _ c.args.heads.now.rising c.in_ok-index.ensures.found there numbered)
        | inr e ↦ sym (ap (λ k. block_of_kind (kind_of k)) e) ∙ (ap (λ h. block_of_kind (kind_of h.kind)) c.index.ensures ∙ block_at c.args.heads.now.list.items p c.args.number c.in_ok-index.index _ c.args.heads.now.rising c.in_ok-index.ensures.found there numbered)
      ]
    ]
