-- The cover of a block of which no change is left that is not on disk.
use Rattle.fst_heads.proofs.Basics.{◌≡◌, ◌∙◌, ℕ, [], List, filter, length-set, set, Contains, refl, sym, subst, inl, inr, cases_eq, and_from, get_or-set_other}
use Rattle.fst_heads.specs.{Covers.{AreCovered, Covering, IsCovered}, Lists.{entry, entries_on, is_live_on}}
use Rattle.fst_types.specs.{Patches.{IsLive, IsOn, Patch}, Tests.{is_live, is_on}}
use Rattle.fst_types.proofs.{Dropping.in_filter, Finite.{In, In-from_Contains, In-map}, Landing.kind_on}
use Rattle.fst_heads.proofs.Forgetting.{live_place_of}

-- where the list of a block is empty none of its changes is live
none_live : (patches : List Patch) (b : ℕ) → entries_on b patches ≡ [] → (p : Patch) → Contains patches p → IsLive p → IsOn p b → ⊥
none_live patches b none p h live on =
    let kept = in_filter (is_live_on b) patches p (In-from_Contains patches p h) (and_from (is_live p) (is_on b p.kind) (live_place_of p.place live) (kind_on b p.kind on)) in
    subst (λ es. In es (entry p)) none (In-map entry (filter (is_live_on b) patches) p (entry p) kept refl)

-- so its cover may tell anything
pub covered_cleared : (patches : List Patch) (blocks b : ℕ) (covers : List Covering) (cover : Covering) → entries_on b patches ≡ [] → AreCovered patches blocks covers → AreCovered patches blocks (set covers b cover)
covered_cleared patches blocks b covers cover none A = record {
  long = length-set covers b cover ∙ A.long;
  each = λ c d within. elim (cases_eq c b) [
    | inl here ↦
        let none_here = subst (λ k. entries_on k patches ≡ []) (sym here) none in
        record {
          each = λ told q x o. absurd (none_live patches c none_here o.patch o.head o.live o.change);
          bytes = λ told p h live on. absurd (none_live patches c none_here p h live on);
        }
    | inr away ↦ subst (IsCovered patches c) (sym (get_or-set_other covers b c cover d away)) (A.each c d within)
  ];
}
