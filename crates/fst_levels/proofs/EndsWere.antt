-- A change that is not on disk was one before, unless it is the new one: nothing comes back from disk.
use Rattle.std.proofs.Common.{◌≡◌, ◌++◌, ◌∷◌, ◌∙◌, [], ℕ, List, Contains, map, filter, sym, ap, inl, inr}
use Rattle.std.proofs.lemmas.List.Elements.{Contains-push_cases}
use Rattle.fst_types.specs.{Cascade.IsCascadeOf, Facts.SparseAreLawful, Gates.IsOpenNumber, Gating.{gains, sealed}, Patches.{Patch, IsLive, IsOn, block_of_kind}, Tests.is_live}
use Rattle.fst_types.specs.{Writable.{IsWritable, IsWritableSet}, Writing.{landed, launched}}
use Rattle.fst_types.proofs.{Cascades.{kept_place, settled_back}, Dropping.filter_in, Finite.{In-from_Contains, Contains-from_In}, GateGains.In-unmap, Issuing.launched_cases, Landing.landed_cases, Sealing.sealed_cases}
use Rattle.fst_heads.specs.Indices.{PassesAt}
use Rattle.fst_heads.proofs.{Covering.was_gained, Graded.{on_from, on_to}}
use Rattle.fst_heads.specs.declared.test.Test.TheVariants as test

-- it was this one
module _ (old new : List Patch) (b n : ℕ) (x : PassesAt (test.LiveOn b) new n) where
  pub was_this : (o : Patch) → Contains old o → x.patch.number ≡ o.number → (IsOn x.patch b → IsOn o b) → (IsOn x.patch b → IsLive x.patch → IsLive o) → PassesAt (test.LiveOn b) old n
  was_this o head number on live =
      let k = on_from b x.patch.number x.patch.kind x.patch.place x.passed in
      record { patch = o; head = head; numbered = sym number ∙ x.numbered; passed = on_to b o.number o.kind o.place (live k.1 k.0) (on k.1) }

pub end_put : (old : List Patch) (p : Patch) (b n : ℕ) → (p.number ≡ n → ⊥) → PassesAt (test.LiveOn b) (old ++ p ∷ []) n → PassesAt (test.LiveOn b) old n
end_put old p b n other x = elim (Contains-push_cases old p x.patch x.head) [
  | inl was ↦ record { patch = x.patch; head = was; numbered = x.numbered; passed = x.passed }
  | inr e ↦ absurd (other (ap (λ q. q.number) e ∙ x.numbered))
]

pub end_gained : (old : List Patch) (g : ℕ) (names : List ℕ) (b n : ℕ) → PassesAt (test.LiveOn b) (map (gains g names) old) n → PassesAt (test.LiveOn b) old n
end_gained old g names b n x =
    let o = was_gained old g names x.patch x.head in
    was_this old (map (gains g names) old) b n x o.0 o.1 o.2.number (λ on. sym (ap block_of_kind o.2.kind) ∙ on) (λ on live e. live (o.2.place ∙ e))

pub end_left : (old : List Patch) (b n : ℕ) → PassesAt (test.LiveOn b) (filter is_live old) n → PassesAt (test.LiveOn b) old n
end_left old b n x =
    let was = filter_in is_live old x.patch (In-from_Contains (filter is_live old) x.patch x.head) in
    record { patch = x.patch; head = Contains-from_In old x.patch was.0; numbered = x.numbered; passed = x.passed }

module _ (old : List Patch) (numbers b : ℕ) (chosen : List ℕ) (H : SparseAreLawful old numbers) (writable : IsWritable old b) (choice : IsWritableSet old b chosen) where
  pub end_launched : (d n : ℕ) → PassesAt (test.LiveOn d) (map (launched chosen) old) n → PassesAt (test.LiveOn d) old n
  end_launched d n x =
      let new = map (launched chosen) old in
      let r = In-unmap (launched chosen) old x.patch (In-from_Contains new x.patch x.head) in
      let head = Contains-from_In old r.0 r.1 in
      elim (launched_cases old numbers b chosen H writable choice r.0 head) [
        | inl m ↦
            let e = sym r.2 ∙ m.1 in
            was_this old new d n x r.0 head (ap (λ q. q.number) e) (λ on. sym (ap (λ q. block_of_kind q.kind) e) ∙ on) (λ on live disk. let memory = m.0.in_memory.memory in cc)
        | inr s ↦
            let e = sym r.2 ∙ s.0 in
            was_this old new d n x r.0 head (ap (λ q. q.number) e) (λ on. sym (ap (λ q. block_of_kind q.kind) e) ∙ on) (λ on live disk. live (ap (λ q. q.place) e ∙ disk))
      ]

module _ (old new : List Patch) (numbers g : ℕ) (H : SparseAreLawful old numbers) (gate : IsOpenNumber old g) (cascade : IsCascadeOf (map (sealed g) old) new) where
  pub end_sealed : (b n : ℕ) → PassesAt (test.LiveOn b) new n → PassesAt (test.LiveOn b) old n
  end_sealed b n x =
      let mid = map (sealed g) old in
      let m = settled_back mid new cascade x.patch x.head in
      let r = In-unmap (sealed g) old m.0 (In-from_Contains mid m.0 m.1) in
      let head = Contains-from_In old r.0 r.1 in
      elim (sealed_cases old new numbers g H gate cascade r.0 head) [
        | inl k ↦
            let e = sym r.2 ∙ k.1 in
            let none : IsOn x.patch b → ⊥ = λ on. let kind = sym (ap block_of_kind (m.2.kind ∙ ap (λ q. q.kind) e)) ∙ on in cc in
            was_this old new b n x r.0 head (m.2.number ∙ ap (λ q. q.number) e) (λ on. absurd (none on)) (λ on. absurd (none on))
        | inr same ↦
            let e = sym r.2 ∙ same in
            was_this old new b n x r.0 head (m.2.number ∙ ap (λ q. q.number) e) (λ on. sym (ap block_of_kind (m.2.kind ∙ ap (λ q. q.kind) e)) ∙ on)
            (λ on live disk. live (kept_place mid new cascade m.0 x.patch m.2 b on ∙ (ap (λ q. q.place) e ∙ disk)))
      ]

module _ (old new : List Patch) (b : ℕ) (cascade : IsCascadeOf (map (landed b) old) new) where
  pub end_landed : (d n : ℕ) → PassesAt (test.LiveOn d) new n → PassesAt (test.LiveOn d) old n
  end_landed d n x =
      let mid = map (landed b) old in
      let m = settled_back mid new cascade x.patch x.head in
      let r = In-unmap (landed b) old m.0 (In-from_Contains mid m.0 m.1) in
      let head = Contains-from_In old r.0 r.1 in
      elim (landed_cases b r.0) [
        | inl k ↦
            let e = sym r.2 ∙ k.2 in
            was_this old new d n x r.0 head (m.2.number ∙ ap (λ q. q.number) e) (λ on. sym (ap block_of_kind (m.2.kind ∙ ap (λ q. q.kind) e)) ∙ on)
            (λ on live. absurd (live (kept_place mid new cascade m.0 x.patch m.2 d on ∙ ap (λ q. q.place) e)))
        | inr same ↦
            let e = sym r.2 ∙ same.0 in
            was_this old new d n x r.0 head (m.2.number ∙ ap (λ q. q.number) e) (λ on. sym (ap block_of_kind (m.2.kind ∙ ap (λ q. q.kind) e)) ∙ on)
            (λ on live disk. live (kept_place mid new cascade m.0 x.patch m.2 d on ∙ (ap (λ q. q.place) e ∙ disk)))
      ]
