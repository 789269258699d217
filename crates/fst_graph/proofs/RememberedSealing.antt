-- However a gate is sealed among the patches that are not forgotten, it can be sealed so among all whose heads are kept; so what a new change of a group would be is foretold for both.
use Rattle.std.proofs.Common.{◌≡◌, ◌↔◌, ◌==◌, ℕ, Bool, true, false, List, [], ◌∷◌, map, Contains, refl, sym, ap, subst, ◌∙◌, inl, inr}
use Rattle.std.proofs.lemmas.Bool.{cases_Bool}
use Rattle.fst_types.specs.{Cascade.{unsettled, IsCascadeOf}, Dependencies.IsOnDisk, Facts.{IsOnDiskWithAll, SparseAreLawful}, Gating.{sealed, GateIsSealed}, Grouping.GateIsSealedIfOpen}
use Rattle.fst_types.specs.{Patches.Patch, declared.grade.Grade.Grade}
use Rattle.fst_types.proofs.{Alike.back_alike, Finite.{In, In-from_Contains, Contains-from_In}, GateGains.In-unmap, Numbers.clash, Sealing.{alike_sealed, sparse_sealed}}
use Rattle.fst_graph.specs.{Known.Known, Remembered.{remembered, remembered_known, AreGone}, Sparse.{ForetellsSparse, SparseChangeIsMade}}
use Rattle.fst_graph.proofs.{Remembered.{is, on_disk, open_number, remembered_lawful, remembered_map}, RememberedRows.{begun_lawful, gone_begun, sealed_number, sealed_place, stays_on_disk}, RememberedSparse.changed_remembered}
use Rattle.fst_types.specs.declared.place.Place.TheVariants as place
use Rattle.fst_types.proofs.Cascades.{unsettled_number}

sealed_dependencies : (g : ℕ) (p : Patch) → (sealed g p).dependencies ≡ p.dependencies
sealed_dependencies g p = elim (cases_Bool (p.number == g)) [ inl t ↦ rw t refl | inr f ↦ rw f refl ]

number_kept : (p q : Patch) → unsettled p ≡ unsettled q → p.number ≡ q.number
number_kept p q e = sym (unsettled_number p.kind p) ∙ (ap (λ x. x.number) e ∙ unsettled_number q.kind q)

first_same : (x y : Patch) (xs ys : List Patch) → x ∷ xs ≡ y ∷ ys → x ≡ y
first_same x y xs ys e = cc

rest_same : (x y : Patch) (xs ys : List Patch) → x ∷ xs ≡ y ∷ ys → xs ≡ ys
rest_same x y xs ys e = cc

no_more : (x : Patch) (xs : List Patch) → x ∷ xs ≡ [] → ⊥
no_more x xs e = cc

module _ (gone : ℕ → Bool) where
  dropped : (x : Patch) (xs : List Patch) → gone x.number ≡ true → remembered gone (x ∷ xs) ≡ remembered gone xs
  dropped x xs t = rw t refl

  stays : (x : Patch) (xs : List Patch) → gone x.number ≡ false → remembered gone (x ∷ xs) ≡ x ∷ remembered gone xs
  stays x xs f = rw f refl

  -- what is forgotten beside patches that the others settled as
  merged : (xs ns : List Patch) → map unsettled ns ≡ map unsettled (remembered gone xs) → (ys : List Patch) × (map unsettled ys ≡ map unsettled xs) × (remembered gone ys ≡ ns) × ((y : Patch) → In ys y → gone y.number ≡ true → In xs y)
  merged [] [] e = ([], refl, refl, λ y i t. i)
  merged [] (n ∷ ns) e = absurd (no_more (unsettled n) (map unsettled ns) e)
  merged (x ∷ xs) [] e = elim (cases_Bool (gone x.number)) [
    | inl t ↦
        let r = merged xs [] (e ∙ ap (map unsettled) (dropped x xs t)) in
        (x ∷ r.0, ap (λ zs. unsettled x ∷ zs) r.1, dropped x r.0 t ∙ r.2, λ y i u. elim i [ inl h ↦ inl h | inr j ↦ inr (r.3 y j u) ])
    | inr f ↦ absurd (no_more (unsettled x) (map unsettled (remembered gone xs)) (sym (e ∙ ap (map unsettled) (stays x xs f))))
  ]
  merged (x ∷ xs) (n ∷ ns) e = elim (cases_Bool (gone x.number)) [
    | inl t ↦
        let r = merged xs (n ∷ ns) (e ∙ ap (map unsettled) (dropped x xs t)) in
        (x ∷ r.0, ap (λ zs. unsettled x ∷ zs) r.1, dropped x r.0 t ∙ r.2, λ y i u. elim i [ inl h ↦ inl h | inr j ↦ inr (r.3 y j u) ])
    | inr f ↦
        let k = e ∙ ap (map unsettled) (stays x xs f) in
        let one = first_same (unsettled n) (unsettled x) (map unsettled ns) (map unsettled (remembered gone xs)) k in
        let here = subst (λ m. gone m ≡ false) (sym (number_kept n x one)) f in
        let r = merged xs ns (rest_same (unsettled n) (unsettled x) (map unsettled ns) (map unsettled (remembered gone xs)) k) in
        let both : unsettled n ∷ map unsettled r.0 ≡ unsettled x ∷ map unsettled xs = ap (λ z. z ∷ map unsettled r.0) one ∙ ap (λ zs. unsettled x ∷ zs) r.1 in
        (n ∷ r.0, both, stays n r.0 here ∙ ap (λ zs. n ∷ zs) r.2, λ y i u. elim i [ inl h ↦ absurd (clash (gone y.number) u (subst (λ (z : Patch). gone z.number ≡ false) h here)) | inr j ↦ inr (r.3 y j u) ])
  ]

module _ (gone : ℕ → Bool) (heads : List Patch) (numbers : ℕ) (G : AreGone gone heads) (H : SparseAreLawful heads numbers) where
  abbrev S : List Patch
  S = remembered gone heads

  abbrev D : IsOnDiskWithAll heads
  D = H.on_disk_with_all

  sound : SparseAreLawful S numbers
  sound = remembered_lawful gone heads numbers G H

  module _ (g : ℕ) (begun : List Patch) (s : GateIsSealed S g begun) where
    abbrev mid : List Patch
    mid = map (sealed g) heads

    lined : (ys : List Patch) × (map unsettled ys ≡ map unsettled mid) × (remembered gone ys ≡ begun) × ((y : Patch) → In ys y → gone y.number ≡ true → In mid y)
    lined = merged gone mid begun (s.cascade.same ∙ ap (map unsettled) (sym (remembered_map gone (sealed g) (sealed_number g) heads)))

    abbrev all : List Patch
    all = lined.0

    -- what is forgotten is as it was, but that a gate is sealed
    forgotten : (y : Patch) → Contains all y → gone y.number ≡ true → (o : Patch) × Contains heads o × (sealed g o ≡ y) × (o.place ≡ place.Disk)
    forgotten y h t =
        let o = In-unmap (sealed g) heads y (lined.3 y (In-from_Contains all y h) t) in
        let c = Contains-from_In heads o.0 o.1 in
        (o.0, c, o.2, G o.0 c (subst (λ n. gone n ≡ true) (ap (λ x. x.number) (sym o.2) ∙ sealed_number g o.0) t))

    gone_all : AreGone gone all
    gone_all y h t = let o = forgotten y h t in ap (λ x. x.place) (sym o.2) ∙ (sealed_place g o.0 ∙ o.3)

    disk_same : (n : ℕ) → IsOnDisk begun n ↔ IsOnDisk all n
    disk_same n = (λ d. (on_disk gone all gone_all n).0 (subst (λ ps. IsOnDisk ps n) (sym lined.2) d), λ d. subst (λ ps. IsOnDisk ps n) lined.2 ((on_disk gone all gone_all n).1 d))

    disk_stays : (n : ℕ) → IsOnDisk heads n → IsOnDisk all n
    disk_stays n d =
        (disk_same n).0
        (stays_on_disk S (map (sealed g) S) begun sound.on_disk_with_all.disk sound.on_disk_with_all.open_gates (sparse_sealed S begun numbers g sound s.gate s.cascade).no_cycle s.cascade
        (back_alike S begun (alike_sealed S begun numbers g sound s.gate s.cascade)) n ((on_disk gone heads G n).1 d))

    known : (y : Patch) → Contains all y → gone y.number ≡ false → Contains begun y
    known y h f = subst (λ ps. Contains ps y) lined.2 (is gone all y h f)

    cascade : IsCascadeOf mid all
    cascade = record {
      same = lined.1;
      places = λ y h f. elim (cases_Bool (gone y.number)) [ inl t ↦ inr (gone_all y h t) | inr u ↦ s.cascade.places y (known y h u) f ];
      settled = λ y h f. elim (cases_Bool (gone y.number)) [
        | inl t ↦
            let o = forgotten y h t in
            (λ d q c. disk_stays q (D.disk o.0 o.1 o.3 q (subst (λ ds. Contains ds q) (ap (λ x. x.dependencies) (sym o.2) ∙ sealed_dependencies g o.0) c)), λ r. gone_all y h t)
        | inr u ↦
            let k = s.cascade.settled y (known y h u) f in
            (λ d q c. (disk_same q).0 (k.0 d q c), λ r. k.1 (λ q c. (disk_same q).1 (r q c)))
      ];
    }

    pub unsealed : (ys : List Patch) × GateIsSealed heads g ys × (remembered gone ys ≡ begun)
    unsealed = (all, record { gate = (open_number gone heads G D g).0 s.gate; cascade = cascade }, lined.2)

  pub unbegun : (g : ℕ) (begun : List Patch) → GateIsSealedIfOpen S g begun → (ys : List Patch) × GateIsSealedIfOpen heads g ys × (remembered gone ys ≡ begun)
  unbegun g begun s = elim s [
    | inl seal ↦ let k = unsealed g begun seal in (k.0, inl k.1, k.2)
    | inr shut ↦ (heads, inr (λ o. shut.0 ((open_number gone heads G D g).1 o), refl), sym shut.1)
  ]

-- however its head is sealed
pub foretells_known : (gone : ℕ → Bool) (known : Known) → AreGone gone known.heads → SparseAreLawful known.heads known.numbers → (head b at len number : ℕ) (grade : Grade) → gone number ≡ false
    → ForetellsSparse known head b at len number grade → ForetellsSparse (remembered_known gone known) head b at len number grade
foretells_known gone known G H head b at len number grade e told begun s =
    let k = unbegun gone known.heads known.numbers G H head begun s in
    let t = told k.0 k.1 in
    let made = changed_remembered gone k.0 known.numbers (gone_begun gone known.heads known.numbers G H head k.0 k.1) (begun_lawful gone known.heads known.numbers G H head k.0 k.1) b at len (head ∷ []) number grade t.0 e t.1 in
    (remembered gone t.0, subst (λ ps. SparseChangeIsMade ps known.numbers b at len (head ∷ []) number grade (remembered gone t.0)) k.2 made)
