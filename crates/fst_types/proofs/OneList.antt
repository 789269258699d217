-- What a call's definition fixes: a rising list by what stands in it, and the places after a cascade.
use Rattle.std.proofs.Common.{◌≡◌, ℕ, List, [], ◌∷◌, map, Contains, refl, sym, ap, subst, ◌∙◌, inl, inr}
use Rattle.std.proofs.lemmas.List.Kept.{AllPairs-from_increasing}
use Rattle.fst_types.specs.declared.place.Place.{Place}
use Rattle.fst_types.specs.declared.place.Place.TheVariants as place
use Rattle.fst_types.specs.Lists.{Lists}
use Rattle.fst_types.specs.Patches.{Kind, Patch, block_of_kind}
use Rattle.fst_types.specs.Dependencies.{IsOnDisk}
use Rattle.fst_types.specs.Cascade.{Follows, IsCascadeOf}
use Rattle.fst_types.specs.Facts.{SparseAreLawful}
use Rattle.fst_types.proofs.Finite.{In-from_Contains, Contains-from_In}
use Rattle.fst_types.proofs.Ascends.{ascends_from, same_items}
use Rattle.fst_types.proofs.Crash.{on_disk, same_number}
use Rattle.fst_types.proofs.Cascades.{Settled, settled_back, settled_on, kept_place, kept_open, no_follower_on, kind_cases, arrived}
use Rattle.fst_types.proofs.Numbers.{memory_disk}

map_self : {X : Type 0} (xs : List X) → map (λ x. x) xs ≡ xs
map_self [] = refl
map_self (x ∷ xs) = ap (λ ys. x ∷ ys) (map_self xs)

-- two rising lists of the same numbers are one
pub lists_same : (P Q : ℕ → Type 0) (xs ys : List ℕ) → Lists P xs → Lists Q ys → ((n : ℕ) → P n → Q n) → ((n : ℕ) → Q n → P n) → xs ≡ ys
lists_same P Q xs ys a b f g =
    sym (map_self xs)
    ∙ (same_items (λ (n : ℕ). n) (λ (n : ℕ). n) (λ (n : ℕ). n) (λ (n : ℕ). n) xs ys
    (ascends_from (λ (n : ℕ). n) xs (AllPairs-from_increasing xs a.rising)) (ascends_from (λ (n : ℕ). n) ys (AllPairs-from_increasing ys b.rising))
    (λ x h. (x, In-from_Contains ys x (b.each x (f x (a.only x (Contains-from_In xs x h)))), refl))
    (λ y h. (y, In-from_Contains xs y (a.each y (g y (b.only y (Contains-from_In ys y h)))), refl))
    (λ x y h k e. e)
    ∙ map_self ys)

abbrev patch_of : ℕ → Kind → Place → List ℕ → Patch
patch_of n k x ds = record { number = n; kind = k; place = x; dependencies = ds }

patch_same : (n m : ℕ) (k l : Kind) (x y : Place) (ds es : List ℕ) → n ≡ m → k ≡ l → x ≡ y → ds ≡ es → patch_of n k x ds ≡ patch_of m l y es
patch_same n m k l x y ds es a b c d = ap (λ z. patch_of z k x ds) a ∙ (ap (λ z. patch_of m z x ds) b ∙ (ap (λ z. patch_of m l z ds) c ∙ ap (λ z. patch_of m l y z) d))

-- what is on disk after one cascade is after the other
module _ (mid A B : List Patch) (numbers : ℕ) (ca : IsCascadeOf mid A) (cb : IsCascadeOf mid B) (HA : SparseAreLawful A numbers) (HB : SparseAreLawful B numbers) where
  -- the same patch in the other
  twin : (p : Patch) → Contains A p → (o : Patch) × (q : Patch) × Contains B q × Settled o p × Settled o q
  twin p h = let r = settled_back mid A ca p h in let s = settled_on mid B cb r.0 r.1 in (r.0, s.0, s.1, r.2, s.2)

  comes : (p : Patch) → Contains A p → IsOnDisk B p.number → p.place ≡ place.Disk
  comes =
      arrived mid A ca HA.no_cycle (λ p. IsOnDisk B p.number)
      (λ p b h bound on.
      let t = twin p h in
      kept_place mid A ca t.0 p t.3 b on
      ∙ (sym (kept_place mid B cb t.0 t.1 t.4 b (ap block_of_kind t.4.kind ∙ (sym (ap block_of_kind t.3.kind) ∙ on))) ∙ bound t.1 t.2 (t.4.number ∙ sym t.3.number)))
      (λ p h bound shut.
      let t = twin p h in
      memory_disk t.1.place (HB.on_disk_with_all.open_gates t.1 t.2 (t.4.kind ∙ (sym t.3.kind ∙ shut))) (bound t.1 t.2 (t.4.number ∙ sym t.3.number)))
      (λ p q h bound i named.
      let t = twin p h in
      HB.on_disk_with_all.disk t.1 t.2 (bound t.1 t.2 (t.4.number ∙ sym t.3.number)) q.number (subst (λ ds. Contains ds q.number) (t.3.dependencies ∙ sym t.4.dependencies) named))

-- two cascades of the same patches are one
pub cascade_same : (mid A B : List Patch) (numbers : ℕ) → IsCascadeOf mid A → IsCascadeOf mid B → SparseAreLawful A numbers → SparseAreLawful B numbers → A ≡ B
cascade_same mid A B numbers ca cb HA HB =
    sym (map_self A)
    ∙ (same_items (λ (p : Patch). p.number) (λ (p : Patch). p.number) (λ (p : Patch). p) (λ (p : Patch). p) A B
    (ascends_from (λ p. p.number) A HA.one_place_each.rising) (ascends_from (λ p. p.number) B HB.one_place_each.rising)
    (λ p h. let t = twin mid A B numbers ca cb HA HB p (Contains-from_In A p h) in (t.1, In-from_Contains B t.1 t.2, t.4.number ∙ sym t.3.number))
    (λ q h. let t = twin mid B A numbers cb ca HB HA q (Contains-from_In B q h) in (t.1, In-from_Contains A t.1 t.2, t.4.number ∙ sym t.3.number))
    (λ p q h k e. alike p q (Contains-from_In A p h) (Contains-from_In B q k) e)
    ∙ map_self B)
  where
    -- a follower that is in memory after one is not on disk after the other
    apart : (p q : Patch) → p.place ≡ place.Memory → q.place ≡ place.Disk → (q.place ≡ place.Disk → p.place ≡ place.Disk) → ⊥
    apart p q m d f = memory_disk p.place m (f d)

    placed : (p q : Patch) → Contains A p → Contains B q → (o : Patch) → Settled o p → Settled o q → p.place ≡ q.place
    placed p q h k o s t =
        elim (kind_cases o.kind) [
          | inl c ↦ let n = no_follower_on o.kind c.0 c.1 in s.place n ∙ sym (t.place n)
          | inr other ↦ elim other [
            | inl shut ↦ kept_open mid A ca o p s (s.kind ∙ shut) ∙ sym (kept_open mid B cb o q t (t.kind ∙ shut))
            | inr f ↦ elim (ca.places p h (subst Follows (sym s.kind) f)) [
              | inl m ↦ elim (cb.places q k (subst Follows (sym t.kind) f)) [
                | inl w ↦ m ∙ sym w
                | inr d ↦ absurd (apart p q m d (λ e. comes mid A B numbers ca cb HA HB p h (subst (IsOnDisk B) (t.number ∙ sym s.number) (on_disk B q HB.one_place_each.rising k e))))
              ]
              | inr d ↦ elim (cb.places q k (subst Follows (sym t.kind) f)) [
                | inl w ↦ absurd (apart q p w d (λ e. comes mid B A numbers cb ca HB HA q k (subst (IsOnDisk A) (s.number ∙ sym t.number) (on_disk A p HA.one_place_each.rising h e))))
                | inr w ↦ d ∙ sym w
              ]
            ]
          ]
        ]

    alike : (p q : Patch) → Contains A p → Contains B q → p.number ≡ q.number → p ≡ q
    alike p q h k e =
        let t = twin mid A B numbers ca cb HA HB p h in
        let pair : p ≡ t.1 = patch_same p.number t.1.number p.kind t.1.kind p.place t.1.place p.dependencies t.1.dependencies (t.3.number ∙ sym t.4.number) (t.3.kind ∙ sym t.4.kind) (placed p t.1 h t.2 t.0 t.3 t.4) (t.3.dependencies ∙ sym t.4.dependencies) in
        pair ∙ same_number B t.1 q HB.one_place_each.rising t.2 k (t.4.number ∙ (sym t.3.number ∙ e))
