-- What is seen of the patches that are not forgotten is seen of all whose heads are kept.
use Rattle.std.proofs.Common.{◌≡◌, ◌≤◌, ◌+◌, ◌↔◌, ◌⊎◌, ℕ, ◌==◌, Bool, true, false, not, List, [], ◌∷◌, Option, Some, None, filter, length, count_by, refl, sym, ap, subst, ◌∙◌, inl, inr, arith}
use Rattle.std.proofs.lemmas.{Bool.{cases_Bool, eqb-true}, List.Sums.length-filter}
use Rattle.fst_types.specs.{Facts.IsOnDiskWithAll, Looks.{IsPick, place_among, place_of}, Patches.{Patch}, Tests.{is_at, is_live}}
use Rattle.fst_types.specs.{Writable.{IsWritableSet, HasReady, IsHeld, IsLeastHeld, IsWritable}, declared.place.Place.Place}
use Rattle.fst_types.proofs.{Finite.{In, Contains-from_In}, Numbers.{clash, flight_disk}}
use Rattle.fst_heads.proofs.Forgetting.{counted}
use Rattle.fst_graph.specs.{Known.{IsStuckByGates, NoneFlies}, Remembered.{remembered, AreGone}}
use Rattle.fst_graph.proofs.Remembered.{was, kept, memory, blocked, set, filter_twice}
use Rattle.fst_types.specs.declared.place.Place.TheVariants as place

disk_dead : (x : Place) → x ≡ place.Disk → not (is_at x place.Disk) ≡ false
disk_dead x e = rw e refl

module _ (gone : ℕ → Bool) where
  -- the place of a number
  all_disk : (n : ℕ) (xs : List Patch) → ((p : Patch) → In xs p → p.number ≡ n → p.place ≡ place.Disk) → place_among xs n ≡ place.Disk
  all_disk n [] disk = refl
  all_disk n (x ∷ xs) disk = elim (cases_Bool (x.number == n)) [
    | inl e ↦ rw e (disk x (inl refl) (eqb-true x.number n e))
    | inr e ↦ rw e (all_disk n xs (λ p i. disk p (inr i)))
  ]

  pub other_number : (x n : ℕ) → gone n ≡ false → gone x ≡ true → (x == n) ≡ false
  other_number x n e t = elim (cases_Bool (x == n)) [ inl same ↦ absurd (clash (gone n) (subst (λ m. gone m ≡ true) (eqb-true x n same) t) e) | inr f ↦ f ]

  known_place : (n : ℕ) → gone n ≡ false → (xs : List Patch) → place_among (remembered gone xs) n ≡ place_among xs n
  known_place n e [] = refl
  known_place n e (x ∷ xs) =
      let rest = known_place n e xs in
      elim (cases_Bool (gone x.number)) [
        | inl t ↦ rw (t, other_number x.number n e t) rest
        | inr f ↦ elim (cases_Bool (x.number == n)) [ inl here ↦ rw (f, here) refl | inr away ↦ rw (f, away) rest ]
      ]

  module _ (heads : List Patch) (G : AreGone gone heads) where
    abbrev pub S : List Patch
    S = remembered gone heads

    pub place_remembered : (numbers n : ℕ) → place_of S numbers n ≡ place_of heads numbers n
    place_remembered numbers n = rw (same (cases_Bool (gone n))) refl
      where
        same : (gone n ≡ true) ⊎ (gone n ≡ false) → place_among S n ≡ place_among heads n
        same (inl t) =
            all_disk n S (λ p i e. absurd (clash (gone n) t (subst (λ m. gone m ≡ false) e (was gone heads p (Contains-from_In S p i)).1)))
            ∙ sym (all_disk n heads (λ p i e. G p (Contains-from_In heads p i) (subst (λ m. gone m ≡ true) (sym e) t)))
        same (inr f) = known_place n f heads

    -- what is live, and what is on disk
    pub live_remembered : filter is_live S ≡ filter is_live heads
    live_remembered = filter_twice is_live (λ (p : Patch). not (gone p.number)) heads (λ p i e. disk_dead p.place (G p (Contains-from_In heads p i) (dead (gone p.number) e)))
      where
        dead : (x : Bool) → not x ≡ false → x ≡ true
        dead true e = refl
        dead false e = sym e

    pub live_count : count_by is_live S ≡ count_by is_live heads
    live_count = sym (length-filter is_live S) ∙ (ap length live_remembered ∙ length-filter is_live heads)

    pub disk_count : count_by is_live heads + count_by (λ p. is_at p.place place.Disk) S ≡ length S
    disk_count = let k = counted S in let l = length-filter is_live S in let c = live_count in omega (arith, k, l, c)

    -- so many are live at most
    pub live_few : count_by is_live heads ≤ length S
    live_few = let k = disk_count in omega (arith, k)

    pub none_flies : (b : ℕ) → NoneFlies S b ↔ NoneFlies heads b
    none_flies b = (
      λ none p h on e. none p (kept gone heads G p h (λ d. flight_disk p.place e d)) on e,
      λ none p h on e. none p (was gone heads p h).0 on e,
    )

    module _ (D : IsOnDiskWithAll heads) where
      pub choice : (b : ℕ) (chosen : List ℕ) → IsWritableSet S b chosen ↔ IsWritableSet heads b chosen
      choice b chosen = (
        λ l. record {
          rising = l.rising;
          only = λ n c. let x = l.only n c in (x.0, x.1, (set gone heads G D b x.0).0 x.2);
          each = λ n w. l.each n (w.0, w.1, (set gone heads G D b w.0).1 w.2);
        },
        λ l. record {
          rising = l.rising;
          only = λ n c. let x = l.only n c in (x.0, x.1, (set gone heads G D b x.0).1 x.2);
          each = λ n w. l.each n (w.0, w.1, (set gone heads G D b w.0).0 w.2);
        },
      )

      pub ready : (b : ℕ) → HasReady S b ↔ HasReady heads b
      ready b = (λ r. (r.0, (set gone heads G D b r.0).0 r.1), λ r. (r.0, (set gone heads G D b r.0).1 r.1))

      pub held : (b : ℕ) (p : Patch) → IsHeld S b p ↔ IsHeld heads b p
      held b p = (
        λ h. record { in_memory = (memory gone heads G b p).0 h.in_memory; hard = h.hard; left_out = λ w. h.left_out ((set gone heads G D b p).1 w) },
        λ h. record { in_memory = (memory gone heads G b p).1 h.in_memory; hard = h.hard; left_out = λ w. h.left_out ((set gone heads G D b p).0 w) },
      )

      pub least_held : (b n : ℕ) → IsLeastHeld heads b n → IsLeastHeld S b n
      least_held b n l = record { patch = l.patch; numbered = l.numbered; held = (held b l.patch).1 l.held; least = λ p h. l.least p ((held b p).0 h) }

      pub writable : (b : ℕ) → IsWritable S b ↔ IsWritable heads b
      writable b = (
        λ w. record { none_flies = (none_flies b).0 w.none_flies; some = (ready b).0 w.some; hard = λ p i h. (set gone heads G D b p).0 (w.hard p ((memory gone heads G b p).1 i) h) },
        λ w. record { none_flies = (none_flies b).1 w.none_flies; some = (ready b).1 w.some; hard = λ p i h. (set gone heads G D b p).1 (w.hard p ((memory gone heads G b p).0 i) h) },
      )

      pub pick : (o : Option ℕ) → IsPick heads o → IsPick S o
      pick None none = λ b w. none b ((writable b).0 w)
      pick (Some b) l = record { writable = (writable b).1 l.writable; least = λ c w. l.least c ((writable c).0 w) }

      pub stuck : IsStuckByGates heads → IsStuckByGates S
      stuck s none p b i =
          (blocked gone heads G D p.number).1 (s (λ o h e. none o (kept gone heads G o h (λ d. flight_disk o.place e d)) e) p b ((memory gone heads G b p).0 i))
