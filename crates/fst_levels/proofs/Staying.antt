-- What stays on a block goes on to do so: while patches move on, when a gate gains names, and with one patch more.
use Rattle.std.proofs.Common.{◌≡◌, ◌≤◌, ◌+◌, ◌++◌, ◌∷◌, ◌⊎◌, [], ℕ, List, map, Contains, sym, subst, inl, inr, ap, arith}
use Rattle.std.proofs.lemmas.List.Elements.{Contains-push_cases}
use Rattle.fst_types.specs.{Closure.{one, join}, Dependencies.{DirectlyOn, DependsOn}, Facts.HasOnePlaceEach, Gates.IsOpenNumber, Gating.gains, Patches.Patch}
use Rattle.fst_types.proofs.{Alike.closure_map, GateGains.direct_cases}
use Rattle.fst_heads.specs.Indices.{IsAbove, PassesAt}
use Rattle.fst_levels.specs.Needing.{StaysOn}
use Rattle.fst_levels.proofs.Releveled.{off_was, open_was}
use Rattle.fst_heads.specs.declared.test.Test.TheVariants as test

-- what is above something is so further up
pub above_on : (patches : List Patch) (P : ℕ → Type 0) (n k : ℕ) → DependsOn patches n k → IsAbove patches P k → IsAbove patches P n
above_on patches P n k c (inl here) = inr (k, c, here)
above_on patches P n k c (inr below) = inr (below.0, join c below.1, below.2)

-- no way down is new, nor is an open gate or a change of another block that is not on disk
module _ (old new : List Patch) (was : (p q : ℕ) → DirectlyOn new p q → DirectlyOn old p q)
    (open_was : (n : ℕ) → IsOpenNumber new n → IsOpenNumber old n) (off_was : (c n : ℕ) → PassesAt (test.LiveOff c) new n → PassesAt (test.LiveOff c) old n) where
  above_was : (P Q : ℕ → Type 0) → ((n : ℕ) → P n → Q n) → (n : ℕ) → IsAbove new P n → IsAbove old Q n
  above_was P Q now n (inl here) = inl (now n here)
  above_was P Q now n (inr below) = inr (below.0, closure_map (DirectlyOn new) (DirectlyOn old) was n below.0 below.1, now below.0 below.2)

  pub still_stays : (c n : ℕ) → StaysOn old c n → StaysOn new c n
  still_stays c n s = record {
    closed = λ a. s.closed (above_was (IsOpenNumber new) (IsOpenNumber old) open_was n a);
    own = λ a. s.own (above_was (PassesAt (test.LiveOff c) new) (PassesAt (test.LiveOff c) old) (off_was c) n a);
  }

-- an open gate gains names
module _ (old : List Patch) (g : ℕ) (names : List ℕ) (gate : IsOpenNumber old g) where
  abbrev gained : List Patch
  gained = map (gains g names) old

  -- a way down is old, or the gate is on it
  way_gained : (n m : ℕ) → DependsOn gained n m → DependsOn old n m ⊎ IsAbove old (IsOpenNumber old) n
  way_gained n m (one d) = elim (direct_cases old g names n m d) [ inl o ↦ inl (one o) | inr new ↦ inr (inl (subst (IsOpenNumber old) (sym new.0) gate)) ]
  way_gained n m (join {q = k} c d) = elim (way_gained n k c) [
    | inl up ↦ elim (way_gained k m d) [ inl on ↦ inl (join up on) | inr over ↦ inr (above_on old (IsOpenNumber old) n k up over) ]
    | inr over ↦ inr over
  ]

  above_gained : (P Q : ℕ → Type 0) → ((n : ℕ) → P n → Q n) → (n : ℕ) → IsAbove gained P n → IsAbove old Q n ⊎ IsAbove old (IsOpenNumber old) n
  above_gained P Q was n (inl here) = inl (inl (was n here))
  above_gained P Q was n (inr below) = elim (way_gained n below.0 below.1) [ inl way ↦ inl (inr (below.0, way, was below.0 below.2)) | inr over ↦ inr over ]

  pub gained_stays : (c n : ℕ) → StaysOn old c n → StaysOn gained c n
  gained_stays c n s = record {
    closed = λ a. elim (above_gained (IsOpenNumber gained) (IsOpenNumber old) (open_was old g names gate) n a) [ inl was ↦ s.closed was | inr over ↦ s.closed over ];
    own = λ a. elim (above_gained (PassesAt (test.LiveOff c) gained) (PassesAt (test.LiveOff c) old) (off_was old g names gate c) n a) [ inl was ↦ s.own was | inr over ↦ s.closed over ];
  }

-- one patch more, which no old one names
module _ (old : List Patch) (numbers : ℕ) (H : HasOnePlaceEach old numbers) (p : Patch) (next : p.number ≡ numbers + 1) where
  abbrev with_one : List Patch
  with_one = old ++ p ∷ []

  -- what has an old number is old
  was_in : (q : Patch) → Contains with_one q → q.number ≤ numbers → Contains old q
  was_in q head few = elim (Contains-push_cases old p q head) [ inl still ↦ still | inr e ↦ absurd (omega (arith, few, next, ap (λ (v : Patch). v.number) e)) ]

  -- a way down from an old number is old
  way_one : (n m : ℕ) → n ≤ numbers → DependsOn with_one n m → DependsOn old n m × (m ≤ numbers)
  way_one n m few (one d) =
      let still = was_in d.patch d.head (subst (λ k. k ≤ numbers) (sym d.numbered) few) in
      let named = H.named d.patch m still d.named in
      (one (record { patch = d.patch; head = still; numbered = d.numbered; named = d.named }), omega (arith, named))
  way_one n m few (join {q = k} c d) = let up = way_one n k few c in let on = way_one k m up.1 d in (join up.0 on.0, on.1)

  above_one : (P Q : ℕ → Type 0) → ((n : ℕ) → n ≤ numbers → P n → Q n) → (n : ℕ) → n ≤ numbers → IsAbove with_one P n → IsAbove old Q n
  above_one P Q was n few (inl here) = inl (was n few here)
  above_one P Q was n few (inr below) = let way = way_one n below.0 few below.1 in inr (below.0, way.0, was below.0 way.1 below.2)

  pub one_stays : (c n : ℕ) → n ≤ numbers → StaysOn old c n → StaysOn with_one c n
  one_stays c n few s = record {
    closed = λ a. s.closed (above_one (IsOpenNumber with_one) (IsOpenNumber old)
        (λ m k x. record { patch = x.patch; head = was_in x.patch x.head (subst (λ v. v ≤ numbers) (sym x.numbered) k); numbered = x.numbered; is_open = x.is_open }) n few a);
    own = λ a. s.own (above_one (PassesAt (test.LiveOff c) with_one) (PassesAt (test.LiveOff c) old)
        (λ m k x. record { patch = x.patch; head = was_in x.patch x.head (subst (λ v. v ≤ numbers) (sym x.numbered) k); numbered = x.numbered; passed = x.passed }) n few a);
  }
