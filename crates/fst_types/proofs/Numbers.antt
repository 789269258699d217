-- Whether a number has a head, and where that stands.
use Rattle.std.proofs.Common.{◌≡◌, ◌⊎◌, ℕ, ◌≤◌, Bool, true, false, not, List, [], ◌∷◌, Contains, Some, None, refl, sym, ap, subst, ◌∙◌, inl, inr, arith}
use Rattle.fst_types.specs.Looks.{place_among, place_of}
use Rattle.fst_types.proofs.Crash.{same_number}
use Rattle.std.specs.Prelude.{find, nat_le, ◌==◌, ◌&&◌}
use Rattle.std.specs.List.{list_any}
use Rattle.std.proofs.lemmas.Bool.{cases_Bool, eqb-true}
use Rattle.fst_types.specs.declared.place.Place.{Place}
use Rattle.fst_types.specs.declared.place.Place.TheVariants as place
use Rattle.fst_types.specs.Patches.{Patch, IsRising, IsOn, IsLive}
use Rattle.fst_types.specs.Tests.{is_at, is_live}
use Rattle.fst_types.specs.Dependencies.{IsOnDisk}
use Rattle.fst_types.proofs.Finite.{In, In-from_Contains, Contains-from_In}

pub clash : (x : Bool) → x ≡ true → x ≡ false → ⊥
clash x a b = cc

pub both : (x y : Bool) → (x && y) ≡ true → (x ≡ true) × (y ≡ true)
both true y e = (refl, e)
both false y e = absurd (clash false e refl)

-- number n has a live head
abbrev pub is_live_number : List Patch → ℕ → Bool
is_live_number heads n = list_any (λ p. p.number == n && is_live p) heads

-- number n has a head in memory
abbrev pub is_number_in_memory : List Patch → ℕ → Bool
is_number_in_memory heads n = list_any (λ p. p.number == n && is_at p.place place.Memory) heads

-- some head with this number passes the test, or none does
number_cases : (u : Patch → Bool) (heads : List Patch) (n : ℕ) → ((p : Patch) × Contains heads p × (p.number ≡ n) × (u p ≡ true) × (list_any (λ q. q.number == n && u q) heads ≡ true))
    ⊎ (((p : Patch) → Contains heads p → p.number ≡ n → u p ≡ true → ⊥) × (list_any (λ q. q.number == n && u q) heads ≡ false))
number_cases u heads n =
    elim (search heads) [
      | inl r ↦ inl (r.0, Contains-from_In heads r.0 r.1, r.2, r.3, r.4)
      | inr m ↦ inr (λ p h. m.0 p (In-from_Contains heads p h), m.1)
    ]
  where
    search : (hs : List Patch) → ((p : Patch) × In hs p × (p.number ≡ n) × (u p ≡ true) × (list_any (λ q. q.number == n && u q) hs ≡ true)) ⊎ (((p : Patch) → In hs p → p.number ≡ n → u p ≡ true → ⊥) × (list_any (λ q. q.number == n && u q) hs ≡ false))
    search [] = inr (λ p h e t. h, refl)
    search (x ∷ xs) =
        elim (cases_Bool (x.number == n && u x)) [
          | inl passes ↦ let k = both (x.number == n) (u x) passes in inl (x, inl refl, eqb-true x.number n k.0, k.1, rw passes refl)
          | inr fails ↦ elim (search xs) [
            | inl r ↦ inl (r.0, inr r.1, r.2, r.3, rw fails r.4)
            | inr m ↦ inr (λ p h e t. elim h [ inl same ↦ clash (x.number == n && u x) (passing x (ap (λ y. y.number) same ∙ e) (ap u same ∙ t)) fails | inr k ↦ m.0 p k e t ], rw fails m.1)
          ]
        ]
      where
        passing : (y : Patch) → y.number ≡ n → u y ≡ true → (y.number == n && u y) ≡ true
        passing y e t = grind (arith, e, t)

pub not_disk : (x : Place) → not (is_at x place.Disk) ≡ true → x ≡ place.Disk → ⊥
not_disk place.Memory e d = cc
not_disk place.Flight e d = cc
not_disk place.Disk e d = cc

test_live : (x : Place) → (not (is_at x place.Disk) ≡ true → ⊥) → x ≡ place.Disk
test_live place.Memory e = absurd (e refl)
test_live place.Flight e = absurd (e refl)
test_live place.Disk e = refl

memory_test : (x : Place) → is_at x place.Memory ≡ true → x ≡ place.Memory
memory_test place.Memory e = refl
memory_test place.Flight e = cc
memory_test place.Disk e = cc

test_memory : (x : Place) → x ≡ place.Memory → is_at x place.Memory ≡ true
test_memory place.Memory e = refl
test_memory place.Flight e = cc
test_memory place.Disk e = cc

-- neither on disk nor in memory
pub in_flight : (x : Place) → (x ≡ place.Disk → ⊥) → (x ≡ place.Memory → ⊥) → x ≡ place.Flight
in_flight place.Memory a b = absurd (b refl)
in_flight place.Flight a b = refl
in_flight place.Disk a b = absurd (a refl)

pub memory_disk : (x : Place) → x ≡ place.Memory → x ≡ place.Disk → ⊥
memory_disk x a b = cc

pub memory_flight : (x : Place) → x ≡ place.Memory → x ≡ place.Flight → ⊥
memory_flight x a b = cc

pub flight_disk : (x : Place) → x ≡ place.Flight → x ≡ place.Disk → ⊥
flight_disk x a b = cc

pub one_block : (o : Patch) (b c : ℕ) → IsOn o b → IsOn o c → b ≡ c
one_block o b c e f = cc

-- a number has a live head, or is on disk
pub live_cases : (heads : List Patch) (n : ℕ) → ((p : Patch) × Contains heads p × (p.number ≡ n) × IsLive p × (is_live_number heads n ≡ true)) ⊎ (IsOnDisk heads n × (is_live_number heads n ≡ false))
live_cases heads n =
    elim (number_cases is_live heads n) [
      | inl r ↦ inl (r.0, r.1, r.2, not_disk r.0.place r.3, r.4)
      | inr m ↦ inr (λ p h e. test_live p.place (m.0 p h e), m.1)
    ]

-- a number has a head in memory, or none
pub memory_cases : (heads : List Patch) (n : ℕ) → ((p : Patch) × Contains heads p × (p.number ≡ n) × (p.place ≡ place.Memory) × (is_number_in_memory heads n ≡ true))
    ⊎ (((p : Patch) → Contains heads p → p.number ≡ n → p.place ≡ place.Memory → ⊥) × (is_number_in_memory heads n ≡ false))
memory_cases heads n =
    elim (number_cases (λ p. is_at p.place place.Memory) heads n) [
      | inl r ↦ inl (r.0, r.1, r.2, memory_test r.0.place r.3, r.4)
      | inr m ↦ inr (λ p h e k. m.0 p h e (test_memory p.place k), m.1)
    ]

-- a number has a head, or it was forgotten
pub head_cases : (heads : List Patch) (n : ℕ) → ((p : Patch) × Contains heads p × (p.number ≡ n)) ⊎ ((p : Patch) → Contains heads p → p.number ≡ n → ⊥)
head_cases heads n = elim (number_cases (λ p. true) heads n) [ inl r ↦ inl (r.0, r.1, r.2) | inr m ↦ inr (λ p h e. m.0 p h e refl) ]

pub equal_test : (x y : ℕ) → x ≡ y → (x == y) ≡ true
equal_test x y e = grind (arith, e)

pub true_not : (x : Bool) → not x ≡ true → x ≡ false
true_not true e = sym e
true_not false e = refl

-- the place of a number with a head is that of the head, else the disk
find_cases : (heads : List Patch) (n : ℕ) → ((p : Patch) × Contains heads p × (p.number ≡ n) × (find (λ q. q.number == n) heads ≡ Some p)) ⊎ (((p : Patch) → Contains heads p → p.number ≡ n → ⊥) × (find (λ q. q.number == n) heads ≡ None))
find_cases heads n = elim (search heads) [ inl r ↦ inl (r.0, Contains-from_In heads r.0 r.1, r.2, r.3) | inr m ↦ inr (λ p h. m.0 p (In-from_Contains heads p h), m.1) ]
  where
    search : (hs : List Patch) → ((p : Patch) × In hs p × (p.number ≡ n) × (find (λ q. q.number == n) hs ≡ Some p)) ⊎ (((p : Patch) → In hs p → p.number ≡ n → ⊥) × (find (λ q. q.number == n) hs ≡ None))
    search [] = inr (λ p h e. h, refl)
    search (x ∷ xs) =
        elim (cases_Bool (x.number == n)) [
          | inl here ↦ inl (x, inl refl, eqb-true x.number n here, rw here refl)
          | inr away ↦ elim (search xs) [
            | inl r ↦ inl (r.0, inr r.1, r.2, rw away r.3)
            | inr m ↦ inr (λ p h e. elim h [ inl same ↦ clash (x.number == n) (equal_test x.number n (ap (λ y. y.number) same ∙ e)) away | inr k ↦ m.0 p k e ], rw away m.1)
          ]
        ]

-- a number that was given is told its place
pub given_told : (heads : List Patch) (numbers n : ℕ) → 1 ≤ n → n ≤ numbers → place_of heads numbers n ≡ Some (place_among heads n)
given_told heads numbers n low high = rw (within low high) refl
  where
    within : 1 ≤ n → n ≤ numbers → (nat_le 1 n && nat_le n numbers) ≡ true
    within low high = grind (arith, low, high)

-- its place says whether it has a live head, and whether in memory
pub among_told : (heads : List Patch) (n : ℕ) → IsRising heads → (is_live_number heads n ≡ not (is_at (place_among heads n) place.Disk)) × (is_number_in_memory heads n ≡ is_at (place_among heads n) place.Memory)
among_told heads n rising =
    elim (find_cases heads n) [
      | inl r ↦ rw r.3 (live_of r.0 r.1 r.2, memory_of r.0 r.1 r.2)
      | inr m ↦ rw m.1 (no_live m.0, no_memory m.0)
    ]
  where
    lives : (x : Place) → (x ≡ place.Disk → ⊥) → not (is_at x place.Disk) ≡ true
    lives place.Memory live = refl
    lives place.Flight live = refl
    lives place.Disk live = absurd (live refl)

    off : (x : Place) → (x ≡ place.Memory → ⊥) → is_at x place.Memory ≡ false
    off place.Memory out = absurd (out refl)
    off place.Flight out = refl
    off place.Disk out = refl

    live_of : (p : Patch) → Contains heads p → p.number ≡ n → is_live_number heads n ≡ not (is_at p.place place.Disk)
    live_of p h e =
        elim (live_cases heads n) [
          | inl r ↦ r.4 ∙ sym (lives p.place (subst IsLive (same_number heads r.0 p rising r.1 h (r.2 ∙ sym e)) r.3))
          | inr d ↦ d.1 ∙ sym (ap (λ x. not (is_at x place.Disk)) (d.0 p h e))
        ]

    memory_of : (p : Patch) → Contains heads p → p.number ≡ n → is_number_in_memory heads n ≡ is_at p.place place.Memory
    memory_of p h e =
        elim (memory_cases heads n) [
          | inl r ↦ r.4 ∙ sym (ap (λ x. is_at x place.Memory) (ap (λ y. y.place) (sym (same_number heads r.0 p rising r.1 h (r.2 ∙ sym e))) ∙ r.3))
          | inr m ↦ m.1 ∙ sym (off p.place (m.0 p h e))
        ]

    no_live : ((p : Patch) → Contains heads p → p.number ≡ n → ⊥) → is_live_number heads n ≡ false
    no_live none = elim (live_cases heads n) [ inl r ↦ absurd (none r.0 r.1 r.2) | inr d ↦ d.1 ]

    no_memory : ((p : Patch) → Contains heads p → p.number ≡ n → ⊥) → is_number_in_memory heads n ≡ false
    no_memory none = elim (memory_cases heads n) [ inl r ↦ absurd (none r.0 r.1 r.2) | inr m ↦ m.1 ]
