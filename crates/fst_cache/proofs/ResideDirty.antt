-- When a block is dirty, patch by patch.
use Rattle.std.proofs.Common.{◌≡◌, ◌≢◌, ◌⊎◌, ℕ, Bool, true, not, List, [], ◌∷◌, filter, Contains, refl, sym, ap, ◌∙◌, inl, inr}
use Rattle.std.specs.Prelude.{◌&&◌}
use Rattle.std.specs.List.{list_any}
use Rattle.std.proofs.lemmas.Bool.{cases_Bool, both_ways, false≢true, or_cases, or_left, or_right, and_parts, and_from}
use Rattle.fst_types.specs.declared.place.Place.{Place}
use Rattle.fst_types.specs.declared.place.Place.TheVariants as place
use Rattle.fst_types.specs.Patches.{Patch, IsOn}
use Rattle.fst_types.specs.Tests.{is_at, is_on, is_live}
use Rattle.fst_types.specs.Counts.{is_dirty}
use Rattle.fst_types.proofs.Finite.{In, In-from_Contains}
use Rattle.fst_types.proofs.Landing.{change_at, at_change}

pub any_in : {X : Type 0} (t : X → Bool) (xs : List X) → list_any t xs ≡ true → (x : X) × In xs x × (t x ≡ true)
any_in t [] e = absurd (false≢true e)
any_in t (x ∷ xs) e =
    elim (or_cases (t x) (list_any t xs) e) [
      | inl here ↦ (x, inl refl, here)
      | inr there ↦ let r = any_in t xs there in (r.0, inr r.1, r.2)
    ]

pub in_any : {X : Type 0} (t : X → Bool) (xs : List X) (x : X) → In xs x → t x ≡ true → list_any t xs ≡ true
in_any t [] x h e = absurd h
in_any t (y ∷ ys) x (inl q) e = or_left (t y) (list_any t ys) (ap t q ∙ e)
in_any t (y ∷ ys) x (inr h) e = or_right (t y) (list_any t ys) (in_any t ys x h e)

on_test : (b : ℕ) (p : Patch) → IsOn p b → is_on b p.kind ≡ true
on_test b p on = (and_parts (is_at p.place p.place) (is_on b p.kind) (at_change p.place b p on refl)).1

test_on : (b : ℕ) (p : Patch) → is_on b p.kind ≡ true → IsOn p b
test_on b p e = (change_at p.place b p (and_from (is_at p.place p.place) (is_on b p.kind) (same p.place) e)).0
  where
    same : (q : Place) → is_at q q ≡ true
    same place.Memory = refl
    same place.Flight = refl
    same place.Disk = refl

live_not_disk : (q : Place) → q ≢ place.Disk → not (is_at q place.Disk) ≡ true
live_not_disk place.Memory h = refl
live_not_disk place.Flight h = refl
live_not_disk place.Disk h = absurd (h refl)

-- a change of b in memory or in flight makes b dirty
pub dirty_from : (heads : List Patch) (b : ℕ) (p : Patch) → Contains heads p → IsOn p b → p.place ≢ place.Disk → is_dirty heads b ≡ true
dirty_from heads b p here on live =
    in_any (λ q. is_live q && is_on b q.kind) heads p (In-from_Contains heads p here) (and_from (is_live p) (is_on b p.kind) (live_not_disk p.place live) (on_test b p on))

live_cases : (q : Place) → not (is_at q place.Disk) ≡ true → (q ≡ place.Memory) ⊎ (q ≡ place.Flight)
live_cases place.Memory e = inl refl
live_cases place.Flight e = inr refl
live_cases place.Disk e = absurd (false≢true e)

-- and only such a change does
pub dirty_patch : (heads : List Patch) (b : ℕ) → is_dirty heads b ≡ true → (p : Patch) × In heads p × IsOn p b × ((p.place ≡ place.Memory) ⊎ (p.place ≡ place.Flight))
dirty_patch heads b e =
    let r = any_in (λ q. is_live q && is_on b q.kind) heads e in
    let h = and_parts (is_live r.0) (is_on b r.0.kind) r.2 in
    (r.0, r.1, test_on b r.0 h.1, live_cases r.0.place h.0)

head_same : {X : Type 0} {x y : X} {xs ys : List X} → x ∷ xs ≡ y ∷ ys → x ≡ y
head_same e = cc

cons_nil : {X : Type 0} {x : X} {xs : List X} → x ∷ xs ≡ [] → ⊥
cons_nil e = cc

pub some_in : {X : Type 0} (t : X → Bool) (xs : List X) (x : X) (ys : List X) → filter t xs ≡ x ∷ ys → In xs x × (t x ≡ true)
some_in t [] x ys e = absurd (cons_nil (sym e))
some_in t (z ∷ zs) x ys e =
    elim (cases_Bool (t z)) [
      | inl passes ↦ let first : z ≡ x = head_same (rw passes at e) in (inl first, ap t (sym first) ∙ passes)
      | inr fails ↦ let r = some_in t zs x ys (rw fails at e) in (inr r.0, r.1)
    ]

pub none_in : {X : Type 0} (t : X → Bool) (xs : List X) → ((x : X) → In xs x → t x ≡ true → ⊥) → filter t xs ≡ []
none_in t [] none = refl
none_in t (x ∷ xs) none =
    elim (cases_Bool (t x)) [
      | inl passes ↦ absurd (none x (inl refl) passes)
      | inr fails ↦ rw fails (none_in t xs (λ y h. none y (inr h)))
    ]

pub in_filter : {X : Type 0} (t : X → Bool) (xs : List X) (x : X) → In xs x → t x ≡ true → filter t xs ≡ [] → ⊥
in_filter t [] x h e none = h
in_filter t (y ∷ ys) x h e none =
    elim (cases_Bool (t y)) [
      | inl passes ↦ cons_nil (rw passes at none)
      | inr fails ↦ elim h [
        | inl first ↦ both_ways (t y) fails (ap t first ∙ e)
        | inr there ↦ in_filter t ys x there e (rw fails at none)
      ]
    ]
