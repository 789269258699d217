-- The place of a number.
use Rattle.std.proofs.{Common.{◌≡◌, ℕ, ◌==◌, ◌&&◌, nat_le, true, List, Contains, Some, None, find, Option, IfNone, refl, subst, arith}, lemmas.Bool.Decides.nat_tests}
use Rattle.fst_types.specs.{Gates.IsGiven, Looks.place_of, Patches.{Patch, IsRising}}
use Rattle.fst_heads.proofs.Indices.{find_patch, find_none}
use Rattle.fst_types.specs.declared.place.Place.TheVariants as place

given_test : (numbers n : ℕ) → IsGiven numbers n → (nat_le 1 n && nat_le n numbers) ≡ true
given_test numbers n g = grind (arith, nat_tests)

pub place_found : (heads : List Patch) (numbers n : ℕ) (p : Patch) → IsRising heads → Contains heads p → p.number ≡ n → IsGiven numbers n → Some p.place ≡ place_of heads numbers n
place_found heads numbers n p rising c e g = rw (given_test numbers n g) (rw (subst (λ m. find (λ x. x.number == m) heads ≡ Some p) e (find_patch heads p rising c)) refl)

pub place_lost : (heads : List Patch) (numbers n : ℕ) → ((p : Patch) → Contains heads p → p.number ≡ n → ⊥) → IsGiven numbers n → Some place.Disk ≡ place_of heads numbers n
place_lost heads numbers n none g = rw (given_test numbers n g) (rw (find_none heads n none) refl)

-- what follows where an option is none
pub none_then : {X : Type 0} (r : Option X) {P Q : Type 0} → (P → Q) → IfNone r P → IfNone r Q
none_then None f p = f p
none_then (Some x) f p = tt
