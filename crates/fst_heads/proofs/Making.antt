-- What a new patch leaves of what the fields keep.
use Rattle.fst_heads.proofs.Basics.{◌≡◌, ℕ, ◌+◌, ◌≤◌, Bool, false, List, [], ◌∷◌, ◌++◌, length, refl, arith, lit≤, length_push, rules}
use Rattle.fst_heads.proofs.{Patches.{max_number, Patch, OpenGate, SparseAreLawful, fresh}, Words.{Keeps, IsInside}}
use Rattle.fst_types.proofs.{Heads.sparse_gated, Loosened.loosened, Opened.opening_is_lawful}

module _ (heads : List Patch) (numbers blocks : ℕ) (marks : List Bool) (K : Keeps heads numbers blocks marks) where
  pub keeps_added : (new : List Patch) → SparseAreLawful new (numbers + 1) → length new ≡ length heads + 1 → IsInside new blocks → Keeps new (numbers + 1) blocks (marks ++ false ∷ [])
  keeps_added new lawful long inside = search (rules, length_push)

pub gate_lawful : (heads : List Patch) (numbers : ℕ) → SparseAreLawful heads numbers → SparseAreLawful (heads ++ fresh (numbers + 1) OpenGate [] ∷ []) (numbers + 1)
gate_lawful heads numbers H = sparse_gated heads (heads ++ fresh (numbers + 1) OpenGate [] ∷ []) numbers (numbers + 1) (record { next = refl; added = refl }) H

-- of no patch all is kept
pub keeps_none : (numbers blocks : ℕ) → numbers ≤ max_number → Keeps [] numbers blocks []
keeps_none numbers blocks last = record {
  lawful = loosened (opening_is_lawful 0 0 numbers 0 [] (λ k d lt. absurd (omega (arith, lt))) last (lit≤ tt)).heads;
  inside = λ p b c. absurd (omega (arith, c.1));
  marked = refl;
}
