-- A new gate and a new empty patch may be added.
use Rattle.std.proofs.Common.{◌≡◌, ◌<◌, count_by, length, zero, suc, ap, ◌+◌, ◌++◌, ◌∷◌, [], ℕ, List, Contains, refl, arith}
use Rattle.fst_types.specs.{Dependencies.IsLiveNumber, Facts.SparseAreLawful, Limits.max_heads, Lists.Lists, Making.{fresh, EmptyIsMade}, Patches.{OpenGate, Patch}, Tests.is_live}
use Rattle.fst_heads.proofs.Making.{gate_lawful}
use Rattle.fst_graph.specs.Fresh.{MayAdd}
use Rattle.fst_graph.proofs.Emptying.{empty_cascade, empty_lawful, new_empty}

-- there are rows of patches of each length
pub so_many : (n : ℕ) → (heads : List Patch) × (length heads ≡ n)
so_many zero = ([], refl)
so_many (suc n) = let r = so_many n in (fresh 0 OpenGate [] ∷ r.0, ap suc r.1)

pub gate_may : (heads : List Patch) (numbers : ℕ) (p : Patch) → p ≡ fresh (numbers + 1) OpenGate [] → SparseAreLawful heads numbers → count_by is_live heads < max_heads → MayAdd heads numbers p
gate_may heads numbers p same H few = rw same record {
  next = refl;
  plain = λ b. refl;
  off = λ b on. cc;
  few = few;
  rising = λ k lt. absurd (omega (arith, lt));
  live = λ m h. absurd (omega (arith, h.1));
  lawful = gate_lawful heads numbers H;
}

module _ (heads : List Patch) (numbers : ℕ) (H : SparseAreLawful heads numbers) (after row : List ℕ) (depends : Lists (λ n. IsLiveNumber heads n × Contains after n) row) where
  pub empty_may : (p : Patch) → p ≡ new_empty numbers row → count_by is_live heads < max_heads → MayAdd heads numbers p
  empty_may p same few = rw same record {
    next = refl;
    plain = λ b. refl;
    off = λ b on. cc;
    few = few;
    rising = depends.rising;
    live = λ m h. (depends.only m h).0;
    lawful = empty_lawful heads numbers H after row depends;
  }

  pub empty_made : EmptyIsMade heads numbers after (numbers + 1) (heads ++ new_empty numbers row ∷ [])
  empty_made = record { next = refl; dependencies = row; depends = depends; cascade = empty_cascade heads numbers H after row depends }
