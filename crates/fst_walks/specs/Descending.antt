-- What walks visit: patches that are not on disk, each once, along steps that a relation tells.
use Rattle.std.specs.Prelude.{◌≡◌, ◌⊎◌, ◌++◌, ℕ, List, length, Contains}
use Rattle.fst_types.specs.{Closure.Closure, Dependencies.IsLiveNumber}
use Rattle.fst_heads.specs.{Heads.patches_of, declared.head.Head.Head}
use Rattle.fst_levels.specs.Walks.{Trail, numbers_met}

-- n is one of those from which a walk with these steps starts, or steps lead from one of them to it
abbrev pub IsLedFrom : (ℕ → ℕ → Type 0) → List ℕ → ℕ → Type 0
IsLedFrom Steps start n = Contains start n ⊎ ((s : ℕ) × Contains start s × Closure Steps s n)

-- a walk over these heads has met none but what is not on disk
pub record Visited (heads : List Head) (walk : Trail) : Type 0 where
  pub long : length walk.marks ≡ length heads
  pub live : (n : ℕ) → Contains (numbers_met heads walk) n → IsLiveNumber (patches_of heads) n

-- the numbers with P are among them besides, behind the others
pub record Visits (P : ℕ → Type 0) (old new : List ℕ) : Type 0 where
  pub kept : (rest : List ℕ) × (new ≡ old ++ rest)
  pub only : (n : ℕ) → Contains new n → Contains old n ⊎ P n
  pub each : (n : ℕ) → P n → Contains new n

-- besides what was met, only what steps lead to from there was met, behind the others
pub record GoesOn (Steps : ℕ → ℕ → Type 0) (old new : List ℕ) : Type 0 where
  pub kept : (rest : List ℕ) × (new ≡ old ++ rest)
  pub only : (n : ℕ) → Contains new n → IsLedFrom Steps old n
