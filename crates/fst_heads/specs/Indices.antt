-- Where the head with a number stands, and which numbers pass a test.
use Rattle.std.specs.Prelude.{◌≡◌, ◌≢◌, ◌<◌, ◌⊎◌, ℕ, true, List, length, All, Contains, slice_index_or}
use Rattle.fst_types.specs.{Patches.Patch, Dependencies.DependsOn}
use Rattle.fst_heads.specs.declared.head.Head.{Head}
use Rattle.fst_heads.specs.declared.test.Test.{Test}
use Rattle.fst_heads.specs.Tests.{passes}

-- the head at the index has this number
abbrev pub HasIndex : List Head → ℕ → ℕ → Type 0
HasIndex heads number index = (index < length heads) × ((d : Head) → (slice_index_or heads index d).number ≡ number)

-- no head has this number
abbrev pub HasNone : List Head → ℕ → Type 0
HasNone heads number = All (λ h. h.number ≢ number) heads

-- n is the number of a patch that passes
pub record PassesAt (t : Test) (patches : List Patch) (n : ℕ) : Type 0 where
  pub patch : Patch
  pub head : Contains patches patch
  pub numbered : patch.number ≡ n
  pub passed : passes t patch ≡ true

-- n has P, or depends on a number with P
abbrev pub IsAbove : List Patch → (ℕ → Type 0) → ℕ → Type 0
IsAbove patches P n = P n ⊎ ((q : ℕ) × DependsOn patches n q × P q)
