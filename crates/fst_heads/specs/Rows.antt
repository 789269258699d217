-- Rising rows of numbers.
use Rattle.std.specs.Prelude.{◌≡◌, ◌⊎◌, ◌==◌, ◌&&◌, ◌+◌, nat_lt, ℕ, Bool, true, false, List, Contains}
use Rattle.fst_types.specs.declared.place.Place.{Place}
use Rattle.fst_types.specs.{Patches.{Kind, Change, Empty, OpenGate, SealedGate, Patch}, Dependencies.{DependsOn, DirectlyOn, IsLiveNumber}}
use Rattle.fst_heads.specs.Tests.{is_live_place}
use Rattle.std.specs.List.Sorted.{IsStrictlyIncreasing}

-- the number is in the row besides, which still rises
pub record Gains (old : List ℕ) (number : ℕ) (new : List ℕ) : Type 0 where
  pub rising : IsStrictlyIncreasing new
  pub only : (n : ℕ) → Contains new n → Contains old n ⊎ (n ≡ number)
  pub kept : (n : ℕ) → Contains old n → Contains new n
  pub gained : Contains new number

abbrev pub kind_touches : ℕ → ℕ → ℕ → Kind → Place → Bool
kind_touches b at len (Change on own_at own_len grade) p = is_live_place p && (on == b) && nat_lt own_at (at + len) && nat_lt at (own_at + own_len)
kind_touches b at len Empty p = false
kind_touches b at len OpenGate p = false
kind_touches b at len SealedGate p = false

-- len bytes from at on share a byte with own_len bytes from own_at on
abbrev pub shares : (at len own_at own_len : ℕ) → Bool
shares at len own_at own_len = nat_lt own_at (at + len) && nat_lt at (own_at + own_len)

-- p is a change of b that is not on disk and shares a byte with len bytes from at on
abbrev pub touches : ℕ → ℕ → ℕ → Patch → Bool
touches b at len p = kind_touches b at len p.kind p.place

-- n is the number of such a change
pub record IsTouched (heads : List Patch) (b at len n : ℕ) : Type 0 where
  pub patch : Patch
  pub head : Contains heads patch
  pub numbered : patch.number ≡ n
  pub shares : touches b at len patch ≡ true

-- a new change of those bytes depends on n
abbrev pub IsDependency : List Patch → List ℕ → ℕ → ℕ → ℕ → ℕ → Type 0
IsDependency heads names b at len n = (IsLiveNumber heads n × Contains names n) ⊎ IsTouched heads b at len n

-- n is the number of a live patch, and no direct dependency of the gate
abbrev pub IsMissing : List Patch → ℕ → ℕ → Type 0
IsMissing heads gate n = IsLiveNumber heads n × (DirectlyOn heads gate n → ⊥)

-- a sparse row of a new change, which rises: the named patches that are not on disk, and such changes that share a byte with it that each other one that does is below one of these
pub record IsSparseRow (heads : List Patch) (names : List ℕ) (b at len : ℕ) (row : List ℕ) : Type 0 where
  pub rising : IsStrictlyIncreasing row
  pub only : (n : ℕ) → Contains row n → IsDependency heads names b at len n
  pub named : (n : ℕ) → IsLiveNumber heads n → Contains names n → Contains row n
  pub above : (n : ℕ) → IsTouched heads b at len n → Contains row n ⊎ ((m : ℕ) × Contains row m × DependsOn heads m n)
