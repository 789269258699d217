-- When a new change may be hard, said of what it depends on.
use Rattle.std.specs.Prelude.{◌≡◌, ◌≢◌, ℕ, List, Option, Some, None, Contains}
use Rattle.fst_types.specs.{Patches.{Patch, IsOn, IsLive}, Dependencies.Needs, Gates.IsOpenNumber, Grades.Reaches}
use Rattle.fst_heads.specs.{Indices.IsAbove, Reaching.IsHardIn}

-- a number with P is in the row, or one in the row depends on it
abbrev pub HasUnder : List Patch → List ℕ → (ℕ → Type 0) → Type 0
HasUnder heads row P = (n : ℕ) × Contains row n × IsAbove heads P n

-- n is the number of a live change off b, which has a live need on b
pub record IsReturning (heads : List Patch) (b n : ℕ) : Type 0 where
  pub away : Patch
  pub back : Patch
  pub away_on : ℕ
  pub head : Contains heads away
  pub numbered : away.number ≡ n
  pub change : IsOn away away_on
  pub off : away_on ≢ b
  pub away_live : IsLive away
  pub back_needed : Needs heads away.number back b
  pub back_live : IsLive back

-- n is the number of a live change of another block, which reaches b
pub record IsLeading (heads : List Patch) (b n : ℕ) : Type 0 where
  pub patch : Patch
  pub block : ℕ
  pub head : Contains heads patch
  pub numbered : patch.number ≡ n
  pub change : IsOn patch block
  pub live : IsLive patch
  pub other : block ≢ b
  pub reaches : Reaches heads block b

-- n is the number of a hard change of b in memory
pub record IsHardNumber (heads : List Patch) (b n : ℕ) : Type 0 where
  pub patch : Patch
  pub head : Contains heads patch
  pub numbered : patch.number ≡ n
  pub hard : IsHardIn patch b

-- no way leads from the row back to b: no change of another block at or below it has a need on b or is on a block that reaches b
pub record LeadsNowhere (heads : List Patch) (b : ℕ) (row : List ℕ) : Type 0 where
  pub straight : HasUnder heads row (IsReturning heads b) → ⊥
  pub open_ended : HasUnder heads row (IsLeading heads b) → ⊥

-- n is the number of an open gate, and not of the one that is taken as sealed, if there is one
abbrev pub IsOpenBut : List Patch → Option ℕ → ℕ → Type 0
IsOpenBut heads None n = IsOpenNumber heads n
IsOpenBut heads (Some gate) n = IsOpenNumber heads n × (n ≢ gate)

-- a new change of b that directly depends on the row may be hard, where that gate is taken as sealed
pub record MayBeHard (heads : List Patch) (but : Option ℕ) (b : ℕ) (row : List ℕ) : Type 0 where
  pub free : HasUnder heads row (IsOpenBut heads but) → ⊥
  pub straight : HasUnder heads row (IsReturning heads b) → ⊥
  pub open_ended : HasUnder heads row (IsLeading heads b) → ⊥
