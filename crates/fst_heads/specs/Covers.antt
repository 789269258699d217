-- The newest change over each byte of a block.
use Rattle.std.specs.Prelude.{◌≡◌, ◌⊎◌, ◌<◌, ◌≤◌, ◌+◌, ◌==◌, ◌||◌, if◌then◌else◌, nat_lt, ℕ, Bool, false, List, [], ◌∷◌, length, take, drop, All, AllPairs, Contains, Vec, vec_len, vec_capacity, slice_index_or}
use Rattle.std.specs.Global.{Global}
use Rattle.std.specs.List.Sorted.{IsStrictlyIncreasing}
use Rattle.fst_types.specs.{Dependencies.DependsOn, Patches.{Patch, IsOn, IsLive, at_of, len_of}}
use Rattle.fst_heads.specs.Rows.{IsTouched}
use Rattle.fst_heads.specs.declared.cover.Run.{Run}

-- the runs of a block, by the bytes that they begin at, each of which tells the number of the newest change from there on, 0 for none; and whether a change was made of which they do not tell
pub record Covering : Type 0 where
  pub runs : Vec Run Global
  pub untold : Bool

-- the last byte that a run may begin at
abbrev pub max_from : ℕ
max_from = 4294967295

-- each run begins after the one before
abbrev pub AreRising : List Run → Type 0
AreRising = AllPairs (λ a b. a.from < b.from)

-- the first n of the runs begin before the byte, and the others do not
pub record AreParted (runs : List Run) (byte n : ℕ) : Type 0 where
  pub few : n ≤ length runs
  pub before : All (λ r. r.from < byte) (take n runs)
  pub from : All (λ r. byte ≤ r.from) (drop n runs)

-- the number that the last of the runs tells, and `so` where there is none
unfoldable pub last_in : ℕ → List Run → ℕ
last_in so [] = so
last_in so (run ∷ runs) = last_in run.number runs

-- the number that the last of the runs tells that does not begin after byte x, and `so` where there is none
unfoldable pub newest_in : ℕ → List Run → ℕ → ℕ
newest_in so [] x = so
newest_in so (run ∷ runs) x = if nat_lt x run.from then so else newest_in run.number runs x

-- the number of the newest change over byte x, 0 for none
abbrev pub newest_over : Covering → ℕ → ℕ
newest_over cover x = newest_in 0 cover.runs.items x

-- n is the number of a live change of b over byte x
pub record IsOver (heads : List Patch) (b x n : ℕ) : Type 0 where
  pub patch : Patch
  pub head : Contains heads patch
  pub numbered : patch.number ≡ n
  pub live : IsLive patch
  pub change : IsOn patch b
  pub starts : at_of patch.kind ≤ x
  pub ends : x < at_of patch.kind + len_of patch.kind

-- over byte x the cover names a live change of b, which is q or depends on it
pub record Covers (heads : List Patch) (b : ℕ) (cover : Covering) (x q : ℕ) : Type 0 where
  pub some : 1 ≤ newest_over cover x
  pub over : IsOver heads b x (newest_over cover x)
  pub above : (newest_over cover x ≡ q) ⊎ DependsOn heads (newest_over cover x) q

-- unless a change was made of which its runs do not tell, over each byte of a live change q of b the cover names a live change of b over that byte, which is q or depends on it, and each live change of b has a byte
pub record IsCovered (heads : List Patch) (b : ℕ) (cover : Covering) : Type 0 where
  pub each : cover.untold ≡ false → (q x : ℕ) → IsOver heads b x q → Covers heads b cover x q
  pub bytes : cover.untold ≡ false → (p : Patch) → Contains heads p → IsLive p → IsOn p b → 1 ≤ len_of p.kind

-- so it is at each block
pub record AreCovered (heads : List Patch) (blocks : ℕ) (covers : List Covering) : Type 0 where
  pub long : length covers ≡ blocks
  pub each : (b : ℕ) (d : Covering) → b < blocks → IsCovered heads b (slice_index_or covers b d)

-- there is room for the two runs of one more change
abbrev pub HasRoomForRuns : Covering → Type 0
HasRoomForRuns cover = vec_len cover.runs + 2 ≤ vec_capacity cover.runs

-- the cover means the same
pub record SaysTheSame (old new : Covering) : Type 0 where
  pub untold : new.untold ≡ old.untold
  pub runs : new.runs.items ≡ old.runs.items

-- the number is the newest over len bytes from at on, and the other bytes stay; of no byte, and of bytes that end past where a run may begin, the runs do not tell
pub record IsPut (old : Covering) (at len number : ℕ) (new : Covering) : Type 0 where
  pub untold : new.untold ≡ (old.untold || ((len == 0) || nat_lt max_from (at + len)))
  pub own : at + len ≤ max_from → (x : ℕ) → at ≤ x → x < at + len → newest_over new x ≡ number
  pub beside : (x : ℕ) → (x < at) ⊎ (at + len ≤ x) → newest_over new x ≡ newest_over old x

-- those of the numbers that share a byte with len bytes from at on are in the row besides, which still rises
pub record GainsTouched (heads : List Patch) (numbers : List ℕ) (b at len : ℕ) (old new : List ℕ) : Type 0 where
  pub rising : IsStrictlyIncreasing new
  pub only : (n : ℕ) → Contains new n → Contains old n ⊎ IsTouched heads b at len n
  pub kept : (n : ℕ) → Contains old n → Contains new n
  pub each : (n : ℕ) → 1 ≤ n → Contains numbers n → IsTouched heads b at len n → Contains new n
