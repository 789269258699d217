-- Blocks in an order, each at a place of its own.
use Rattle.std.specs.Prelude.{◌≡◌, ◌==◌, ◌≤◌, ℕ, Bool, true, false, nat_lt, List, Some, cond, length, map, count_by, slice_get}

-- block b stands at place k by one list exactly where it does by the other
pub record AreInverse (order at : List ℕ) : Type 0 where
  pub long : length order ≡ length at
  pub forth : (k b : ℕ) → slice_get order k ≡ Some b → slice_get at b ≡ Some k
  pub back : (b k : ℕ) → slice_get at b ≡ Some k → slice_get order k ≡ Some b

-- where what stands at place k stands after i and j are exchanged
abbrev pub exchanged : (i j k : ℕ) → ℕ
exchanged i j k = cond (k == i) j (cond (k == j) i k)

-- of each block, whether it is one of the first
abbrev pub are_first : ℕ → List ℕ → List Bool
are_first count at = map (λ k. nat_lt k count) at

-- the first places are those of the dirty blocks, those after them of the clean ones in memory, and the hand is at one of these or at their end; a count of some of the blocks is a `usize`
pub record StandInRuns (at : List ℕ) (dirty hand count : ℕ) : Type 0 where
  pub before_hand : dirty ≤ hand
  pub hand_within : hand ≤ count
  pub all_dirty : dirty ≡ count_by (λ is. is) (are_first dirty at)
  pub all_there : count ≡ count_by (λ is. is) (are_first count at)
  pub few : length at ≤ 18446744073709551615

-- how many blocks may be in memory, of each whether it is, and of each whether it is dirty
pub record ResidentsView : Type 0 where
  pub most : ℕ
  pub loaded : List Bool
  pub dirty : List Bool

-- the block is in memory, and not dirty
pub record IsCleanResident (residents : ResidentsView) (block : ℕ) : Type 0 where
  pub there : slice_get residents.loaded block ≡ Some true
  pub clean : slice_get residents.dirty block ≡ Some false
