-- The blocks from which the block graph leads to a block.
use Rattle.std.specs.Prelude.{◌≡◌, not, ℕ, Bool, true, false, List, slice_index_or, count_by}
use Rattle.fst_types.specs.declared.place.Place.TheVariants as place
use Rattle.fst_types.specs.Patches.{Patch, IsOn, IsHard}

-- block c is shown as reached
abbrev pub IsReached : List Bool → ℕ → Type 0
IsReached reached c = slice_index_or reached c false ≡ true

-- exactly the blocks with P are shown
pub record ShowsBlocks (reached : List Bool) (P : ℕ → Type 0) : Type 0 where
  pub only : (c : ℕ) → IsReached reached c → P c
  pub each : (c : ℕ) → P c → IsReached reached c

-- how many blocks are not shown
abbrev pub unreached : List Bool → ℕ
unreached reached = count_by not reached

-- p is a hard change of c in memory
pub record IsHardIn (p : Patch) (c : ℕ) : Type 0 where
  pub change : IsOn p c
  pub memory : p.place ≡ place.Memory
  pub hard : IsHard p
