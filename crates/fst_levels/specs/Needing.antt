-- What is kept of the block graph. What blocks need: for each block, of what its hard changes in memory directly depend on, as much as a walk down has to go on from where it crosses the block, and perhaps more of what they depend on. Hard changes of a block are written together, so one of them stands for all that are at the same place.
use Rattle.std.specs.Prelude.{◌≡◌, ◌≢◌, ◌≤◌, ◌<◌, ◌⊎◌, ℕ, List, Option, Some, [], length, Contains, slice_index_or}
use Rattle.fst_types.specs.{Dependencies.{DirectlyOn, DependsOn}, Gates.IsOpenNumber, Patches.{Patch, IsOn, IsHard}, declared.grade.Grade.Grade, declared.place.Place.Place}
use Rattle.fst_types.specs.declared.grade.Grade.TheVariants as grade
use Rattle.fst_heads.specs.{Grading.IsHardNumber, Indices.{IsAbove, PassesAt}}
use Rattle.fst_heads.specs.declared.test.Test.TheVariants as test
use Rattle.fst_levels.specs.{WayBack.LeadsBack, declared.below_row.Below.Below, declared.needs.Way.Way}

-- n is the number of a hard change of block d at that place
pub record IsHardAt (patches : List Patch) (at : Place) (d n : ℕ) : Type 0 where
  pub patch : Patch
  pub head : Contains patches patch
  pub numbered : patch.number ≡ n
  pub change : IsOn patch d
  pub hard : IsHard patch
  pub place : patch.place ≡ at

-- q is a hard change of block c, or one of the row is a hard change of the same block as q, at the same place
pub record IsStoodFor (patches : List Patch) (c : ℕ) (row : List ℕ) (q : ℕ) : Type 0 where
  pub at : Place
  pub block : ℕ
  pub hard : IsHardAt patches at block q
  pub by : (block ≡ c) ⊎ ((n : ℕ) × Contains row n × IsHardAt patches at block n)

-- at or below q there is no open gate, and no change of another block than c that is not on disk: a walk goes on from there over block c alone
pub record StaysOn (patches : List Patch) (c q : ℕ) : Type 0 where
  pub closed : IsAbove patches (IsOpenNumber patches) q → ⊥
  pub own : IsAbove patches (PassesAt (test.LiveOff c) patches) q → ⊥

-- a walk that crosses block c to what is kept of the row need not go on to q besides
abbrev pub IsSpared : List Patch → ℕ → List ℕ → ℕ → Type 0
IsSpared patches c row q = IsStoodFor patches c row q ⊎ StaysOn patches c q

-- h is a hard change of block c in memory, newer than n, and depends on it if that is not forgotten
pub record IsNeededBy (patches : List Patch) (c n h : ℕ) : Type 0 where
  pub hard : IsHardNumber patches c h
  pub older : n < h
  pub depends : (q : Patch) → Contains patches q → q.number ≡ n → DependsOn patches h n

-- each number that is kept for a block is of what a hard change of it in memory depends on, and whatever such a change directly depends on, if it is not forgotten, is kept or spared
pub record AreNeeded (patches : List Patch) (needs : ℕ → List ℕ) : Type 0 where
  pub named : (c n : ℕ) → Contains (needs c) n → (h : ℕ) × IsNeededBy patches c n h
  pub whole : (c h : ℕ) (q : Patch) → IsHardNumber patches c h → Contains patches q → DirectlyOn patches h q.number → Contains (needs c) q.number ⊎ IsSpared patches c (needs c) q.number

-- the numbers that are kept for block c
abbrev pub needs_of : List (List ℕ) → ℕ → List ℕ
needs_of lists c = slice_index_or lists c []

-- n is the number of a change, from which a way leads back to the change `end` of its block
pub record HasWayBack (patches : List Patch) (n end : ℕ) : Type 0 where
  pub patch : Patch
  pub head : Contains patches patch
  pub numbered : patch.number ≡ n
  pub block : ℕ
  pub change : IsOn patch block
  pub back : LeadsBack patches block patch.dependencies end

-- each of these ways is there as long as its end is a change that is not on disk
abbrev pub HaveWaysBack : List Patch → List Way → Type 0
HaveWaysBack patches ways = (w : Way) → Contains ways w → (b : ℕ) → PassesAt (test.LiveOn b) patches w.end → HasWayBack patches w.number w.end

-- the numbers for each block, for how many more of one block there is room, and the ways back that are known
pub record Needing : Type 0 where
  pub lists : List (List ℕ)
  pub block : ℕ
  pub room : ℕ
  pub ways : List Way

-- the end of each way is a number that was given
abbrev pub HaveGivenEnds : ℕ → List Way → Type 0
HaveGivenEnds numbers ways = (w : Way) → Contains ways w → w.end ≤ numbers

-- of the known ways only one is more at most, from the change with that number to that end
abbrev pub IsNoted : ℕ → Option ℕ → List Way → List Way → Type 0
IsNoted number end old new = (w : Way) → Contains new w → Contains old w ⊎ ((w.number ≡ number) × (end ≡ Some w.end))

-- the way from the change with that number to that end is known
abbrev pub IsKnown : List Way → ℕ → ℕ → Type 0
IsKnown ways n end = (w : Way) × Contains ways w × (w.number ≡ n) × (w.end ≡ end)

-- n is in the row, or one of the row depends on it
abbrev pub IsAtOrUnder : List Patch → List ℕ → ℕ → Type 0
IsAtOrUnder patches row n = Contains row n ⊎ ((t : ℕ) × Contains row t × DependsOn patches t n)

-- n was gathered below a row
abbrev pub IsGathered : Below → ℕ → Type 0
IsGathered below n = Contains below.changes.items n ⊎ Contains below.through.items n

-- what is kept for block b grew by a new change of it with that row and grade: where it is hard, by what of the row is not spared, and perhaps by some of what is under the row
pub record IsPut (patches : List Patch) (b : ℕ) (row : List ℕ) (g : Grade) (old new : List (List ℕ)) : Type 0 where
  pub long : length new ≡ length old
  pub others : (c : ℕ) → c ≢ b → needs_of new c ≡ needs_of old c
  pub kept : (n : ℕ) → Contains (needs_of old b) n → Contains (needs_of new b) n
  pub only : (n : ℕ) → Contains (needs_of new b) n → Contains (needs_of old b) n ⊎ ((g ≡ grade.Hard) × IsAtOrUnder patches row n)
  pub told : g ≡ grade.Hard → (q : ℕ) → Contains row q → Contains (needs_of new b) q ⊎ IsSpared patches b (needs_of new b) q

-- what is kept for block b grew by numbers of which that holds
pub record IsBesides (b : ℕ) (P : ℕ → Type 0) (old new : List (List ℕ)) : Type 0 where
  pub long : length new ≡ length old
  pub others : (c : ℕ) → c ≢ b → needs_of new c ≡ needs_of old c
  pub kept : (n : ℕ) → Contains (needs_of old b) n → Contains (needs_of new b) n
  pub only : (n : ℕ) → Contains (needs_of new b) n → Contains (needs_of old b) n ⊎ P n

-- of what is kept for block b some is left out, to which a walk that crosses the block need not go on
pub record IsLeft (patches : List Patch) (b : ℕ) (old new : List ℕ) : Type 0 where
  pub only : (n : ℕ) → Contains new n → Contains old n
  pub kept : (n : ℕ) → Contains old n → Contains new n ⊎ StaysOn patches b n

pub record IsPruned (patches : List Patch) (b : ℕ) (old new : List (List ℕ)) : Type 0 where
  pub long : length new ≡ length old
  pub others : (c : ℕ) → c ≢ b → needs_of new c ≡ needs_of old c
  pub left : IsLeft patches b (needs_of old b) (needs_of new b)

-- each block has its numbers, and all is as it should be
pub record IsNeeding (patches : List Patch) (blocks : ℕ) (needs : Needing) : Type 0 where
  pub long : length needs.lists ≡ blocks
  pub needed : AreNeeded patches (needs_of needs.lists)
  pub back : HaveWaysBack patches needs.ways
