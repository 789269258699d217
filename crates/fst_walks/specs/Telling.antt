-- What is told of a new change before it is made.
use Rattle.std.specs.Prelude.{◌⊎◌, ℕ, List, Contains, IfSome}
use Rattle.fst_types.specs.{Grades.FollowsRule, Patches.Patch}
use Rattle.fst_heads.specs.Grading.{IsHardNumber}
use Rattle.fst_levels.specs.WayBack.{CrossesBeside, LeadsBack}
use Rattle.fst_walks.specs.declared.graded.Graded.{Graded}

-- that is told of a new change of b over the row, which is hard exactly if MayBeHard: its grade, and to which change of b a way leads back, if an end is told
pub record IsTold (patches : List Patch) (b : ℕ) (row : List ℕ) (MayBeHard : Type 0) (told : Graded) : Type 0 where
  pub graded : FollowsRule told.grade MayBeHard
  pub back : IfSome told.end (LeadsBack patches b row)

-- n is in the row, or from it no way leads back to b that does not lead back from the row: it is a hard change of b in memory, or one of another block of which the row has a change that is not on disk
abbrev pub IsWithin : List Patch → ℕ → List ℕ → ℕ → Type 0
IsWithin patches b row n = Contains row n ⊎ IsHardNumber patches b n ⊎ ((q : ℕ) × Contains row q × CrossesBeside patches b n q)
