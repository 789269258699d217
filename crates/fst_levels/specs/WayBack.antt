-- The ways back to a block: from a patch up to those that directly depend on it, and from a hard change in memory to all changes of its block that are not on disk, since the block is not written without it.
use Rattle.std.specs.Prelude.{◌≡◌, ◌≢◌, ◌⊎◌, ℕ, Bool, List}
use Rattle.fst_types.specs.{Closure.Closure, Dependencies.{DirectlyOn, DependsOn, IsLiveNumber}, Patches.Patch}
use Rattle.fst_heads.specs.{Grading.{HasUnder, IsHardNumber}, Indices.PassesAt, Reaching.IsReached}
use Rattle.fst_heads.specs.declared.test.Test.TheVariants as test

-- from the hard change p in memory to the change q of the same block that is not on disk; the block is not shown as crossed
pub record Crosses (patches : List Patch) (crossed : List Bool) (p q : ℕ) : Type 0 where
  pub block : ℕ
  pub hard : IsHardNumber patches block p
  pub fresh : IsReached crossed block → ⊥
  pub change : PassesAt (test.LiveOn block) patches q

-- a step of the walk: up to one that directly depends on it and is not on disk, or across a block
abbrev pub StepsUp : List Patch → List Bool → ℕ → ℕ → Type 0
StepsUp patches crossed p q = (DirectlyOn patches q p × IsLiveNumber patches q) ⊎ Crosses patches crossed p q

-- the block of the hard change with number n, which is in memory, is shown besides
pub record ShowsBlockOf (patches : List Patch) (n : ℕ) (old new : List Bool) : Type 0 where
  pub kept : (c : ℕ) → IsReached old c → IsReached new c
  pub only : (c : ℕ) → IsReached new c → IsReached old c ⊎ IsHardNumber patches c n
  pub each : (c : ℕ) → IsHardNumber patches c n → IsReached new c

-- n is the number of a hard change of b in memory, or such a one depends on it
pub record IsUnderHard (patches : List Patch) (b n : ℕ) : Type 0 where
  pub top : ℕ
  pub hard : IsHardNumber patches b top
  pub over : (top ≡ n) ⊎ DependsOn patches top n

-- n is the number of a hard change of b in memory, or such a one is kept over it
abbrev pub IsKeptUnder : List Patch → (ℕ → ℕ) → ℕ → ℕ → Type 0
IsKeptUnder patches over b n = IsHardNumber patches b n ⊎ ((over n ≢ 0) × IsHardNumber patches b (over n))

-- n is not on disk, and is a change of b that is not on disk or depends on one
pub record IsLiveOver (patches : List Patch) (b n : ℕ) : Type 0 where
  pub live : IsLiveNumber patches n
  pub base : ℕ
  pub change : PassesAt (test.LiveOn b) patches base
  pub over : (n ≡ base) ⊎ DependsOn patches n base

-- from the hard change p in memory of another block than b to the change q of the same block that is not on disk
pub record CrossesBeside (patches : List Patch) (b p q : ℕ) : Type 0 where
  pub block : ℕ
  pub other : block ≢ b
  pub hard : IsHardNumber patches block p
  pub change : PassesAt (test.LiveOn block) patches q

-- a step up, to what waits for p: to one that directly depends on it and is not on disk, or across another block than b
abbrev pub StepsBack : List Patch → ℕ → ℕ → ℕ → Type 0
StepsBack patches b p q = (DirectlyOn patches q p × IsLiveNumber patches q) ⊎ CrossesBeside patches b p q

-- a way leads from the row back to the change `end` of b: a change of another block at or below the row waits for `end`, and none of it is on disk
pub record LeadsBack (patches : List Patch) (b : ℕ) (row : List ℕ) (end : ℕ) : Type 0 where
  pub away : ℕ
  pub change : PassesAt (test.LiveOn b) patches end
  pub off : PassesAt (test.LiveOff b) patches away
  pub under : HasUnder patches row (λ n. n ≡ away)
  pub path : Closure (StepsBack patches b) end away
