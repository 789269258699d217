-- A way back to a block, looked for from both its ends: down from the first changes of other blocks that are at or below the row, and up from the changes of the block, through what is no higher than those and no lower than the floor of the block.
use Rattle.std.specs.Prelude.{◌≡◌, ◌≢◌, ◌≤◌, ◌⊎◌, ℕ, Bool, List, length, Contains}
use Rattle.fst_types.specs.{Closure.Closure, Dependencies.{DirectlyOn, IsLiveNumber}, Patches.{Patch, IsLive}}
use Rattle.fst_heads.specs.{Grading.IsHardNumber, Indices.PassesAt, Reaching.IsReached, declared.head.Head.Head}
use Rattle.fst_walks.specs.{Descending.IsLedFrom, declared.block_walk.BlockWalk.BlockWalk}
use Rattle.fst_levels.specs.WayBack.{Crosses, IsKeptUnder}
use Rattle.fst_heads.specs.declared.test.Test.TheVariants as test

-- n is not on disk, and no lower than `least`
abbrev pub IsHigh : List Patch → (ℕ → ℕ) → ℕ → ℕ → Type 0
IsHigh patches level least n = IsLiveNumber patches n × (least ≤ level n)

-- the way down to the first changes of other blocks goes through p: it is none, nor kept as a hard change of b in memory or below one, from where nothing leads back to b
pub record GoesThrough (patches : List Patch) (over : ℕ → ℕ) (b p : ℕ) : Type 0 where
  pub own : PassesAt (test.LiveOff b) patches p → ⊥
  pub free : IsKeptUnder patches over b p → ⊥

-- a step of that way: to a direct dependency that is not on disk, and no lower than `least`
abbrev pub StepsAway : List Patch → (ℕ → ℕ) → (ℕ → ℕ) → ℕ → ℕ → ℕ → ℕ → Type 0
StepsAway patches over level least b p q = GoesThrough patches over b p × DirectlyOn patches p q × IsHigh patches level least q

-- n is a change of another block, not on disk, no lower than `least`, and in the row, or that way leads from one of the row to it
pub record IsFirstAway (patches : List Patch) (over level : ℕ → ℕ) (least b : ℕ) (row : List ℕ) (n : ℕ) : Type 0 where
  pub away : PassesAt (test.LiveOff b) patches n
  pub top : ℕ
  pub named : Contains row top
  pub high : IsHigh patches level least top
  pub path : (top ≡ n) ⊎ Closure (StepsAway patches over level least b) top n

-- q is not on disk, and is kept as needed by block c
abbrev pub IsNeed : List Patch → (ℕ → List ℕ) → ℕ → ℕ → Type 0
IsNeed patches needs c q = Contains (needs c) q × IsLiveNumber patches q

-- from the change p, which is not on disk, to a need of its block, which is not shown as crossed
pub record CrossesDown (patches : List Patch) (needs : ℕ → List ℕ) (crossed : List Bool) (p q : ℕ) : Type 0 where
  pub block : ℕ
  pub change : PassesAt (test.LiveOn block) patches p
  pub fresh : IsReached crossed block → ⊥
  pub need : IsNeed patches needs block q

-- n is a need of block c, and no lower than `least`
abbrev pub IsHighNeed : List Patch → (ℕ → ℕ) → ℕ → (ℕ → List ℕ) → ℕ → ℕ → Type 0
IsHighNeed patches level least needs c n = IsNeed patches needs c n × (least ≤ level n)

-- p is no hard change in memory: what such a one directly depends on, its block needs
abbrev pub GoesBelow : List Patch → ℕ → Type 0
GoesBelow patches p = (c : ℕ) → IsHardNumber patches c p → ⊥

-- from p, which is no hard change in memory, to a direct dependency that is no lower than `least`
abbrev pub StepsBelow : List Patch → (ℕ → ℕ) → ℕ → ℕ → ℕ → Type 0
StepsBelow patches level least p q = GoesBelow patches p × DirectlyOn patches p q × IsHigh patches level least q

-- a step of the walk down, to what is no lower than `least`: to a direct dependency, or across a block to what this needs
abbrev pub StepsHigh : List Patch → (ℕ → ℕ) → ℕ → (ℕ → List ℕ) → List Bool → ℕ → ℕ → Type 0
StepsHigh patches level least needs crossed p q = StepsBelow patches level least p q ⊎ (CrossesDown patches needs crossed p q × (least ≤ level q))

-- none of them is a change of b that is not on disk
abbrev pub IsAwayFrom : List Patch → ℕ → List ℕ → Type 0
IsAwayFrom patches b met = (n : ℕ) → Contains met n → PassesAt (test.LiveOn b) patches n → ⊥

-- steps down lead from one of the tops to the change with number `at` of b, which is not on disk
pub record ComesTo (patches : List Patch) (level : ℕ → ℕ) (least : ℕ) (needs : ℕ → List ℕ) (crossed : List Bool) (b : ℕ) (tops : List ℕ) (at : ℕ) : Type 0 where
  pub under : IsLedFrom (StepsHigh patches level least needs crossed) tops at
  pub change : PassesAt (test.LiveOn b) patches at

-- the block of the change with number n, which is not on disk, is shown besides
pub record ShowsBlockUnder (patches : List Patch) (n : ℕ) (old new : List Bool) : Type 0 where
  pub kept : (c : ℕ) → IsReached old c → IsReached new c
  pub only : (c : ℕ) → IsReached new c → IsReached old c ⊎ PassesAt (test.LiveOn c) patches n
  pub each : (c : ℕ) → PassesAt (test.LiveOn c) patches n → IsReached new c

-- a patch with the number n, if there is one, is not on disk
abbrev pub IsOffDisk : List Patch → ℕ → Type 0
IsOffDisk patches n = (p : Patch) → Contains patches p → p.number ≡ n → IsLive p

-- n is not on disk, and no higher than `most`
abbrev pub IsLow : List Patch → (ℕ → ℕ) → ℕ → ℕ → Type 0
IsLow patches level most n = IsLiveNumber patches n × (level n ≤ most)

-- n is a change of b, not on disk, and no higher than `most`
abbrev pub IsLowChange : List Patch → (ℕ → ℕ) → ℕ → ℕ → ℕ → Type 0
IsLowChange patches level most b n = PassesAt (test.LiveOn b) patches n × (level n ≤ most)

-- a step of the walk up, to what is no higher than `most`: to one that directly depends on it, or across a block
abbrev pub StepsLow : List Patch → (ℕ → ℕ) → ℕ → List Bool → ℕ → ℕ → Type 0
StepsLow patches level most crossed p q = (DirectlyOn patches q p × IsLow patches level most q) ⊎ (Crosses patches crossed p q × (level q ≤ most))

-- the walk is over these heads and that many blocks
pub record IsOver (heads : List Head) (blocks : ℕ) (walk : BlockWalk) : Type 0 where
  pub long : length walk.walk.marks ≡ length heads
  pub crossed : length walk.crossed.items ≡ blocks

-- nothing was met by both walks
abbrev pub AreApart : List ℕ → List ℕ → Type 0
AreApart over under = (n : ℕ) → Contains over n → Contains under n → ⊥

-- from where they start, the two walks both lead to the patch with number `at`
pub record LeadTogether (patches : List Patch) (level : ℕ → ℕ) (needs : ℕ → List ℕ) (most least : ℕ) (up down : List Bool) (bottoms tops : List ℕ) (at : ℕ) : Type 0 where
  pub over : IsLedFrom (StepsLow patches level most up) bottoms at
  pub under : IsLedFrom (StepsHigh patches level least needs down) tops at

-- one of the two walks has met all that it leads to, and nothing was met by both
pub record EndApart (patches : List Patch) (level : ℕ → ℕ) (needs : ℕ → List ℕ) (most least : ℕ) (up down : List Bool) (bottoms tops over under : List ℕ) : Type 0 where
  pub over_begun : (n : ℕ) → Contains bottoms n → Contains over n
  pub under_begun : (n : ℕ) → Contains tops n → Contains under n
  pub apart : AreApart over under
  pub ended : ((n : ℕ) → IsLedFrom (StepsLow patches level most up) bottoms n → Contains over n) ⊎ ((n : ℕ) → IsLedFrom (StepsHigh patches level least needs down) tops n → Contains under n)

-- from the change p of another block than b, which is not on disk, to a need of its block
pub record CrossesTo (patches : List Patch) (needs : ℕ → List ℕ) (b p q : ℕ) : Type 0 where
  pub block : ℕ
  pub other : block ≢ b
  pub change : PassesAt (test.LiveOn block) patches p
  pub need : IsNeed patches needs block q

-- a step down, to what p waits for: to a direct dependency that is not on disk, or across another block than b to what this needs
abbrev pub StepsTo : List Patch → (ℕ → List ℕ) → ℕ → ℕ → ℕ → Type 0
StepsTo patches needs b p q = (DirectlyOn patches p q × IsLiveNumber patches q) ⊎ CrossesTo patches needs b p q
