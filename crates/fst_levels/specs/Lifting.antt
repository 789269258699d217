-- Lifting: how a block's floor goes up, so that a new hard change of the block may stand on it. What stands over the block, and is no higher than what the change depends on, goes up with it.
use Rattle.std.specs.Prelude.{◌≡◌, ◌≤◌, ◌+◌, ℕ, true, false, List, [], Contains, length, map}
use Rattle.fst_types.specs.{Dependencies.IsLiveNumber, Patches.Patch, declared.grade.Grade.Grade}
use Rattle.fst_types.specs.declared.grade.Grade.TheVariants as grade
use Rattle.fst_heads.specs.{Grading.IsHardNumber, Indices.PassesAt}
use Rattle.fst_heads.specs.declared.test.Test.TheVariants as test
use Rattle.fst_levels.specs.{Leveling.{Leveling, level_of, floor_of, top_level, unleveled}, WayBack.StepsUp, declared.levels.Rise.Rise}

-- exactly what stands over block b, and is not on disk and no higher than `most`, was met: the changes of b, and from what was met on what a step up leads to
pub record MeetsLow (patches : List Patch) (level : ℕ → ℕ) (b most : ℕ) (met : List ℕ) : Type 0 where
  pub live : (n : ℕ) → Contains met n → IsLiveNumber patches n
  pub low : (n : ℕ) → Contains met n → level n ≤ most
  pub change : (n : ℕ) → PassesAt (test.LiveOn b) patches n → level n ≤ most → Contains met n
  pub over : (m n : ℕ) → Contains met m → StepsUp patches [] m n → level n ≤ most → Contains met n

-- what was met may go up to the level `to` with the floor of b
pub record MayLift (patches : List Patch) (levels : Leveling) (b to : ℕ) (met : List ℕ) : Type 0 where
  pub low : ℕ
  pub above : floor_of levels.floors b ≤ low
  pub at_least : low ≤ to
  pub at_most : to ≤ low + 1
  pub few : to ≤ top_level
  pub meets : MeetsLow patches (level_of levels.ranks) b low met

-- those that were met went up to that level, and with each hard change in memory the floor of its block; all else stays
pub record IsLifted (patches : List Patch) (met : List ℕ) (to : ℕ) (old new : Leveling) : Type 0 where
  pub numbers : map (λ r. r.number) new.ranks ≡ map (λ r. r.number) old.ranks
  pub long : length new.floors ≡ length old.floors
  pub room : new.room ≡ old.room
  pub raised : (n : ℕ) → Contains met n → level_of new.ranks n ≡ to
  pub rest : (n : ℕ) → (Contains met n → ⊥) → level_of new.ranks n ≡ level_of old.ranks n
  pub floors : (c n : ℕ) → Contains met n → IsHardNumber patches c n → floor_of new.floors c ≡ to
  pub beside : map unleveled new.ranks ≡ map unleveled old.ranks
  pub other_floors : (c : ℕ) → ((n : ℕ) → Contains met n → IsHardNumber patches c n → ⊥) → floor_of new.floors c ≡ floor_of old.floors c

-- how a new change of block b with that row and grade rises: over its row and its block's floor, and no higher than the floor where it is hard; where that can't be, it lifts what was met and the floor
pub record IsRise (patches : List Patch) (levels : Leveling) (b : ℕ) (row : List ℕ) (g : Grade) (met : List ℕ) (rise : Rise) : Type 0 where
  pub over : (q : ℕ) → Contains row q → level_of levels.ranks q ≤ rise.level
  pub few : rise.level ≤ top_level
  pub floor : rise.lifts ≡ false → floor_of levels.floors b ≤ rise.level
  pub hard : rise.lifts ≡ false → g ≡ grade.Hard → rise.level ≤ floor_of levels.floors b
  pub lifts : rise.lifts ≡ true → MayLift patches levels b rise.level met
