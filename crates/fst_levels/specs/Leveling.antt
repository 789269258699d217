-- Levels: a number for each patch, and for each block its floor, so that no way down rises. What is below the floor of a block waits for nothing that may come to wait for that block.
use Rattle.std.specs.Prelude.{◌≡◌, ◌≤◌, ◌==◌, ◌/◌, ◌<◌, nat_lt, ℕ, List, [], ◌∷◌, AllPairs, length, map, slice_index_or, if◌then◌else◌}
use Rattle.fst_types.specs.{Dependencies.DirectlyOn, Gates.IsOpenNumber, Patches.Patch}
use Rattle.fst_heads.specs.{Grading.IsHardNumber, Indices.PassesAt}
use Rattle.fst_heads.specs.declared.test.Test.TheVariants as test
use Rattle.fst_levels.specs.{Ancestors.{AreOver, AreUnder}, declared.levels.{Ancestry.Ancestry, Rank.Rank}}

-- the greatest level
abbrev pub top_level : ℕ
top_level = 4294967295

-- a patch is as high at least as what it directly depends on; a live change is as high as its block's floor at least, and a hard one in memory at most; an open gate is at the top
pub record AreLeveled (patches : List Patch) (level floor : ℕ → ℕ) : Type 0 where
  pub direct : (p q : ℕ) → DirectlyOn patches p q → level q ≤ level p
  pub change : (b p : ℕ) → PassesAt (test.LiveOn b) patches p → floor b ≤ level p
  pub hard : (b p : ℕ) → IsHardNumber patches b p → level p ≤ floor b
  pub gates : (p : ℕ) → IsOpenNumber patches p → level p ≡ top_level
  pub few : (p : ℕ) → level p ≤ top_level

-- the numbers of ranks rise
abbrev pub AreRanked : List Rank → Type 0
AreRanked ranks = AllPairs (λ r q. r.number < q.number) ranks

-- what is kept under a number, and 0 where nothing is
abbrev pub kept_under : (Rank → ℕ) → List Rank → ℕ → ℕ
kept_under kept [] n = 0
kept_under kept (r ∷ rs) n = if r.number == n then kept r else kept_under kept rs n

abbrev pub level_of : List Rank → ℕ → ℕ
level_of = kept_under (λ r. r.level)

abbrev pub parent_of : List Rank → ℕ → ℕ
parent_of = kept_under (λ r. r.ancestry.parent)

abbrev pub jump_of : List Rank → ℕ → ℕ
jump_of = kept_under (λ r. r.ancestry.jump)

abbrev pub hard_over_of : List Rank → ℕ → ℕ
hard_over_of = kept_under (λ r. r.hard_over)

-- a rank but for its level
abbrev pub unleveled : Rank → Rank
unleveled r = record r { level = 0 }

-- no ancestor
abbrev pub no_ancestry : Ancestry
no_ancestry = record { parent = 0; jump = 0; depth = 0 }

abbrev pub floor_of : List ℕ → ℕ → ℕ
floor_of floors b = slice_index_or floors b 0

-- half of a level, or the top where that is no lower
abbrev pub halved : ℕ → ℕ
halved level = if nat_lt level top_level then level / 2 else level

-- a rank with half of its level
abbrev pub halved_rank : Rank → Rank
halved_rank r = record r { level = halved r.level }

-- the levels of the heads in their order, with what is known above and below each, the floors of the blocks, and for how many heads there is room
pub record Leveling : Type 0 where
  pub ranks : List Rank
  pub floors : List ℕ
  pub room : ℕ

-- each head has its level, its ancestors and perhaps a hard change over it, and each block its floor, and they are as they should be
pub record IsLeveled (patches : List Patch) (blocks : ℕ) (levels : Leveling) : Type 0 where
  pub aligned : map (λ r. r.number) levels.ranks ≡ map (λ p. p.number) patches
  pub long : length levels.floors ≡ blocks
  pub leveled : AreLeveled patches (level_of levels.ranks) (floor_of levels.floors)
  pub parents : AreOver patches (parent_of levels.ranks)
  pub jumps : AreOver patches (jump_of levels.ranks)
  pub overs : AreUnder patches (hard_over_of levels.ranks)
