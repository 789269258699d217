-- Which changes are hard.
use Rattle.std.specs.Prelude.{◌≢◌, ℕ, List}
use Rattle.fst_types.specs.declared.grade.Grade.{Grade}
use Rattle.fst_types.specs.declared.grade.Grade.TheVariants as grade
use Rattle.fst_types.specs.Closure.{Closure}
use Rattle.fst_types.specs.Patches.{Patch, IsHard, IsLive}
use Rattle.fst_types.specs.Dependencies.{Needs, IsBlocked}
use Rattle.fst_types.specs.Writable.{IsInMemoryOn}

-- an edge of the block graph: some hard patch of b in memory has a live need on c
pub record HasEdge (heads : List Patch) (b c : ℕ) : Type 0 where
  pub other : b ≢ c
  pub hard : Patch
  pub need : Patch
  pub in_memory : IsInMemoryOn heads b hard
  pub is_hard : IsHard hard
  pub needs : Needs heads hard.number need c
  pub live : IsLive need

-- edges lead from b to c
abbrev pub Reaches : List Patch → ℕ → ℕ → Type 0
Reaches heads = Closure (HasEdge heads)

-- p has a live need off b, which has a live need on b
pub record Returns (heads : List Patch) (b p : ℕ) : Type 0 where
  pub away : Patch
  pub back : Patch
  pub away_on : ℕ
  pub off : away_on ≢ b
  pub away_needed : Needs heads p away away_on
  pub away_live : IsLive away
  pub back_needed : Needs heads away.number back b
  pub back_live : IsLive back

-- a new change p on b may be hard: it is not blocked, does not return to b, and no other block with a live need of it reaches b without it
pub record IsGradedHard (before after : List Patch) (b p : ℕ) : Type 0 where
  pub free : IsBlocked after p → ⊥
  pub straight : Returns after b p → ⊥
  pub open_ended : (q : Patch) (c : ℕ) → Needs after p q c → IsLive q → c ≢ b → Reaches before c b → ⊥

-- a new change is hard exactly if it may be
abbrev pub FollowsRule : Grade → Type 0 → Type 0
FollowsRule grade.Hard MayBeHard = MayBeHard
FollowsRule grade.Soft MayBeHard = MayBeHard → ⊥

-- the grade of a new change p on b, the heads being `before` without it and `after` with it
abbrev pub IsGraded : List Patch → List Patch → ℕ → ℕ → Grade → Type 0
IsGraded before after b p grade = FollowsRule grade (IsGradedHard before after b p)
