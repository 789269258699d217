-- The search for a cycle: down from names to an open gate, or up from the gate to names, through what waits for an open gate.
use Rattle.std.specs.Prelude.{◌≡◌, ◌⊎◌, ◌↔◌, ℕ, List, length, slice_index_or, Contains}
use Rattle.fst_types.specs.{Dependencies.{DirectlyOn, DependsOn, IsLiveNumber}, Gates.IsOpenNumber, Patches.Patch}
use Rattle.fst_heads.specs.{Heads.patches_of, Indices.IsAbove, Nodes.{nodes_of, pending_in}, Rows.IsTouched, declared.head.Head.Head}
use Rattle.fst_walks.specs.{BothEnds.AreApart, Descending.{GoesOn, IsLedFrom, Visited}, declared.{cycle.Way.Way, ends.Ends.Ends}}
use Rattle.fst_levels.specs.Walks.{Trail, numbers_met}
use Rattle.fst_heads.specs.declared.pending.Pending.{Pending}
use Rattle.fst_heads.specs.declared.pending.Pending.TheVariants as pending
use Rattle.fst_walks.specs.declared.cycle.Way.TheVariants as way

-- an open gate is pending of exactly the open gates and of what depends on one
abbrev pub AreHeldByGates : List Patch → (ℕ → Pending) → Type 0
AreHeldByGates patches told = (n : ℕ) → (told n ≡ pending.Held) ↔ IsAbove patches (IsOpenNumber patches) n

-- what is pending tells of the open gates, and what waits for one is not on disk
pub record TellsGates (heads : List Head) : Type 0 where
  pub live : (n : ℕ) → pending_in (nodes_of heads) n ≡ pending.Held → IsLiveNumber (patches_of heads) n
  pub held : AreHeldByGates (patches_of heads) (pending_in (nodes_of heads))

-- a step of the search: to a direct dependency that waits for an open gate
abbrev pub IsNextHeld : List Patch → (ℕ → Pending) → ℕ → ℕ → Type 0
IsNextHeld patches told n m = DirectlyOn patches n m × (told m ≡ pending.Held)

-- a step up: to what directly depends on it and waits for an open gate
abbrev pub IsNextAbove : List Patch → (ℕ → Pending) → ℕ → ℕ → Type 0
IsNextAbove patches told n m = DirectlyOn patches m n × (told m ≡ pending.Held)

-- what is next to a head that way
abbrev pub row_on : Way → Head → List ℕ
row_on way.Up h = h.dependants.items
row_on way.Down h = h.dependencies.items

-- a step that way
abbrev pub IsNext : Way → List Patch → (ℕ → Pending) → ℕ → ℕ → Type 0
IsNext way.Up = IsNextAbove
IsNext way.Down = IsNextHeld

-- besides what was met, only what steps lead to was met, and all that they lead to at once from what was met at that turn
pub record Advances (Steps : ℕ → ℕ → Type 0) (at : ℕ) (old new : List ℕ) : Type 0 where
  pub on : GoesOn Steps old new
  pub each : (n : ℕ) → Steps (slice_index_or old at 0) n → Contains new n

-- both walks are over these heads
pub record AreOver (heads : List Head) (ends : Ends) : Type 0 where
  pub up : length ends.up.walk.marks ≡ length heads
  pub down : length ends.down.walk.marks ≡ length heads

-- neither walk has met any but what is not on disk, nor what the other has
pub record StandApart (heads : List Head) (walk other : Trail) : Type 0 where
  pub walk_live : Visited heads walk
  pub other_live : Visited heads other
  pub apart : AreApart (numbers_met heads walk) (numbers_met heads other)

-- both have met n
pub record MeetBoth (heads : List Head) (walk other : Trail) : Type 0 where
  pub n : ℕ
  pub walk_met : Contains (numbers_met heads walk) n
  pub other_met : Contains (numbers_met heads other) n

-- steps lead up to n from one of the bottoms, and down to it from one of the tops
pub record IsBetween (patches : List Patch) (told : ℕ → Pending) (bottoms tops : List ℕ) (n : ℕ) : Type 0 where
  pub over : IsLedFrom (IsNextAbove patches told) bottoms n
  pub under : IsLedFrom (IsNextHeld patches told) tops n

-- one of the two walks has met all that it leads to, and nothing was met by both
pub record StayApart (patches : List Patch) (told : ℕ → Pending) (bottoms tops over under : List ℕ) : Type 0 where
  pub over_begun : (n : ℕ) → Contains bottoms n → Contains over n
  pub under_begun : (n : ℕ) → Contains tops n → Contains under n
  pub apart : AreApart over under
  pub ended : ((n : ℕ) → IsLedFrom (IsNextAbove patches told) bottoms n → Contains over n) ⊎ ((n : ℕ) → IsLedFrom (IsNextHeld patches told) tops n → Contains under n)

-- a live change that shares one of these bytes of block b depends on the tail
abbrev pub TouchedReaches : List Patch → ℕ → (b at len : ℕ) → Type 0
TouchedReaches heads tail b at len = (n : ℕ) × IsTouched heads b at len n × DependsOn heads n tail
