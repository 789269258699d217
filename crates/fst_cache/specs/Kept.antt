-- What the cache's type keeps.
use Rattle.std.specs.Prelude.{◌≡◌, ◌≤◌, ℕ, true, List, Some, IsSome, is_some, map, length, count_by, sum_by, slice_get}
use Rattle.fst_types.specs.declared.place.Place.TheVariants as place
use Rattle.fst_types.specs.declared.span.Span.{Span}
use Rattle.fst_types.specs.declared.grade.Grade.{Grade}
use Rattle.fst_types.specs.declared.grade.Grade.TheVariants as grade
use Rattle.fst_types.specs.Patches.{Kind, Change, Patch, at_of, len_of}
use Rattle.fst_types.specs.State.{Flight, State, block_of, committed, flight_of}
use Rattle.fst_types.specs.Bytes.{content_of, changes_at, base_under}
use Rattle.fst_types.specs.Counts.{is_dirty, IsDirty}
use Rattle.fst_types.specs.Facts.{IsLawful}
use Rattle.fst_block.specs.BlockView.{BlockPatch, BlockView}
use Rattle.fst_cache.specs.Views.{CacheView, home_of}
use Rattle.fst_seat.specs.Seats.{SeatView, blocks, undo_of}
use Rattle.fst_cache.specs.declared.cache.Cache.TheInside.{Inside}

-- the grade of a change, and soft for other kinds
abbrev pub grade_in : Kind → Grade
grade_in (Change block at len g) = g
grade_in _ = grade.Soft

abbrev pub span_of : ℕ → ℕ → Span
span_of at len = record { at = at; len = len }

-- a change as its block keeps it
abbrev pub block_patch : List (ℕ × List ℕ) → Patch → BlockPatch
block_patch contents p = record { number = p.number; span = span_of (at_of p.kind) (len_of p.kind); grade = grade_in p.kind; bytes = content_of contents p.number }

-- the changes of block b in memory, as the block keeps them
abbrev pub block_patches : State → ℕ → List BlockPatch
block_patches s b = map (block_patch s.contents) (changes_at s place.Memory b)

-- block b as it is in memory
abbrev pub block_view : State → ℕ → BlockView
block_view s b = record { base = base_under (committed s b) (flight_of s b); patches = block_patches s b }

-- the numbers of the changes of block b in flight
abbrev pub in_flight : State → ℕ → List ℕ
in_flight s b = map (λ p. p.number) (changes_at s place.Flight b)

-- the state of a cache
abbrev pub state_of : {Slot : Type 0} → Inside Slot → State
state_of i = record {
  size = i.size;
  resident = i.seats.most;
  numbers = i.graph.numbers;
  tickets = i.tickets;
  made = i.made;
  heads = i.graph.heads;
  contents = i.contents.items;
  blocks = blocks i.seats.seats;
  groups = i.graph.groups;
}

-- and what stands beside it
abbrev pub view_of : {Slot : Type 0} → Inside Slot → CacheView
view_of i = record {
  state = state_of i;
  homes = map (λ seat. seat.home) i.seats.seats;
  faults = map (λ seat. seat.faults) i.seats.seats;
  resident = map (λ seat. is_some seat.loaded) i.seats.seats;
  back = map (λ seat. seat.back) i.seats.seats;
}

-- the seat of block b agrees with the state
pub record IsKeptSeat (s : State) (b : ℕ) (seat : SeatView) : Type 0 where
  pub loaded : (l : BlockView) → seat.loaded ≡ Some l → l ≡ block_view s b
  pub dirty : IsDirty s b → IsSome seat.loaded
  pub home : seat.home ≡ home_of seat.block
  pub patches : (f : Flight) → seat.block.flight ≡ Some f → seat.patches ≡ in_flight s b

-- each seat does, the state is lawful, no more blocks are in memory than may be, and the undo bytes of all blocks are as many as are counted
pub record IsKept {Slot : Type 0} (i : Inside Slot) : Type 0 where
  pub lawful : IsLawful (state_of i)
  pub few : length i.seats.seats ≤ 4096
  pub small : i.size ≤ 4096
  pub graph_blocks : i.graph.blocks ≡ length i.seats.seats
  pub loaded : count_by (λ seat. is_some seat.loaded) i.seats.seats ≤ i.seats.most
  pub seat : (b : ℕ) (seat : SeatView) → slice_get i.seats.seats b ≡ Some seat → IsKeptSeat (state_of i) b seat
  pub undoing : i.undo ≡ sum_by undo_of i.seats.seats

-- block b, its changes and whether it is dirty are in both states the same
pub record IsSameAt (s t : State) (b : ℕ) : Type 0 where
  pub block : block_of t b ≡ block_of s b
  pub patches : block_patches t b ≡ block_patches s b
  pub flying : in_flight t b ≡ in_flight s b
  pub dirty : is_dirty t.heads b ≡ true → is_dirty s.heads b ≡ true
