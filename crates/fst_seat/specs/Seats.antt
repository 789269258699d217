-- What is kept of one block.
use Rattle.std.specs.Prelude.{◌&&◌, nat_lt, ℕ, Bool, true, false, List, [], ◌∷◌, Option, Some, None, is_some, map, count_by}
use Rattle.std.specs.Option.{option_map_or}
use Rattle.fst_types.specs.Limits.{max_tries}
use Rattle.fst_types.specs.State.{Flight, BlockState}
use Rattle.fst_block.specs.BlockView.{BlockPatch, BlockView, soft_lengths}

-- of a write that failed: what the slot held when the write was first sent out, what it holds now, and how many of its calls have failed
pub record Back : Type 0 where
  pub before : List ℕ
  pub held : List ℕ
  pub faults : ℕ

-- one block: what is committed and in flight, its number, its bytes and patches where they are in memory, the patches in flight, what its slot holds where it is at home, its slot's faults, and what came back of a write that failed
pub record SeatView : Type 0 where
  pub block : BlockState
  pub place : ℕ
  pub loaded : Option BlockView
  pub patches : List ℕ
  pub home : Option (List ℕ)
  pub faults : ℕ
  pub back : Option Back

-- a flight that is out, or whose completion came back, `failed` of its tries having failed
abbrev pub flight_view : ℕ → List ℕ → (back : Bool) → (failed : ℕ) → Flight
flight_view ticket image back failed = record { ticket = ticket; image = image; stalled = back && nat_lt failed max_tries; failed = failed }

-- how many tries of a flight have failed
abbrev pub tries_of : Option Flight → ℕ
tries_of flight = option_map_or (λ (f : Flight). f.failed) flight 0

abbrev pub back_view : List ℕ → List ℕ → ℕ → Back
back_view before held faults = record { before = before; held = held; faults = faults }

-- a block whose slot is at home and was not read
abbrev pub seat_of : List ℕ → ℕ → ℕ → SeatView
seat_of held place faults = record { block = record { committed = held; flight = None }; place = place; loaded = None; patches = []; home = Some held; faults = faults; back = None }

-- the blocks of these slots, by what each holds, its index and its faults
abbrev pub seats_of : {Slot : Type 0} (held : Slot → List ℕ) (index faults : Slot → ℕ) → List Slot → List SeatView
seats_of held index faults slots = map (λ slot. seat_of (held slot) (index slot) (faults slot)) slots

abbrev pub blocks : List SeatView → List BlockState
blocks seats = map (λ s. s.block) seats

abbrev pub has_patches : List BlockPatch → Bool
has_patches [] = false
has_patches (p ∷ ps) = true

abbrev pub is_changed : Option BlockView → Bool
is_changed None = false
is_changed (Some l) = has_patches l.patches

abbrev pub is_dirty_with : Option Flight → Option BlockView → Bool
is_dirty_with None loaded = is_changed loaded
is_dirty_with (Some f) loaded = true

-- whether the block has a change in memory or in flight
abbrev pub is_dirty_seat : SeatView → Bool
is_dirty_seat seat = is_dirty_with seat.block.flight seat.loaded

-- how many undo bytes the block keeps: none where it is not in memory
abbrev pub undo_of : SeatView → ℕ
undo_of seat = option_map_or (λ (l : BlockView). soft_lengths l.patches) seat.loaded 0

-- how many blocks have a write that is out, stalled or lost
abbrev pub count_flying : List SeatView → ℕ
count_flying seats = count_by (λ (v : BlockState). is_some v.flight) (blocks seats)

-- all blocks: how many of them may be in memory, and the seat of each
pub record SeatsView : Type 0 where
  pub most : ℕ
  pub seats : List SeatView
