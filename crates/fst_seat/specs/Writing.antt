-- What a write makes of a block's seat, as it goes out, comes back, and goes out again.
use Rattle.std.specs.Prelude.{◌≡◌, ◌<◌, ◌+◌, ℕ, true, false, List, [], Option, Some, None, IsSome, length}
use Rattle.fst_types.specs.declared.number.PatchNo.{PatchNo}
use Rattle.fst_types.specs.Limits.{max_tries}
use Rattle.fst_types.specs.State.{Flight}
use Rattle.fst_block.specs.BlockView.{BlockView, fold_of}
use Rattle.fst_block.specs.Choices.{IsChoice, chosen_of, others_of}
use Rattle.fst_seat.specs.Names.{numbers_of}
use Rattle.fst_seat.specs.Seats.{Back, SeatView, flight_view, tries_of, is_dirty_seat}

-- a write of the chosen patches may go out with this image: none is out, and the block is in memory
pub record MayGoOut (seat : SeatView) (chosen : List PatchNo) (image : List ℕ) : Type 0 where
  pub home : seat.block.flight ≡ None
  pub view : BlockView
  pub there : seat.loaded ≡ Some view
  pub dirty : is_dirty_seat seat ≡ true
  pub choice : IsChoice view.patches chosen
  pub folded : image ≡ fold_of view.base (chosen_of chosen view.patches)
  pub sized : length image ≡ length seat.block.committed

-- it goes out under this ticket: the chosen patches go with it, and the slot is away
abbrev pub sent : SeatView → BlockView → (ticket : ℕ) → (chosen : List PatchNo) → (image : List ℕ) → SeatView
sent seat view ticket chosen image = record seat {
  block = record seat.block { flight = Some (flight_view ticket image false 0) };
  loaded = Some (record { base = fold_of view.base (chosen_of chosen view.patches); patches = others_of chosen view.patches });
  patches = numbers_of chosen;
  home = None;
  faults = 0;
}

-- the write of this ticket and image is out, and a try is left
pub record IsOutOf (seat : SeatView) (ticket : ℕ) (image : List ℕ) : Type 0 where
  pub out : seat.block.flight ≡ Some (flight_view ticket image false (tries_of seat.block.flight))
  pub few : tries_of seat.block.flight < max_tries

-- it was made: the slot is at home, and the image is committed
abbrev pub come_home : SeatView → (image : List ℕ) → (faults : ℕ) → SeatView
come_home seat image faults = record seat { block = record { committed = image; flight = None }; patches = []; home = Some image; faults = faults; back = None }

-- the block's flight is another, with what came back of it
abbrev pub with_write : SeatView → Flight → Option Back → SeatView
with_write seat flight back = record seat { block = record seat.block { flight = Some flight }; back = back }

-- it failed, so many tries having failed before
abbrev pub waits : SeatView → (ticket : ℕ) → (image : List ℕ) → (failed : ℕ) → Option Back → SeatView
waits seat ticket image failed back = with_write seat (flight_view ticket image true (failed + 1)) back

-- the write failed, and a try is left: its image may go out again
pub record MayGoAgain (seat : SeatView) : Type 0 where
  pub flight : Flight
  pub out : seat.block.flight ≡ Some flight
  pub few : flight.failed < max_tries
  pub back : IsSome seat.back

-- the image goes out again, under this ticket
abbrev pub tried_again : SeatView → (ticket : ℕ) → (image : List ℕ) → (failed : ℕ) → SeatView
tried_again seat ticket image failed = with_write seat (flight_view ticket image false failed) None
