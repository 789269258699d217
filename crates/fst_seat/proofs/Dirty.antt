-- Which blocks are dirty, and what is kept beside the seats, as seats change.
use Rattle.std.proofs.Common.{◌≡◌, ◌⊎◌, ℕ, Bool, true, false, List, [], ◌∷◌, Option, Some, None, is_some, refl, sym, ap, ◌∙◌, inl, inr, length, replicate, slice_get, slice_set}
use Rattle.std.proofs.lemmas.Bool.{true≢false}
use Rattle.std.proofs.lemmas.List.{map-set}
use Rattle.std.proofs.lemmas.Option.{same_Some}
use Rattle.fst_types.specs.State.{Flight}
use Rattle.fst_block.specs.BlockView.{BlockView}
use Rattle.fst_seat.specs.Places.{IsCleanResident}
use Rattle.fst_seat.specs.Seats.{SeatView, is_dirty_with, is_dirty_seat, seats_of}
use Rattle.fst_seat.specs.Residing.{are_loaded, are_dirty, residents_of, IsCleanLoaded, IsCleanAt}
use Rattle.fst_seat.proofs.Exchanging.{get_map, map_get}
use Rattle.fst_seat.proofs.Seated.{same_listed}

-- a block with a flight is dirty
pub flown_dirty : (seat : SeatView) (f : Flight) → seat.block.flight ≡ Some f → is_dirty_seat seat ≡ true
flown_dirty seat f out = ap (λ (o : Option Flight). is_dirty_with o seat.loaded) out

-- one that is not dirty stays so without its bytes
pub left_clean : (seat : SeatView) → is_dirty_seat seat ≡ false → is_dirty_seat (record seat { loaded = None }) ≡ false
left_clean seat still = by_flight seat.block.flight seat.loaded still
  where
    by_flight : (f : Option Flight) (o : Option BlockView) → is_dirty_with f o ≡ false → is_dirty_with f None ≡ false
    by_flight None o still = refl
    by_flight (Some f) o still = absurd (true≢false still)

-- and as it is read
pub read_clean : (seat new : SeatView) → seat.block.flight ≡ None → new ≡ record seat { loaded = new.loaded; faults = new.faults }
    → (new.loaded ≡ seat.loaded) ⊎ ((seat.loaded ≡ None) × (new.loaded ≡ Some (record { base = seat.block.committed; patches = [] })))
    → is_dirty_seat new ≡ is_dirty_seat seat
read_clean seat new home same (inl as_was) = ap is_dirty_seat same ∙ ap (is_dirty_with seat.block.flight) as_was
read_clean seat new home same (inr read) =
    ap is_dirty_seat same
    ∙ (ap (λ (f : Option Flight). is_dirty_with f new.loaded) home
    ∙ (ap (is_dirty_with None) read.1
    ∙ sym (ap (λ (f : Option Flight). is_dirty_with f seat.loaded) home ∙ ap (is_dirty_with None) read.0)))

module _ (most : ℕ) (seats : List SeatView) where
  -- what is kept is right where either list is
  pub residents_are : (loaded dirty : List Bool) → loaded ≡ are_loaded seats → dirty ≡ are_dirty seats → record { most = most; loaded = loaded; dirty = dirty } ≡ residents_of most seats
  residents_are loaded dirty there is = rw (there, is) refl

  -- a block that is listed as clean and in memory has such a seat
  pub clean_at : (c : ℕ) → IsCleanResident (residents_of most seats) c → (seat : SeatView) × IsCleanAt seats c seat
  clean_at c clean =
      let m = map_get (λ (t : SeatView). is_some t.loaded) seats c true clean.there in
      let still : is_dirty_seat m.0 ≡ false = same_Some _ _ (sym (get_map is_dirty_seat seats c m.0 m.1) ∙ clean.clean) in
      (m.0, record { at = m.1; block = record { there = m.2; clean = still } })

  -- and such a seat is listed so
  pub clean_listed : (c : ℕ) (seat : SeatView) → slice_get seats c ≡ Some seat → IsCleanLoaded seat → IsCleanResident (residents_of most seats) c
  clean_listed c seat at_c clean = record {
    there = get_map (λ (t : SeatView). is_some t.loaded) seats c seat at_c ∙ ap Some clean.there;
    clean = get_map is_dirty_seat seats c seat at_c ∙ ap Some clean.clean;
  }

-- what is kept follows one seat that changes
module _ (seats : List SeatView) (b : ℕ) (seat : SeatView) (at_b : slice_get seats b ≡ Some seat) (most : ℕ) (new : SeatView) where
  same_loaded : is_some new.loaded ≡ is_some seat.loaded → are_loaded seats ≡ are_loaded (slice_set seats b new)
  same_loaded there = sym (same_listed seats b seat at_b (λ (t : SeatView). is_some t.loaded) new there)

  same_dirty : is_dirty_seat new ≡ is_dirty_seat seat → are_dirty seats ≡ are_dirty (slice_set seats b new)
  same_dirty dirty = sym (same_listed seats b seat at_b is_dirty_seat new dirty)

  -- it is in memory and dirty exactly where it was
  pub residents_same : is_some new.loaded ≡ is_some seat.loaded → is_dirty_seat new ≡ is_dirty_seat seat → residents_of most seats ≡ residents_of most (slice_set seats b new)
  residents_same there dirty = residents_are most (slice_set seats b new) (are_loaded seats) (are_dirty seats) (same_loaded there) (same_dirty dirty)

  -- it comes into memory, or leaves it, and is dirty where it was
  pub residents_moved : (t : Bool) → is_some new.loaded ≡ t → is_dirty_seat new ≡ is_dirty_seat seat
      → record (residents_of most seats) { loaded = slice_set (are_loaded seats) b t } ≡ residents_of most (slice_set seats b new)
  residents_moved t there dirty =
      residents_are most (slice_set seats b new) (slice_set (are_loaded seats) b t) (are_dirty seats)
      (sym (map-set (λ (x : SeatView). is_some x.loaded) seats b new ∙ ap (slice_set (are_loaded seats) b) there))
      (same_dirty dirty)

  -- it is in memory where it was, and becomes dirty or clean
  pub residents_marked : (t : Bool) → t ≡ is_dirty_seat new → is_some new.loaded ≡ is_some seat.loaded
      → record (residents_of most seats) { dirty = slice_set (are_dirty seats) b t } ≡ residents_of most (slice_set seats b new)
  residents_marked t dirty there =
      residents_are most (slice_set seats b new) (are_loaded seats) (slice_set (are_dirty seats) b t)
      (same_loaded there)
      (ap (slice_set (are_dirty seats) b) dirty ∙ sym (map-set is_dirty_seat seats b new))

pub none_dirty : {X : Type 0} (held : X → List ℕ) (index faults : X → ℕ) (slots : List X) → replicate (length slots) false ≡ are_dirty (seats_of held index faults slots)
none_dirty held index faults [] = refl
none_dirty held index faults (x ∷ xs) = ap (λ (ts : List Bool). false ∷ ts) (none_dirty held index faults xs)
