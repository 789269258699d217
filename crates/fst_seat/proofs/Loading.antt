-- A place that is made among the seats, and a seat that is read into it.
use Rattle.std.proofs.Common.{◌≡◌, ◌⊎◌, ◌<◌, ◌≤◌, ◌+◌, ℕ, true, false, List, [], map, Option, Some, None, is_some, refl, sym, ap, ◌∙◌, inl, inr, length, get_or, slice_get, slice_set, length-set, count_by}
use Rattle.std.specs.Prelude.{slice_index}
use Rattle.std.proofs.lemmas.Bool.{cases_Bool, false≢true, lt-ltb}
use Rattle.std.proofs.lemmas.Option.{get_or_from_slice_get, same_Some}
use Rattle.fst_types.specs.State.{Flight}
use Rattle.fst_types.specs.Residence.{faults_rose, IsOneFaultMore}
use Rattle.fst_block.specs.BlockView.{BlockView}
use Rattle.fst_seat.specs.Seats.{SeatView, is_dirty_with, is_dirty_seat}
use Rattle.fst_seat.specs.Residing.{count_loaded, IsCleanLoaded, IsCleanAt, MakesPlace, Loads, IsLoadedAt, IsAwayAt}
use Rattle.fst_seat.proofs.Seated.{get-set, set_here, listed, listed_new, listed_set, same_listed}
use Rattle.fst_seat.proofs.Counts.{count_le}

-- where no clean block is in memory, all that are there are dirty
pub none_clean : (seats : List SeatView) → ((d : ℕ) (other : SeatView) → slice_get seats d ≡ Some other → IsCleanLoaded other → ⊥) → count_loaded seats ≤ count_by is_dirty_seat seats
none_clean seats none =
    count_le (λ t. is_some t.loaded) is_dirty_seat seats (λ k x at_k there.
    elim (cases_Bool (is_dirty_seat x)) [
      | inl dirty ↦ dirty
      | inr still ↦ absurd (none k x at_k (record { there = there; clean = still }))
    ])

-- where none is free, a clean block gives up its own
pub leaves_by : (resident : ℕ) (seats : List SeatView) (c : ℕ) (seat read new : SeatView) → resident ≤ count_loaded seats → IsCleanAt seats c seat
    → new ≡ record (get_or seats c read) { loaded = None } → MakesPlace resident seats (slice_set seats c new)
leaves_by resident seats c seat read new full found is =
    inr (full, (c, seat, found, ap (slice_set seats c) (is ∙ ap (λ (t : SeatView). record t { loaded = None }) (get_or_from_slice_get seats c seat read found.at))))

-- what is not dirty has no flight
pub still_home : (seat : SeatView) → is_dirty_seat seat ≡ false → seat.block.flight ≡ None
still_home seat still = by_flight seat.block.flight seat.loaded still
  where
    by_flight : (o : Option Flight) (l : Option BlockView) → is_dirty_with o l ≡ false → o ≡ None
    by_flight None l e = refl
    by_flight (Some f) l e = absurd (false≢true (sym e))

pub none_of : (o : Option BlockView) → is_some o ≡ false → o ≡ None
none_of None e = refl
none_of (Some l) e = absurd (false≢true (sym e))

-- what a place that is made leaves of each seat: it stays, or gives up its block
module _ (resident : ℕ) (old placed : List SeatView) (b : ℕ) (seat : SeatView) (at_b : slice_get placed b ≡ Some seat) where
  stays_or_leaves : MakesPlace resident old placed → (slice_get old b ≡ Some seat) ⊎ (seat.loaded ≡ None)
  stays_or_leaves (inl h) = inl (ap (λ xs. slice_get xs b) (sym h.1) ∙ at_b)
  stays_or_leaves (inr h) =
      let left = record h.1.1 { loaded = None } in
      let here : slice_get (slice_set old h.1.0 left) b ≡ Some seat = ap (λ xs. slice_get xs b) (sym h.1.3) ∙ at_b in
      elim (get-set old h.1.0 b left seat here) [
        | inl it ↦ inr (ap (λ (t : SeatView). t.loaded) (sym it.1))
        | inr other ↦ inl other.1
      ]

  was_away : IsAwayAt old b → MakesPlace resident old placed → seat.loaded ≡ None
  was_away absent made = elim (stays_or_leaves made) [ inl stays ↦ absent seat stays | inr leaves ↦ leaves ]

  pub away_placed : MakesPlace resident old placed → (was : SeatView) → slice_get old b ≡ Some was → is_some was.loaded ≡ false → seat.loaded ≡ None
  away_placed made was at_old away = elim (stays_or_leaves made) [
    | inl stays ↦ none_of seat.loaded (ap (λ (t : SeatView). is_some t.loaded) (same_Some seat was (sym stays ∙ at_old)) ∙ away)
    | inr leaves ↦ leaves
  ]

-- a block that is read was not in memory, after the place was made either
pub away_read : {resident : ℕ} {old new : List SeatView} {b : ℕ} (L : Loads resident old b new) → L.seat.loaded ≡ None
away_read {resident} {old} {new} {b} L = was_away resident old L.placed b L.seat L.at L.away L.place

pub faults_placed : (resident : ℕ) (old placed : List SeatView) → MakesPlace resident old placed → map (λ (t : SeatView). t.faults) placed ≡ map (λ (t : SeatView). t.faults) old
faults_placed resident old placed (inl h) = ap (map (λ (t : SeatView). t.faults)) h.1
faults_placed resident old placed (inr h) =
    ap (map (λ (t : SeatView). t.faults)) h.1.3 ∙ same_listed old h.1.0 h.1.1 h.1.2.at (λ (t : SeatView). t.faults) (record h.1.1 { loaded = None }) refl

pub length_placed : (resident : ℕ) (old placed : List SeatView) → MakesPlace resident old placed → length placed ≡ length old
length_placed resident old placed (inl h) = ap length h.1
length_placed resident old placed (inr h) = ap length h.1.3 ∙ length-set old h.1.0 (record h.1.1 { loaded = None })

-- a seat is read into the place
module _ (resident : ℕ) (old placed : List SeatView) (made : MakesPlace resident old placed) (b : ℕ) (was : SeatView) (at_old : slice_get old b ≡ Some was) (away : is_some was.loaded ≡ false)
    (seat : SeatView) (at_b : slice_get placed b ≡ Some seat) (new : SeatView) where
  pub loads_by : new ≡ record seat { loaded = new.loaded; faults = new.faults }
      → (new.loaded ≡ seat.loaded) ⊎ ((seat.loaded ≡ None) × (new.loaded ≡ Some (record { base = seat.block.committed; patches = [] })))
      → Loads resident old b (slice_set placed b new)
  loads_by same either = record {
    away = λ other at_other. none_of other.loaded (ap (λ (t : SeatView). is_some t.loaded) (same_Some other was (sym at_other ∙ at_old)) ∙ away);
    placed = placed;
    place = made;
    seat = seat;
    at = at_b;
    loaded = new.loaded;
    faults = new.faults;
    read = elim either [ inl as_was ↦ inl (as_was ∙ none) | inr is_read ↦ inr is_read.1 ];
    seats = ap (slice_set placed b) same;
  }
    where
      none : seat.loaded ≡ None
      none = away_placed resident old placed b seat at_b made was at_old away

  -- it is in memory
  pub there_by : is_some new.loaded ≡ true → IsLoadedAt (slice_set placed b new) b
  there_by there = record {
    seat = new;
    at = set_here placed b seat at_b new;
    there = there;
  }

  -- or it is away
  pub away_by : new.loaded ≡ None → IsAwayAt (slice_set placed b new) b
  away_by none other at_other = ap (λ (t : SeatView). t.loaded) (same_Some other new (sym at_other ∙ set_here placed b seat at_b new)) ∙ none

  -- its slot's faults rose
  pub rose_by : seat.faults < new.faults → faults_rose (map (λ (t : SeatView). t.faults) old) (map (λ (t : SeatView). t.faults) (slice_set placed b new)) b ≡ true
  rose_by more =
      rw (← faults_placed resident old placed made, listed placed b seat at_b (λ (t : SeatView). t.faults) 0, listed_new placed b seat at_b (λ (t : SeatView). t.faults) 0 new)
      (lt-ltb seat.faults new.faults more)

  -- its slot's count is as it was
  pub quiet_by : new.faults ≡ seat.faults → map (λ (t : SeatView). t.faults) (slice_set placed b new) ≡ map (λ (t : SeatView). t.faults) old
  quiet_by same = same_listed placed b seat at_b (λ (t : SeatView). t.faults) new same ∙ faults_placed resident old placed made

  -- or is one more
  pub counted_by : (new.faults ≡ seat.faults) ⊎ (new.faults ≡ seat.faults + 1) → IsOneFaultMore (map (λ (t : SeatView). t.faults) old) b (map (λ (t : SeatView). t.faults) (slice_set placed b new))
  counted_by (inl same) = inl (quiet_by same)
  counted_by (inr one) =
      let risen = one ∙ ap (λ (n : ℕ). n + 1) (sym (listed placed b seat at_b (λ (t : SeatView). t.faults) 0)) in
      inr (listed_set placed b seat at_b (λ (t : SeatView). t.faults) new
      ∙ (ap (slice_set (map (λ (t : SeatView). t.faults) placed) b) risen
      ∙ ap (λ (xs : List ℕ). slice_set xs b (slice_index xs b + 1)) (faults_placed resident old placed made)))
