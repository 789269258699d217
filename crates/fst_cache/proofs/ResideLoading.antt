-- What the cache's type keeps, as blocks come into memory and leave it.
use Rattle.std.proofs.Common.{◌≡◌, ◌<◌, ◌≤◌, ◌+◌, ℕ, Bool, true, false, cond, List, map, Option, Some, None, is_some, refl, sym, ap, subst, ◌∙◌, inl, inr, arith, slice_get, slice_set, length-set}
use Rattle.std.specs.Option.{option_map_or}
use Rattle.std.proofs.lemmas.Bool.{false≢true, cases_lt}
use Rattle.std.proofs.lemmas.List.Sums.{sum_by-set}
use Rattle.std.proofs.lemmas.Option.{get_or_from_slice_get, slice_get_within}
use Rattle.fst_types.specs.State.{State, BlockState}
use Rattle.fst_types.specs.Facts.{IsLawful}
use Rattle.fst_types.specs.Counts.{is_dirty}
use Rattle.fst_block.specs.BlockView.{BlockView, soft_lengths}
use Rattle.fst_seat.specs.Seats.{SeatView, blocks, is_dirty_seat, undo_of}
use Rattle.fst_seat.specs.Residing.{count_loaded, IsReadOf, IsCleanAt, MakesPlace, Loads, MayLoad}
use Rattle.fst_cache.specs.declared.cache.Cache.TheInside.{Inside}
use Rattle.fst_cache.specs.Kept.{IsKept, IsKeptSeat, state_of, view_of}
use Rattle.fst_seat.proofs.Loading.{away_read}
use Rattle.fst_seat.proofs.Seated.{get-set, listed_set, same_listed}
use Rattle.fst_seat.proofs.Undo.{undo_same, undo_clean}
use Rattle.fst_cache.proofs.ResideSeats.{clean, clean_view, dirty_is}

pub within_of : (n b : ℕ) → (n ≤ b → ⊥) → b < n
within_of n b not_past = elim (cases_lt b n) [ inl lt ↦ lt | inr past ↦ absurd (not_past past) ]

-- how many blocks are in memory after one seat has changed
pub count_put : (seats : List SeatView) (b : ℕ) (seat new : SeatView) → slice_get seats b ≡ Some seat
    → count_loaded (slice_set seats b new) + cond (is_some seat.loaded) 1 0 ≡ count_loaded seats + cond (is_some new.loaded) 1 0
count_put seats b seat new at_b =
    let r = sum_by-set (λ (t : SeatView). cond (is_some t.loaded) 1 0) seats b new seat (slice_get_within seats b seat at_b) in
    rw (get_or_from_slice_get seats b seat seat at_b) at r

-- the cache with these seats
abbrev pub with_seats : {Slot : Type 0} → Inside Slot → List SeatView → Inside Slot
with_seats i seats = record i { seats = record i.seats { seats = seats } }

-- a seat is put in the place of another, in the same state
put : {Slot : Type 0} (i : Inside Slot) → IsKept i → (b : ℕ) (seat : SeatView) → slice_get i.seats.seats b ≡ Some seat → (new : SeatView) → new.block ≡ seat.block → undo_of new ≡ undo_of seat
    → count_loaded (slice_set i.seats.seats b new) ≤ i.seats.most → IsKeptSeat (state_of i) b new → IsKept (with_seats i (slice_set i.seats.seats b new))
put i K b seat at_b new same_block same_undo few here = record {
  lawful = subst IsLawful (sym same) K.lawful;
  few = rw length-set K.few;
  small = K.small;
  graph_blocks = rw length-set K.graph_blocks;
  loaded = few;
  seat = λ j other e.
      subst (λ (s : State). IsKeptSeat s j other) (sym same)
      (elim (get-set i.seats.seats b j new other e) [
        | inl h ↦ subst (λ (n : ℕ). IsKeptSeat (state_of i) n other) (sym h.0) (subst (λ (u : SeatView). IsKeptSeat (state_of i) b u) h.1 here)
        | inr h ↦ K.seat j other h.1
      ]);
  undoing = undo_same i.seats.seats b seat new at_b i.undo same_undo K.undoing;
}
  where
    same : state_of (with_seats i (slice_set i.seats.seats b new)) ≡ state_of i
    same = ap (λ (bs : List BlockState). record (state_of i) { blocks = bs }) (same_listed i.seats.seats b seat at_b (λ (t : SeatView). t.block) new same_block)

abbrev undo_with : Option BlockView → ℕ
undo_with loaded = option_map_or (λ (l : BlockView). soft_lengths l.patches) loaded 0

module _ {Slot : Type 0} (i : Inside Slot) (K : IsKept i) (b : ℕ) (seat : SeatView) (at_b : slice_get i.seats.seats b ≡ Some seat) where
  abbrev gone : SeatView
  gone = record seat { loaded = None }

  -- a clean block gives up its place
  pub unloaded : is_dirty_seat seat ≡ false → IsKept (with_seats i (slice_set i.seats.seats b gone))
  unloaded still = put i K b seat at_b gone refl (sym (undo_clean seat still)) fewer here
    where
      fewer : count_loaded (slice_set i.seats.seats b gone) ≤ i.seats.most
      fewer = let r = count_put i.seats.seats b seat gone at_b in let most = K.loaded in omega (arith, r, most)

      here : IsKeptSeat (state_of i) b gone
      here = record {
        loaded = λ l e. absurd (none e);
        dirty = λ d. absurd (false≢true (sym still ∙ (dirty_is i K b seat at_b ∙ d)));
        home = (K.seat b seat at_b).home;
        patches = (K.seat b seat at_b).patches;
      }
        where
          none : {l : BlockView} → None ≡ Some l → ⊥
          none e = cc

  -- and then fewer are in memory than may be
  pub place_left : is_some seat.loaded ≡ true → count_loaded (slice_set i.seats.seats b gone) < i.seats.most
  place_left there =
      let r = count_put i.seats.seats b seat gone at_b in
      let one : ◌≡◌ {A = ℕ} (cond (is_some seat.loaded) 1 0) 1 = ap (λ (t : Bool). cond t 1 0) there in
      let most = K.loaded in
      omega (arith, r, one, most)

  -- a block is read into a free place
  module _ (loaded : Option BlockView) (faults : ℕ) (away : seat.loaded ≡ None) (read : IsReadOf seat loaded) (free : count_loaded i.seats.seats < i.seats.most) where
    abbrev come : SeatView
    come = record seat { loaded = loaded; faults = faults }

    more : count_loaded (slice_set i.seats.seats b come) ≤ i.seats.most
    more =
        let r = count_put i.seats.seats b seat come at_b in
        let one = at_most_one (is_some loaded) in
        omega (arith, r, one, free)
      where
        at_most_one : (t : Bool) → cond t 1 0 ≤ 1
        at_most_one true = omega arith
        at_most_one false = omega arith

    -- which keeps no undo bytes
    no_undo : undo_of come ≡ undo_of seat
    no_undo = elim read [ inl none ↦ ap undo_with (none ∙ sym away) | inr is ↦ ap undo_with is ∙ sym (ap undo_with away) ]

    still : is_dirty i.graph.heads b ≡ false
    still = clean i K b seat at_b away

    here : IsKeptSeat (state_of i) b come
    here = record {
      loaded = λ l e.
          elim read [
            | inl none ↦ absurd (none_some (sym none ∙ e))
            | inr is ↦ some_same (sym e ∙ is) ∙ sym (clean_view i K b seat at_b still)
          ];
      dirty = λ d. absurd (false≢true (sym still ∙ d));
      home = (K.seat b seat at_b).home;
      patches = (K.seat b seat at_b).patches;
    }
      where
        none_some : {l : BlockView} → None ≡ Some l → ⊥
        none_some e = cc

        some_same : {l m : BlockView} → Some l ≡ Some m → l ≡ m
        some_same e = cc

    pub filled : IsKept (with_seats i (slice_set i.seats.seats b come))
    filled = put i K b seat at_b come refl no_undo more here

-- what a load leaves of a list beside the blocks
record Placed {Slot : Type 0} (i : Inside Slot) (placed : List SeatView) : Type 0 where
  kept : IsKept (with_seats i placed)
  blocks : blocks placed ≡ blocks i.seats.seats
  homes : map (λ (t : SeatView). t.home) placed ≡ map (λ (t : SeatView). t.home) i.seats.seats
  back : map (λ (t : SeatView). t.back) placed ≡ map (λ (t : SeatView). t.back) i.seats.seats
  free : count_loaded placed < i.seats.most

-- a place is made
placed_by : {Slot : Type 0} (i : Inside Slot) → IsKept i → (placed : List SeatView) → MakesPlace i.seats.most i.seats.seats placed → Placed i placed
placed_by i K placed (inl h) = subst (Placed i) (sym h.1) (record { kept = K; blocks = refl; homes = refl; back = refl; free = h.0 })
placed_by i K placed (inr h) =
    let c = h.1.0 in
    let seat = h.1.1 in
    let found : IsCleanAt i.seats.seats c seat = h.1.2 in
    subst (Placed i) (sym h.1.3)
    (record {
      kept = unloaded i K c seat found.at found.block.clean;
      blocks = same_listed i.seats.seats c seat found.at (λ (t : SeatView). t.block) (record seat { loaded = None }) refl;
      homes = same_listed i.seats.seats c seat found.at (λ (t : SeatView). t.home) (record seat { loaded = None }) refl;
      back = same_listed i.seats.seats c seat found.at (λ (t : SeatView). t.back) (record seat { loaded = None }) refl;
      free = place_left i K c seat found.at found.block.there;
    })

-- a load keeps what the type keeps, in the same state, and leaves what the slots hold and what came back
pub record Loaded {Slot : Type 0} (i : Inside Slot) (b : ℕ) (new : List SeatView) : Type 0 where
  pub kept : IsKept (with_seats i new)
  pub blocks : blocks new ≡ blocks i.seats.seats
  pub homes : map (λ (t : SeatView). t.home) new ≡ map (λ (t : SeatView). t.home) i.seats.seats
  pub back : map (λ (t : SeatView). t.back) new ≡ map (λ (t : SeatView). t.back) i.seats.seats

loads_keeps : {Slot : Type 0} (i : Inside Slot) → IsKept i → (b : ℕ) (new : List SeatView) → Loads i.seats.most i.seats.seats b new → Loaded i b new
loads_keeps i K b new L =
    let P = placed_by i K L.placed L.place in
    let after = record L.seat { loaded = L.loaded; faults = L.faults } in
    subst (Loaded i b) (sym L.seats)
    (record {
      kept = filled (with_seats i L.placed) P.kept b L.seat L.at L.loaded L.faults (away_read L) L.read P.free;
      blocks = same_listed L.placed b L.seat L.at (λ (t : SeatView). t.block) after refl ∙ P.blocks;
      homes = same_listed L.placed b L.seat L.at (λ (t : SeatView). t.home) after refl ∙ P.homes;
      back = same_listed L.placed b L.seat L.at (λ (t : SeatView). t.back) after refl ∙ P.back;
    })

-- and where the block was in memory nothing changes
pub load_keeps : {Slot : Type 0} (i : Inside Slot) → IsKept i → (b : ℕ) (new : List SeatView) → MayLoad i.seats.most i.seats.seats b new → Loaded i b new
load_keeps i K b new (inl h) =
    subst (Loaded i b) (sym h.1)
    (record {
      kept = K;
      blocks = refl;
      homes = refl;
      back = refl;
    })
load_keeps i K b new (inr h) = loads_keeps i K b new h

-- what callers see after a block has left the memory
pub view_unloaded : {Slot : Type 0} (i : Inside Slot) (b : ℕ) (seat : SeatView) → slice_get i.seats.seats b ≡ Some seat → (new : SeatView) → new ≡ record seat { loaded = None }
    → view_of (with_seats i (slice_set i.seats.seats b new)) ≡ record (view_of i) { resident = slice_set (map (λ (t : SeatView). is_some t.loaded) i.seats.seats) b false }
view_unloaded i b seat at_b new is =
    rw (
      same_listed i.seats.seats b seat at_b (λ (t : SeatView). t.block) new (ap (λ (t : SeatView). t.block) is),
      same_listed i.seats.seats b seat at_b (λ (t : SeatView). t.home) new (ap (λ (t : SeatView). t.home) is),
      same_listed i.seats.seats b seat at_b (λ (t : SeatView). t.faults) new (ap (λ (t : SeatView). t.faults) is),
      same_listed i.seats.seats b seat at_b (λ (t : SeatView). t.back) new (ap (λ (t : SeatView). t.back) is),
      listed_set i.seats.seats b seat at_b (λ (t : SeatView). is_some t.loaded) new,
      ap (λ (t : SeatView). is_some t.loaded) is,
    ) refl

-- a block that is loaded is not dirty
pub loads_clean : {Slot : Type 0} (i : Inside Slot) → IsKept i → (b : ℕ) (new : List SeatView) → Loads i.seats.most i.seats.seats b new → is_dirty i.graph.heads b ≡ false
loads_clean i K b new L = clean (with_seats i L.placed) (placed_by i K L.placed L.place).kept b L.seat L.at (away_read L)
