-- What the type of a cache keeps, and what it shows, where it was opened over these slots.
use Rattle.std.proofs.Common.{◌≡◌, ◌≤◌, ℕ, false, List, [], ◌∷◌, None, is_some, length, map, count_by, get_or, Some, refl, sym, subst, ◌∙◌, inl, arith}
use Rattle.std.proofs.lemmas.List.{length-map}
use Rattle.std.proofs.lemmas.List.Elements.{All-map}
use Rattle.fst_types.specs.Opening.{opening}
use Rattle.fst_types.specs.State.{BlockState}
use Rattle.fst_types.specs.Limits.{max_number, max_ticket}
use Rattle.fst_types.specs.Order.{open_order}
use Rattle.fst_types.specs.Refusals.{NoneHolds}
use Rattle.fst_types.specs.Facts.{IsLawful}
use Rattle.fst_types.proofs.Opened.{opening_is_lawful}
use Rattle.fst_graph.specs.Known.{Known}
use Rattle.fst_seat.specs.Seats.{SeatView, seat_of, seats_of, blocks}
use Rattle.fst_cache.specs.declared.cache.Cache.TheInside.{Inside}
use Rattle.fst_cache.specs.declared.contents.Contents.{Contents}
use Rattle.fst_cache.specs.Kept.{IsKeptSeat, IsKept, state_of, view_of}
use Rattle.fst_cache.proofs.OpenPlaced.{map-twice, sized_each, stable}
use Rattle.fst_seat.proofs.Exchanging.{map_get}
use Rattle.fst_seat.proofs.Undo.{none_undo}

none_loaded : {X : Type 0} (held : X → List ℕ) (index faults : X → ℕ) (slots : List X) → count_by (λ (s : SeatView). is_some s.loaded) (seats_of held index faults slots) ≡ 0
none_loaded held index faults [] = refl
none_loaded held index faults (x ∷ xs) = none_loaded held index faults xs

abbrev pub new_graph : (numbers blocks : ℕ) → Known
new_graph numbers blocks = record { heads = []; numbers = numbers; blocks = blocks; groups = []; prepared = None }

module _ {X : Type 0} (held : X → List ℕ) (index size_of faults : X → ℕ) (fills : (x : X) → length (held x) ≡ size_of x) (slots : List X) (many size resident numbers tickets : ℕ)
    (contents : Contents) (empty : contents.items ≡ []) (few : many ≤ 4096) (small : size ≤ 4096) (given : numbers ≤ max_number) (sent : tickets ≤ max_ticket)
    (free : NoneHolds (open_order many size (map index slots) (map size_of slots))) where
  abbrev seat_at : X → SeatView
  seat_at x = seat_of (held x) (index x) (faults x)

  abbrev first : Inside X
  first = record {
    size = size;
    tickets = tickets;
    made = 0;
    undo = 0;
    graph = new_graph numbers many;
    contents = contents;
    seats = record { most = resident; seats = seats_of held index faults slots };
  }

  one_each : length slots ≡ many
  one_each = sym (length-map slots index) ∙ stable (length (map index slots)) many (λ other. free.0 (inl other))

  state_opened : state_of first ≡ opening size resident numbers tickets (map held slots)
  state_opened =
      let e : blocks (seats_of held index faults slots) ≡ map open_block (map held slots) =
      map-twice (λ (s : SeatView). s.block) seat_at slots ∙ sym (map-twice open_block held slots) in
      rw (e, empty) refl
    where
      open_block : List ℕ → BlockState
      open_block b = record { committed = b; flight = None }

  lawful : IsLawful (state_of first)
  lawful =
      subst IsLawful (sym state_opened)
      (opening_is_lawful size resident numbers tickets (map held slots) (All-map (λ (b : List ℕ). length b ≡ size) held slots (λ k d lt. fills (get_or slots k d) ∙ sized_each size_of size slots free.1.0 k d lt)) given sent)

  pub opened_kept : IsKept first
  opened_kept = record {
    lawful = lawful;
    few = rw (length-map, one_each) few;
    small = small;
    graph_blocks = rw (length-map, one_each) refl;
    loaded = rw (none_loaded held index faults slots) (omega arith);
    seat = λ b seat e.
        let r = map_get seat_at slots b seat e in
        subst (IsKeptSeat (state_of first) b) r.2 (record {
          loaded = λ l h. cc;
          dirty = λ d. cc;
          home = refl;
          patches = λ f h. cc;
        });
    undoing = none_undo held index faults slots;
  }

  pub opened_view : view_of first
      ≡ record { state = opening size resident numbers tickets (map held slots); homes = map (λ slot. Some (held slot)) slots; faults = map faults slots; resident = map (λ slot. false) slots; back = map (λ slot. None) slots }
  opened_view =
      let homes_are = map-twice (λ (s : SeatView). s.home) seat_at slots in
      let faults_are : map (λ (s : SeatView). s.faults) (seats_of held index faults slots) ≡ map faults slots = map-twice (λ (s : SeatView). s.faults) seat_at slots in
      let resident_are = map-twice (λ (s : SeatView). is_some s.loaded) seat_at slots in
      let back_are = map-twice (λ (s : SeatView). s.back) seat_at slots in
      rw (state_opened, homes_are, faults_are, resident_are, back_are) refl
