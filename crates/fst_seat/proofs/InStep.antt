-- What is kept beside the seats, as one of them changes.
use Rattle.std.proofs.Common.{◌≡◌, ◌+◌, ◌-◌, ◌<◌, ℕ, Bool, true, false, List, [], ◌∷◌, Option, Some, None, is_some, refl, sym, ap, subst, ◌∙◌, inl, inr, arith, length, map, replicate, slice_get, slice_set}
use Rattle.std.proofs.lemmas.Bool.{cases_eq}
use Rattle.std.proofs.lemmas.List.{length-map, get_or-map}
use Rattle.std.proofs.lemmas.Option.{none-some, slice_get_within, get_or_from_slice_get}
use Rattle.fst_types.specs.Order.{IsMisplaced}
use Rattle.fst_types.specs.State.{Flight}
use Rattle.fst_block.specs.BlockView.{BlockView}
use Rattle.fst_seat.specs.Places.{ResidentsView}
use Rattle.fst_seat.specs.Seats.{SeatView, is_dirty_seat, count_flying, seat_of, seats_of}
use Rattle.fst_seat.specs.Residing.{are_loaded, residents_of, AreInStep}
use Rattle.fst_seat.proofs.Seated.{get-set}
use Rattle.fst_seat.proofs.Exchanging.{map_get}
use Rattle.fst_seat.proofs.Dirty.{none_dirty, residents_are, residents_same, residents_moved, residents_marked}
use Rattle.fst_seat.proofs.Flying.{flying_same, flying_more, flying_fewer, none_flying}

module _ {flights : ℕ} {residents : ResidentsView} {seats : List SeatView} (I : AreInStep flights residents seats) (b : ℕ) {seat : SeatView} (new : SeatView) (at_b : slice_get seats b ≡ Some seat)
    (place : new.place ≡ seat.place) (rest : new.loaded ≡ None → new.block.flight ≡ None) where
  now : (flights' : ℕ) (residents' : ResidentsView) → residents' ≡ residents_of residents'.most (slice_set seats b new) → flights' ≡ count_flying (slice_set seats b new) → AreInStep flights' residents' (slice_set seats b new)
  now flights' residents' listed flying = record {
    listed = listed;
    flying = flying;
    rest = λ j other e away.
        elim (get-set seats b j new other e) [
          | inl h ↦ subst (λ (t : SeatView). t.block.flight ≡ None) h.1 (rest (ap (λ (t : SeatView). t.loaded) h.1 ∙ away))
          | inr h ↦ I.rest j other h.1 away
        ];
    placed = λ j other e.
        elim (get-set seats b j new other e) [
          | inl h ↦ ap (λ (t : SeatView). t.place) (sym h.1) ∙ (place ∙ (I.placed b seat at_b ∙ sym h.0))
          | inr h ↦ I.placed j other h.1
        ];
  }

  -- it comes into memory, or leaves it
  pub in_step_moved : (t : Bool) → is_some new.loaded ≡ t → is_dirty_seat new ≡ is_dirty_seat seat → is_some new.block.flight ≡ is_some seat.block.flight
      → AreInStep flights (record residents { loaded = slice_set residents.loaded b t }) (slice_set seats b new)
  in_step_moved t there dirty flight =
      now flights (record residents { loaded = slice_set residents.loaded b t })
      (ap (λ (v : ResidentsView). record v { loaded = slice_set v.loaded b t }) I.listed ∙ residents_moved seats b seat at_b residents.most new t there dirty)
      (flying_same seats b seat new at_b flights flight I.flying)

  module _ (there : is_some new.loaded ≡ is_some seat.loaded) where
    marked : (t : Bool) → t ≡ is_dirty_seat new → record residents { dirty = slice_set residents.dirty b t } ≡ residents_of residents.most (slice_set seats b new)
    marked t dirty = ap (λ (v : ResidentsView). record v { dirty = slice_set v.dirty b t }) I.listed ∙ residents_marked seats b seat at_b residents.most new t dirty there

    -- it becomes dirty, or clean
    pub in_step_marked : (t : Bool) → t ≡ is_dirty_seat new → is_some new.block.flight ≡ is_some seat.block.flight
        → AreInStep flights (record residents { dirty = slice_set residents.dirty b t }) (slice_set seats b new)
    in_step_marked t dirty flight = now flights (record residents { dirty = slice_set residents.dirty b t }) (marked t dirty) (flying_same seats b seat new at_b flights flight I.flying)

    -- and a write of it has landed
    pub in_step_landed : (t : Bool) (f : Flight) → t ≡ is_dirty_seat new → seat.block.flight ≡ Some f → new.block.flight ≡ None
        → AreInStep (flights - 1) (record residents { dirty = slice_set residents.dirty b t }) (slice_set seats b new)
    in_step_landed t f dirty out home =
        let fewer = flying_fewer seats b seat new at_b flights f out home I.flying in
        now (flights - 1) (record residents { dirty = slice_set residents.dirty b t }) (marked t dirty) (omega (arith, fewer))

    module _ (dirty : is_dirty_seat new ≡ is_dirty_seat seat) where
      listed : residents ≡ residents_of residents.most (slice_set seats b new)
      listed = I.listed ∙ residents_same seats b seat at_b residents.most new there dirty

      -- neither changes
      pub in_step_same : is_some new.block.flight ≡ is_some seat.block.flight → AreInStep flights residents (slice_set seats b new)
      in_step_same flight = now flights residents listed (flying_same seats b seat new at_b flights flight I.flying)

      -- and a write of it goes out
      pub in_step_sent : (f : Flight) → seat.block.flight ≡ None → new.block.flight ≡ Some f → AreInStep (flights + 1) residents (slice_set seats b new)
      in_step_sent f idle sent = now (flights + 1) residents listed (flying_more seats b seat new at_b flights f idle sent I.flying)

-- a block is in flight where a write of it is out
pub some_flying : {flights : ℕ} {residents : ResidentsView} {seats : List SeatView} → AreInStep flights residents seats → (b : ℕ) {seat : SeatView} {f : Flight} → slice_get seats b ≡ Some seat → seat.block.flight ≡ Some f → 0 < flights
some_flying {flights} {seats = seats} I b {seat} {f} at_b out =
    let fewer = flying_fewer seats b seat (record seat { block = record seat.block { flight = None } }) at_b flights f out refl I.flying in
    omega (arith, fewer)

-- a block whose write is out is in memory
pub loaded_out : {flights : ℕ} {residents : ResidentsView} {seats : List SeatView} → AreInStep flights residents seats → (b : ℕ) {seat : SeatView} → slice_get seats b ≡ Some seat → {f : Flight} → seat.block.flight ≡ Some f → is_some seat.loaded ≡ true
loaded_out I b {seat} at_b {f} out = by_loaded seat.loaded refl
  where
    by_loaded : (o : Option BlockView) → seat.loaded ≡ o → is_some o ≡ true
    by_loaded None none = absurd (none-some f (sym (I.rest b seat at_b none) ∙ out))
    by_loaded (Some l) there = refl

-- where no slot was read, nothing is in memory
module _ {X : Type 0} (held : X → List ℕ) (index faults : X → ℕ) (slots : List X) (placed : IsMisplaced (map index slots) → ⊥) where
  abbrev seat_at : X → SeatView
  seat_at x = seat_of (held x) (index x) (faults x)

  none_loaded : (xs : List X) → replicate (length xs) false ≡ are_loaded (seats_of held index faults xs)
  none_loaded [] = refl
  none_loaded (x ∷ xs) = ap (λ (ts : List Bool). false ∷ ts) (none_loaded xs)

  at_its_place : (b : ℕ) (x : X) → slice_get slots b ≡ Some x → index x ≡ b
  at_its_place b x e =
      let lt = slice_get_within slots b x e in
      let is = get_or-map index slots b x 0 lt ∙ ap index (get_or_from_slice_get slots b x x e) in
      elim (cases_eq (index x) b) [
        | inl same ↦ same
        | inr other ↦ absurd (placed (b, rw length-map lt, λ h. other (sym is ∙ h)))
      ]

  pub in_step_new : (most n : ℕ) → n ≡ length slots → AreInStep 0 (record { most = most; loaded = replicate n false; dirty = replicate n false }) (seats_of held index faults slots)
  in_step_new most n many = record {
    listed =
        let long : replicate n false ≡ replicate (length slots) false = ap (λ (m : ℕ). replicate m false) many in
        residents_are most (seats_of held index faults slots) (replicate n false) (replicate n false) (long ∙ none_loaded slots) (long ∙ none_dirty held index faults slots);
    flying = none_flying held index faults slots;
    rest = λ b seat e away. let r = map_get seat_at slots b seat e in ap (λ (t : SeatView). t.block.flight) (sym r.2);
    placed = λ b seat e. let r = map_get seat_at slots b seat e in ap (λ (t : SeatView). t.place) (sym r.2) ∙ at_its_place b r.0 r.1;
  }
