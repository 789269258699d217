-- What a kept seat says of its block: whether it is dirty, its bytes, and the room that it has.
use Rattle.std.proofs.Common.{◌≡◌, ◌<◌, ◌≤◌, ◌↔◌, ℕ, true, false, List, [], ◌∷◌, map, Option, Some, None, IsSome, IfSome, is_some, nat_lt, refl, sym, ap, subst, ◌∙◌, inl, inr, arith, slice_get, count_by}
use Rattle.std.proofs.lemmas.Bool.{cases_Bool, both_ways, false≢true, false_from_ne_true, ltb-true, ltb-false}
use Rattle.std.proofs.lemmas.List.{length-map}
use Rattle.std.proofs.lemmas.Option.{none-some}
use Rattle.fst_types.specs.declared.place.Place.TheVariants as place
use Rattle.fst_types.specs.Patches.{Patch}
use Rattle.fst_types.specs.Tests.{is_change_at}
use Rattle.fst_types.specs.Fold.{fold}
use Rattle.fst_types.specs.State.{State, Flight, BlockState, block_of, committed, flight_of}
use Rattle.fst_types.specs.Bytes.{changes_at, base_under, bytes_of}
use Rattle.fst_types.specs.Counts.{is_dirty, dirty_blocks, count_below}
use Rattle.fst_types.specs.Residence.{HasNoRoom}
use Rattle.fst_types.proofs.Finite.{Contains-from_In}
use Rattle.fst_types.proofs.Landing.{change_at, at_change}
use Rattle.fst_block.specs.BlockView.{BlockView}
use Rattle.fst_block.specs.BlockView as block
use Rattle.fst_seat.specs.Seats.{SeatView, has_patches, is_dirty_with, is_dirty_seat}
use Rattle.fst_cache.specs.declared.cache.Cache.TheInside.{Inside}
use Rattle.fst_cache.specs.Kept.{IsKept, state_of, block_patch, block_view}
use Rattle.fst_seat.proofs.Seated.{block_here}
use Rattle.fst_seat.proofs.Counts.{count_by_places, count_lt}
use Rattle.fst_cache.proofs.ResideDirty.{dirty_from, dirty_patch, some_in, none_in, in_filter}
use Rattle.fst_types.proofs.Numbers.{flight_disk, memory_disk}
use Rattle.fst_cache.proofs.OpenPlaced.{map-twice}

-- the bytes that a block makes of the state's changes are the state's
pub view_bytes : (s : State) (b : ℕ) → block.fold_of (block_view s b).base (block_view s b).patches ≡ bytes_of s b
view_bytes s b = ap (fold (base_under (committed s b) (flight_of s b))) (map-twice block.write_of (block_patch s.contents) (changes_at s place.Memory b))

module _ {Slot : Type 0} (i : Inside Slot) (K : IsKept i) where
  abbrev s : State
  s = state_of i

  abbrev seats : List SeatView
  seats = i.seats.seats

  module _ (b : ℕ) (seat : SeatView) (at_b : slice_get seats b ≡ Some seat) where
    pub block_is : block_of s b ≡ seat.block
    block_is = block_here seats b seat at_b

    pub flight_is : flight_of s b ≡ seat.block.flight
    flight_is = ap (λ (v : BlockState). v.flight) block_is

    -- a block with a flight is dirty
    pub flies : (f : Flight) → seat.block.flight ≡ Some f → is_dirty s.heads b ≡ true
    flies f e =
        let r = K.lawful.flights_have_changes.some b f (flight_is ∙ e) in
        dirty_from s.heads b r.0 r.1.head r.1.change (λ d. flight_disk r.0.place r.1.flight d)

    -- a block that is not in memory is not dirty
    pub clean : seat.loaded ≡ None → is_dirty s.heads b ≡ false
    clean away = false_from_ne_true (is_dirty s.heads b) (λ d. away_there (subst IsSome away ((K.seat b seat at_b).dirty d)))
      where
        away_there : IsSome {T = BlockView} None → ⊥
        away_there e = cc

    -- a clean block has no flight
    pub no_flight : is_dirty s.heads b ≡ false → seat.block.flight ≡ None
    no_flight still = by_flight seat.block.flight refl
      where
        by_flight : (o : Option Flight) → seat.block.flight ≡ o → o ≡ None
        by_flight None e = refl
        by_flight (Some f) e = absurd (both_ways (is_dirty s.heads b) still (flies f e))

    -- and no change in memory
    pub no_changes : is_dirty s.heads b ≡ false → changes_at s place.Memory b ≡ []
    no_changes still =
        none_in (is_change_at place.Memory b) s.heads (λ p h c.
        let m = change_at place.Memory b p c in
        both_ways (is_dirty s.heads b) still (dirty_from s.heads b p (Contains-from_In s.heads p h) m.0 (λ d. memory_disk p.place m.1 d)))

    -- and a block with neither is clean
    still_if : seat.block.flight ≡ None → changes_at s place.Memory b ≡ [] → is_dirty s.heads b ≡ false
    still_if home none =
        false_from_ne_true (is_dirty s.heads b) (λ d.
        let r = dirty_patch s.heads b d in
        elim r.3 [
          | inl memory ↦ in_filter (is_change_at place.Memory b) s.heads r.0 r.1 (at_change place.Memory b r.0 r.2 memory) none
          | inr flight ↦
              let k = K.lawful.flights_have_changes.kept b r.0 (record { head = Contains-from_In s.heads r.0 r.1; change = r.2; flight = flight }) in
              none-some k.0 (sym (flight_is ∙ home) ∙ k.1)
        ])

    by_changes : seat.block.flight ≡ None → (ps : List Patch) → changes_at s place.Memory b ≡ ps → has_patches (map (block_patch s.contents) ps) ≡ is_dirty s.heads b
    by_changes home [] none = sym (still_if home none)
    by_changes home (p ∷ ps) some =
        let r = some_in (is_change_at place.Memory b) s.heads p ps some in
        let m = change_at place.Memory b p r.1 in
        sym (dirty_from s.heads b p (Contains-from_In s.heads p r.0) m.0 (λ d. memory_disk p.place m.1 d))

    by_parts : (o : Option Flight) (l : Option BlockView) → seat.block.flight ≡ o → seat.loaded ≡ l → is_dirty_with o l ≡ is_dirty s.heads b
    by_parts (Some f) l e g = sym (flies f e)
    by_parts None None e g = sym (clean g)
    by_parts None (Some l) e g = ap (λ (v : BlockView). has_patches v.patches) ((K.seat b seat at_b).loaded l g) ∙ by_changes e (changes_at s place.Memory b) refl

    -- a seat is dirty where its block is
    pub dirty_is : is_dirty_seat seat ≡ is_dirty s.heads b
    dirty_is = by_parts seat.block.flight seat.loaded refl refl

    -- the bytes of a seat in memory are those of the state
    pub bytes_are : (l : BlockView) → seat.loaded ≡ Some l → block.fold_of l.base l.patches ≡ bytes_of s b
    bytes_are l e = ap (λ (v : BlockView). block.fold_of v.base v.patches) ((K.seat b seat at_b).loaded l e) ∙ view_bytes s b

    -- what a clean block's slot gives is what the state says
    pub clean_view : is_dirty s.heads b ≡ false → block_view s b ≡ record { base = seat.block.committed; patches = [] }
    clean_view still = rw (no_changes still, ap (λ (v : BlockState). v.committed) block_is, flight_is, no_flight still) refl

  pub dirty_loaded : (k : ℕ) (seat : SeatView) → slice_get seats k ≡ Some seat → is_dirty_seat seat ≡ true → is_some seat.loaded ≡ true
  dirty_loaded k seat at_k d = (K.seat k seat at_k).dirty (sym (dirty_is k seat at_k) ∙ d)

  -- the dirty seats are the dirty blocks
  pub dirty_count : count_by is_dirty_seat seats ≡ dirty_blocks s
  dirty_count = count_by_places is_dirty_seat (is_dirty s.heads) seats dirty_is ∙ ap (count_below (is_dirty s.heads)) (sym (length-map seats (λ (t : SeatView). t.block)))

  -- where a clean block is in memory, not all places are for dirty ones
  pub room_beside : (b : ℕ) (seat : SeatView) → slice_get seats b ≡ Some seat → is_some seat.loaded ≡ true → is_dirty_seat seat ≡ false → count_by is_dirty_seat seats < s.resident
  room_beside b seat at_b there still =
      let fewer = count_lt is_dirty_seat (λ t. is_some t.loaded) seats b seat dirty_loaded at_b still there in
      let most = K.loaded in
      omega (arith, fewer, most)

  module _ (b : ℕ) (seat : SeatView) (at_b : slice_get seats b ≡ Some seat) where
    -- a block in memory has room
    pub room_there : is_some seat.loaded ≡ true → HasNoRoom s b → ⊥
    room_there there h =
        let still : is_dirty_seat seat ≡ false = dirty_is b seat at_b ∙ false_from_ne_true (is_dirty s.heads b) h.clean in
        let free = room_beside b seat at_b there still in
        let full = h.full in
        omega (arith, free, full, dirty_count)

    -- another has it where the dirty blocks leave a place
    pub room_else : is_some seat.loaded ≡ false → (nat_lt (count_by is_dirty_seat seats) s.resident ≡ true) ↔ (HasNoRoom s b → ⊥)
    room_else away = (
      (λ less h. let lt = ltb-true (count_by is_dirty_seat seats) s.resident less in let full = h.full in omega (arith, lt, full, dirty_count)),
      (λ none. elim (cases_Bool (nat_lt (count_by is_dirty_seat seats) s.resident)) [
        | inl less ↦ less
        | inr not_less ↦ absurd (none (record { clean = λ d. both_ways (is_some seat.loaded) away ((K.seat b seat at_b).dirty d); full = full_from not_less }))
      ]),
    )
      where
        full_from : nat_lt (count_by is_dirty_seat seats) s.resident ≡ false → s.resident ≤ dirty_blocks s
        full_from e = let le = ltb-false (count_by is_dirty_seat seats) s.resident e in omega (arith, le, dirty_count)

    -- what a seat in memory shows is what the state says
    pub bytes_there : (bytes : List ℕ) → is_some seat.loaded ≡ true → IfSome seat.loaded (λ l. bytes ≡ block.fold_of l.base l.patches) → bytes ≡ bytes_of s b
    bytes_there bytes there said = by_loaded seat.loaded refl there said
      where
        by_loaded : (o : Option BlockView) → seat.loaded ≡ o → is_some o ≡ true → IfSome o (λ l. bytes ≡ block.fold_of l.base l.patches) → bytes ≡ bytes_of s b
        by_loaded None e is said = absurd (false≢true is)
        by_loaded (Some l) e is said = said ∙ bytes_are b seat at_b l e

    -- a block that has room has it
    pub room_for : (HasNoRoom s b → ⊥) → seat.loaded ≡ None → count_by is_dirty_seat seats < s.resident
    room_for room away = ltb-true (count_by is_dirty_seat seats) s.resident ((room_else (ap is_some away)).1 room)
