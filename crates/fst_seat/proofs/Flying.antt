-- How many blocks are in flight, as seats change.
use Rattle.std.proofs.Common.{◌≡◌, ◌+◌, ℕ, Bool, cond, List, [], ◌∷◌, Option, Some, None, is_some, refl, ap, arith, slice_get, slice_set}
use Rattle.std.proofs.lemmas.List.Sums.{sum_by-set}
use Rattle.std.proofs.lemmas.Option.{get_or_from_slice_get, slice_get_within}
use Rattle.fst_types.specs.State.{Flight, BlockState}
use Rattle.fst_seat.specs.Seats.{SeatView, seats_of, count_flying}
use Rattle.fst_seat.proofs.Counts.{count_mapped}

module _ (seats : List SeatView) (b : ℕ) (seat new : SeatView) (at_b : slice_get seats b ≡ Some seat) where
  -- the seat of block b changes
  pub flying_put : count_flying (slice_set seats b new) + cond (is_some seat.block.flight) 1 0 ≡ count_flying seats + cond (is_some new.block.flight) 1 0
  flying_put =
      let flies = λ (v : BlockState). is_some v.flight in
      let block = λ (t : SeatView). t.block in
      let r = sum_by-set (λ (t : SeatView). cond (is_some t.block.flight) 1 0) seats b new seat (slice_get_within seats b seat at_b) in
      let old = count_mapped flies block seats in
      let now = count_mapped flies block (slice_set seats b new) in
      rw (old, now) (rw (get_or_from_slice_get seats b seat seat at_b) at r)

  pub flying_same : (n : ℕ) → is_some new.block.flight ≡ is_some seat.block.flight → n ≡ count_flying seats → n ≡ count_flying (slice_set seats b new)
  flying_same n same known =
      let r = flying_put in
      let e : ◌≡◌ {A = ℕ} (cond (is_some new.block.flight) 1 0) (cond (is_some seat.block.flight) 1 0) = ap (λ (t : Bool). cond t 1 0) same in
      omega (arith, r, e, known)

  -- a write of the block goes out
  pub flying_more : (n : ℕ) (f : Flight) → seat.block.flight ≡ None → new.block.flight ≡ Some f → n ≡ count_flying seats → n + 1 ≡ count_flying (slice_set seats b new)
  flying_more n f idle sent known =
      let r = flying_put in
      let before : ◌≡◌ {A = ℕ} (cond (is_some seat.block.flight) 1 0) 0 = ap (λ (o : Option Flight). cond (is_some o) 1 0) idle in
      let after : ◌≡◌ {A = ℕ} (cond (is_some new.block.flight) 1 0) 1 = ap (λ (o : Option Flight). cond (is_some o) 1 0) sent in
      omega (arith, r, before, after, known)

  -- and lands
  pub flying_fewer : (n : ℕ) (f : Flight) → seat.block.flight ≡ Some f → new.block.flight ≡ None → n ≡ count_flying seats → n ≡ count_flying (slice_set seats b new) + 1
  flying_fewer n f out landed known =
      let r = flying_put in
      let before : ◌≡◌ {A = ℕ} (cond (is_some seat.block.flight) 1 0) 1 = ap (λ (o : Option Flight). cond (is_some o) 1 0) out in
      let after : ◌≡◌ {A = ℕ} (cond (is_some new.block.flight) 1 0) 0 = ap (λ (o : Option Flight). cond (is_some o) 1 0) landed in
      omega (arith, r, before, after, known)

pub none_flying : {X : Type 0} (held : X → List ℕ) (index faults : X → ℕ) (slots : List X) → 0 ≡ count_flying (seats_of held index faults slots)
none_flying held index faults [] = refl
none_flying held index faults (x ∷ xs) = none_flying held index faults xs
