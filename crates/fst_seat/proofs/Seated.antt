-- One seat among the seats: what stands where, and what is listed of it, before it changes and after.
use Rattle.std.proofs.Common.{◌≡◌, ◌≢◌, ◌⊎◌, ◌<◌, ℕ, zero, suc, Bool, cond, List, [], ◌∷◌, map, Some, None, refl, sym, ap, ◌∙◌, arith, length, length-set, get_or, slice_get, slice_set, count_by}
use Rattle.std.proofs.lemmas.List.{map-set, set-get_or, length-map, get_or-map, get_or-set_same}
use Rattle.std.proofs.lemmas.List.Sums.{sum_by-set}
use Rattle.std.proofs.lemmas.Option.{get_or_from_slice_get, slice_get-get_or, slice_get_within}
use Rattle.fst_seat.specs.Seats.{SeatView, blocks}

-- what stands at j after y was put at i
pub get-set : {X : Type 0} (xs : List X) (i j : ℕ) (y z : X) → slice_get (slice_set xs i y) j ≡ Some z → ((j ≡ i) × (y ≡ z)) ⊎ ((j ≢ i) × (slice_get xs j ≡ Some z))
get-set [] i j y z e = grind (arith, e)
get-set (x ∷ xs) zero zero y z e = grind (arith, e)
get-set (x ∷ xs) zero (suc j) y z e = grind (arith, e)
get-set (x ∷ xs) (suc i) zero y z e = grind (arith, e)
get-set (x ∷ xs) (suc i) (suc j) y z e = grind (arith, get-set xs i j y z e)

-- what stands at a place that there is
pub there_is : {X : Type 0} (xs : List X) (i : ℕ) → i < length xs → (x : X) × (slice_get xs i ≡ Some x)
there_is [] i lt = absurd (omega (arith, lt))
there_is (x ∷ xs) zero lt = (x, refl)
there_is (x ∷ xs) (suc i) lt = there_is xs i (omega (arith, lt))

-- what the state says of a block is what its seat says
pub block_here : (seats : List SeatView) (b : ℕ) (seat : SeatView) → slice_get seats b ≡ Some seat → get_or (blocks seats) b (record { committed = []; flight = None }) ≡ seat.block
block_here seats b seat at_b =
    get_or-map (λ (s : SeatView). s.block) seats b seat (record { committed = []; flight = None }) (slice_get_within seats b seat at_b)
    ∙ ap (λ (s : SeatView). s.block) (get_or_from_slice_get seats b seat seat at_b)

abbrev weight : Bool → ℕ
weight t = cond t 1 0

-- a seat that is in memory exactly where the one before it was leaves the count
pub count_set : (f : SeatView → Bool) (xs : List SeatView) (i : ℕ) (x y : SeatView) → slice_get xs i ≡ Some x → f y ≡ f x → count_by f (slice_set xs i y) ≡ count_by f xs
count_set f xs i x y at same =
    let k = sum_by-set (λ (z : SeatView). weight (f z)) xs i y x (slice_get_within xs i x at) in
    let here = ap (λ (z : SeatView). weight (f z)) (get_or_from_slice_get xs i x x at) in
    let there = ap weight same in
    omega (arith, k, here, there)

module _ (seats : List SeatView) (b : ℕ) (seat : SeatView) (at_b : slice_get seats b ≡ Some seat) where
  pub within : b < length seats
  within = slice_get_within seats b seat at_b

  -- a seat that is as it was leaves the list as it was
  pub same_seat : slice_set seats b seat ≡ seats
  same_seat = ap (slice_set seats b) (sym (get_or_from_slice_get seats b seat seat at_b)) ∙ set-get_or seats b seat

  -- and one that is put there stands there
  pub set_here : (new : SeatView) → slice_get (slice_set seats b new) b ≡ Some new
  set_here new = slice_get-get_or (slice_set seats b new) b new (rw length-set within) ∙ ap (λ (t : SeatView). Some t) (get_or-set_same seats b new new within)

  -- what the lists beside the state say of one seat, before and after
  pub listed : {Y : Type 0} (f : SeatView → Y) (d : Y) → get_or (map f seats) b d ≡ f seat
  listed f d = get_or-map f seats b seat d within ∙ ap f (get_or_from_slice_get seats b seat seat at_b)

  pub listed_new : {Y : Type 0} (f : SeatView → Y) (d : Y) (new : SeatView) → get_or (map f (slice_set seats b new)) b d ≡ f new
  listed_new f d new = rw map-set (get_or-set_same (map f seats) b (f new) d (rw length-map within))

  pub listed_set : {Y : Type 0} (f : SeatView → Y) (new : SeatView) → map f (slice_set seats b new) ≡ slice_set (map f seats) b (f new)
  listed_set f new = map-set f seats b new

  pub same_listed : {Y : Type 0} (f : SeatView → Y) (new : SeatView) → f new ≡ f seat → map f (slice_set seats b new) ≡ map f seats
  same_listed f new e = map-set f seats b new ∙ (ap (slice_set (map f seats) b) e ∙ (sym (map-set f seats b seat) ∙ ap (map f) same_seat))
