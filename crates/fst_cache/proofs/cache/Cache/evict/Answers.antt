use Rattle.std.proofs.Common.{◌≡◌, ◌<◌, false, Some, None, refl, ◌∙◌, slice_get, length, inl}
use Rattle.std.proofs.lemmas.Bool.{false_from_ne_true}
use Rattle.std.proofs.lemmas.List.{length-map}
use Rattle.fst_types.specs.Events.{Evict}
use Rattle.fst_types.specs.Order.{order}
use Rattle.fst_types.specs.Refusals.{NoneHolds}
use Rattle.fst_types.specs.Step.{accepted, refused, evict}
use Rattle.fst_seat.specs.Seats.{SeatView, is_dirty_seat}
use Rattle.fst_cache.specs.Kept.{state_of}
use Rattle.fst_seat.proofs.Seated.{there_is, same_listed}
use Rattle.fst_cache.proofs.ResideSeats.{dirty_is}
use Rattle.fst_cache.proofs.ResideLoading.{unloaded, view_unloaded, within_of}
use Rattle.fst_cache.proofs.cache.Cache.evict.Goals.{In_default}
use Rattle.fst_cache.proofs.cache.Cache.evict.Goals as goal

free : (g : _) (c : In_default g) → NoneHolds (order (state_of c.self.inside) (Evict c.args.block.0))
free g c = rw (← c.self.view_is) at c.in_default.ensures

within : (g : _) (c : In_default g) → c.args.block.0 < length c.self.inside.seats.seats
within g c = within_of (length c.self.inside.seats.seats) c.args.block.0 (rw length-map at (free g c).0)

clean : (g : _) (c : In_default g) (seat : SeatView) → slice_get c.self.inside.seats.seats c.args.block.0 ≡ Some seat → is_dirty_seat seat ≡ false
clean g c seat at_b = dirty_is c.self.inside c.self.invariant c.args.block.0 seat at_b ∙ false_from_ne_true _ (free g c).1.0

pub returns-in-Some-clause-step : goal.returns-in-Some-clause-step
returns-in-Some-clause-step g c = refused (inl c.in-Some.ensures)

pub evict-requires-clause-within : goal.evict-requires-clause-within
evict-requires-clause-within g c = within g (goal.at.evict-requires-clause-within g c).In_default

pub evict-requires-clause-clean : goal.evict-requires-clause-clean
evict-requires-clause-clean g c = clean g (goal.at.evict-requires-clause-clean g c).In_default

pub invariant_of-self : goal.invariant_of-self
invariant_of-self g c =
    let at = (goal.at.invariant_of-self g c).In_default in
    let is = there_is c.self.inside.seats.seats c.args.block.0 (within g at) in
    rw (c.evict.ensures is.0 is.1) (unloaded c.self.inside c.self.invariant _ _ is.1 (clean g at is.0 is.1))

pub returns-clause-step : goal.returns-clause-step
returns-clause-step g c =
    let at = (goal.at.returns-clause-step g c).In_default in
    let is = there_is c.self.inside.seats.seats c.args.block.0 (within g at) in
    rw (← c.self.view_is, c.evict.ensures is.0 is.1, same_listed c.self.inside.seats.seats c.args.block.0 _ is.1 (λ (t : SeatView). t.block) (record is.0 { loaded = None }) refl)
    (accepted (free g at) evict)

pub returns-clause-evicted : goal.returns-clause-evicted
returns-clause-evicted g c =
    let is = there_is c.self.inside.seats.seats c.args.block.0 (within g (goal.at.returns-clause-evicted g c).In_default) in
    rw (← c.self.view_is, c.evict.ensures is.0 is.1) (view_unloaded c.self.inside c.args.block.0 is.0 is.1 _ refl)
