use Rattle.std.proofs.lemmas.Grind.{common_steps}
use Rattle.std.proofs.Common.{arith, ◌≡◌, ◌∙◌, ◌<◌, true, false, Some, None, length, slice_get, refl, sym, inl, inr}
use Rattle.std.proofs.lemmas.List.{length-map}
use Rattle.fst_types.specs.Flights.{IsStalled, IsLost}
use Rattle.fst_seat.specs.Seats.{SeatView}
use Rattle.fst_cache.specs.Kept.{state_of}
use Rattle.fst_seat.proofs.Seated.{listed}
use Rattle.fst_cache.proofs.SettleFound.{stalled_at, lost_at, not_lost_at}
use Rattle.fst_cache.proofs.cache.Cache.retry_fault.Goals.{After-is_stalled}
use Rattle.fst_cache.proofs.cache.Cache.retry_fault.Goals as goal

-- the seat that was read is the block's
seated : (g : _) (c : After-is_stalled g) → slice_get c.self.inside.seats.seats c.args.block.0 ≡ Some c.seat-seat.result.now
seated g c = let i = c.self.inside in c.seat-seat.ensures.at

stalled : (g : _) (c : After-is_stalled g) → c.is_stalled.result ≡ true → IsStalled (state_of c.self.inside) c.args.block.0
stalled g c e =
    stalled_at c.self.inside _ _ (seated g c) (sym c.is_stalled.ensures.flight ∙ e)

-- and it is lost or not
kept : (g : _) (c : After-is_stalled g) → c.is_lost.result ≡ false → IsLost (state_of c.self.inside) c.args.block.0 → ⊥
kept g c e = not_lost_at c.self.inside _ _ (seated g c) (sym c.is_lost.ensures ∙ e)

pub returns-then-is_lost-clause-fault : goal.returns-then-is_lost-clause-fault
returns-then-is_lost-clause-fault g c =
    let lt : c.args.block.0 < length c.self.inside.seats.seats = omega (arith) in
    let seated : slice_get c.self.inside.seats.seats c.args.block.0 ≡ Some c.seat-seat.result.now = c.seat-seat.ensures.at in
    let lost = lost_at c.self.inside _ _ seated (sym c.is_lost.ensures ∙ c.if-is_lost.true) in
    rw (← c.self.view_is, length-map) (inr ((λ h. omega arith), inl (lost, refl)))

pub returns-then-self-clause-fault : goal.returns-then-self-clause-fault
returns-then-self-clause-fault g c =
    let lt : c.args.block.0 < length c.self.inside.seats.seats = omega (arith) in
    let st = stalled g (goal.at.returns-then-self-clause-fault g c).After-is_stalled c.if-not-is_stalled.false in
    let no = kept g (goal.at.returns-then-self-clause-fault g c).After-is_stalled c.if-is_lost.false in
    rw (← c.self.view_is, length-map) (inr ((λ h. omega arith), inr (no, inr ((λ h. h st), inl (omega arith, refl)))))

pub returns-clause-fault : goal.returns-clause-fault
returns-clause-fault g c =
    let lt : c.args.block.0 < length c.self.inside.seats.seats = omega (arith) in
    let st = stalled g (goal.at.returns-clause-fault g c).After-is_stalled c.if-not-is_stalled.false in
    let few : c.self.inside.tickets < 18446744073709551615 = let top = c.self.invariant.lawful.limits.tickets in grind (arith, c.if-self.false, top) in
    let no = kept g (goal.at.returns-clause-fault g c).After-is_stalled c.if-is_lost.false in
    rw (← c.self.view_is, length-map) ((λ h. omega arith), (no, ((λ h. h st), ((λ h. omega arith), tt))))

pub returns-clause-stalled : goal.returns-clause-stalled
returns-clause-stalled g c =
    let st = stalled g (goal.at.returns-clause-stalled g c).After-is_stalled c.if-not-is_stalled.false in
    rw (← c.self.view_is) (λ none. st)

pub returns-clause-back : goal.returns-clause-back
returns-clause-back g c =
    let at_b = seated g (goal.at.returns-clause-back g c).After-is_stalled in
    rw (← c.self.view_is) (λ none. rw (listed c.self.inside.seats.seats _ _ at_b (λ (s : SeatView). s.back) None) (c.is_stalled.ensures.back c.if-not-is_stalled.false))

pub seat-seat-requires : goal.seat-seat-requires
seat-seat-requires g c = omega (arith, c.if-block-len.false, c.len.ensures)

pub returns-then-block-len-clause-fault : goal.returns-then-block-len-clause-fault
returns-then-block-len-clause-fault g c = grind (arith, common_steps)
