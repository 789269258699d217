use Rattle.std.proofs.Common.{◌≡◌, ◌∙◌, Some, true, false, length, slice_get, refl, sym, ap, arith}
use Rattle.std.specs.Option.{option_map_or}
use Rattle.std.proofs.lemmas.Bool.{both_ways}
use Rattle.std.proofs.lemmas.Option.{slice_get_read}
use Rattle.fst_seat.specs.Seats.{SeatView}
use Rattle.fst_seat.proofs.Counts.{one_more}
use Rattle.fst_cache.proofs.ResideLooking.{none_below, stalled_at, stalled_within}
use Rattle.fst_cache.proofs.cache.Cache.stalled.Goals as goal

pub returns-then-is_stalled : goal.returns-then-is_stalled
returns-then-is_stalled g c =
    let seated : slice_get c.as_slice-seat-items.result.now c.loop-at.at ≡ Some c.seat-item.result = slice_get_read c.as_slice-seat-items.result.now _ _ _ refl c.loop-at-test.true c.seat-item.is in
    let at_b : slice_get c.self.inside.seats.seats c.loop-at.at ≡ Some c.seat-item.result = rw c.as_slice-seat-items.ensures at seated in
    rw (← c.self.view_is)
    record {
      stalled = stalled_at c.self.inside c.self.invariant _ _ at_b (sym c.is_stalled.ensures.flight ∙ c.if-is_stalled.true);
      least = none_below c.self.inside c.self.invariant c.loop-at.at (rw c.as_slice-seat-items.ensures at c.loop-at.invariant);
    }

pub loop-at-preserved : goal.loop-at-preserved
loop-at-preserved g c =
    let seated : slice_get c.as_slice-seat-items.result.now c.loop-at.at ≡ Some c.seat-item.result = slice_get_read c.as_slice-seat-items.result.now _ _ _ refl c.loop-at-test.true c.seat-item.is in
    one_more (λ (t : SeatView). option_map_or (λ f. f.stalled) t.block.flight false ≡ true) c.as_slice-seat-items.result.now c.loop-at.at c.seat-item.result seated
    (λ h. both_ways _ (sym c.is_stalled.ensures.flight ∙ c.if-is_stalled.false) h) c.loop-at.invariant

pub returns : goal.returns
returns g c =
    let all = none_below c.self.inside c.self.invariant c.loop-at.at (rw c.as_slice-seat-items.ensures at c.loop-at.invariant) in
    let len : length c.as_slice-seat-items.result.now ≡ length c.self.inside.seats.seats = ap length c.as_slice-seat-items.ensures in
    rw (← c.self.view_is) (λ b h. let lt = stalled_within c.self.inside c.self.invariant b h in let le = all b h in omega (arith, lt, le, len, c.loop-at-test.false))
