use Rattle.std.proofs.Common.{◌≡◌, ◌∙◌, Some, slice_get}
use Rattle.fst_cache.proofs.ResideLooking.{flight_told}
use Rattle.fst_cache.proofs.cache.Cache.flight.Goals as goal

pub returns : goal.returns
returns g c =
    let seated : slice_get c.self.inside.seats.seats c.args.block.0 ≡ Some c.seat.result.now = c.seat.ensures.at in
    rw (← c.self.view_is) (c.flight.ensures ∙ flight_told c.self.inside c.self.invariant _ _ seated)
