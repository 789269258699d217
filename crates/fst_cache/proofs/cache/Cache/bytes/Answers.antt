use Rattle.std.proofs.Common.{◌≡◌, Some, is_some, false, sym, ◌∙◌, slice_get, ◌<◌, arith, length}
use Rattle.std.proofs.lemmas.List.{length-map}
use Rattle.fst_seat.specs.Seats.{SeatView}
use Rattle.fst_seat.proofs.Seated.{listed}
use Rattle.fst_cache.proofs.ResideSeats.{bytes_there}
use Rattle.fst_cache.proofs.cache.Cache.bytes.Goals as goal

pub returns : goal.returns
returns g c =
    let seated : slice_get c.self.inside.seats.seats c.args.block.0 ≡ Some c.seat.result.now =
    c.seat.ensures.at in
    let there = sym (listed c.self.inside.seats.seats c.args.block.0 _ seated (λ (t : SeatView). is_some t.loaded) false) ∙ (rw (← c.self.view_is) at c.requires.resident) in
    rw (← c.self.view_is) (bytes_there c.self.inside c.self.invariant _ _ seated c.bytes.result.now there c.bytes.ensures)

pub seat-requires : goal.seat-requires
seat-requires g c =
    let lt : c.args.block.0 < length c.self.inside.seats.seats = rw (← c.self.view_is, length-map) at c.requires.within in
    omega (arith, lt)
