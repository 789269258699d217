use Rattle.std.proofs.Common.{◌≡◌, ◌<◌, Some, length, slice_get, refl}
use Rattle.std.proofs.lemmas.Option.{slice_get_read}
use Rattle.fst_seat.proofs.seats.Seats.seat.Goals as goal

pub returns-clause-place : goal.returns-clause-place
returns-clause-place g c =
    let within : c.args.block.0 < length c.self.inside.seats.items = rw (← c.self.view_is) at c.requires in
    let seated : slice_get c.self.inside.seats.items c.args.block.0 ≡ Some c.index.result.now = slice_get_read c.self.inside.seats.items _ _ _ refl within c.index.ensures in
    c.self.invariant.placed _ _ seated
