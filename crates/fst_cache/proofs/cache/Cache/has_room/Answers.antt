use Rattle.std.proofs.Common.{◌≡◌, Some, sym, ◌∙◌, slice_get, ◌<◌, arith, length}
use Rattle.std.proofs.lemmas.List.{length-map}
use Rattle.fst_cache.proofs.ResideSeats.{room_there, room_else}
use Rattle.fst_cache.proofs.cache.Cache.has_room.Goals as goal

pub returns-then-is_loaded : goal.returns-then-is_loaded
returns-then-is_loaded g c =
    let seated : slice_get c.self.inside.seats.seats c.args.block.0 ≡ Some c.seat.result.now =
    c.seat.ensures.at in
    rw (← c.self.view_is) ((λ _. room_there c.self.inside c.self.invariant _ _ seated (sym c.is_loaded.ensures ∙ c.if-is_loaded.true)), (λ _. c.if-is_loaded.true))

pub returns-else-is_loaded : goal.returns-else-is_loaded
returns-else-is_loaded g c =
    let seated : slice_get c.self.inside.seats.seats c.args.block.0 ≡ Some c.seat.result.now =
    c.seat.ensures.at in
    rw (← c.self.view_is, c.has_room.ensures) (room_else c.self.inside c.self.invariant _ _ seated (sym c.is_loaded.ensures ∙ c.if-is_loaded.false))

pub seat-requires : goal.seat-requires
seat-requires g c =
    let lt : c.args.block.0 < length c.self.inside.seats.seats = rw (← c.self.view_is, length-map) at c.requires in
    omega (arith, lt)
