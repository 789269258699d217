use Rattle.std.proofs.Common.{◌≡◌, ◌<◌, Some, refl, sym, ◌∙◌, slice_get, length, arith, inl, inr}
use Rattle.std.proofs.lemmas.Bool.{both_ways}
use Rattle.std.proofs.lemmas.List.{length-map}
use Rattle.fst_cache.proofs.ResideSeats.{dirty_is}
use Rattle.fst_cache.proofs.cache.Cache.evict_fault.Goals as goal

pub returns-then-is_dirty : goal.returns-then-is_dirty
returns-then-is_dirty g c =
    let lt : c.args.block.0 < length c.self.inside.seats.seats = omega (arith) in
    let seated : slice_get c.self.inside.seats.seats c.args.block.0 ≡ Some c.seat.result.now = c.seat.ensures.at in
    let dirty = sym (dirty_is c.self.inside c.self.invariant _ _ seated) ∙ (sym c.is_dirty.ensures ∙ c.if-is_dirty.true) in
    rw (← c.self.view_is, length-map) (inr ((λ h. omega (arith, h, lt)), inl (dirty, refl)))

pub returns : goal.returns
returns g c =
    let lt : c.args.block.0 < length c.self.inside.seats.seats = omega (arith) in
    let seated : slice_get c.self.inside.seats.seats c.args.block.0 ≡ Some c.seat.result.now = c.seat.ensures.at in
    let clean = sym (dirty_is c.self.inside c.self.invariant _ _ seated) ∙ (sym c.is_dirty.ensures ∙ c.if-is_dirty.false) in
    rw (← c.self.view_is, length-map) ((λ h. omega (arith, h, lt)), ((λ d. both_ways _ clean d), tt))
