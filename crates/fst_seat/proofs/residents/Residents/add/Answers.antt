use Rattle.std.proofs.Common.{◌<◌, ◌≤◌, length, refl, arith}
use Rattle.std.proofs.lemmas.List.{length-map}
use Rattle.fst_seat.proofs.{Listing.{added, added_dirty, added_runs, after}, residents.Residents.add.Goals.After-place_of-from}
use Rattle.fst_seat.proofs.residents.Residents.add.Goals as goal

-- the block stands after those in memory, and so a place there is free
outside : (c : After-place_of-from) → c.self.inside.count ≤ c.place_of-from.result
outside c = after c.self.inside.count c.self.inside.places c.args.block _ c.place_of-from.ensures.place (rw (← c.self.view_is) at c.requires)

free : (c : After-place_of-from) → c.self.inside.count < length c.self.inside.places
free c = omega (arith, outside c, c.place_of-from.ensures.within)

pub invariant_of-self : goal.invariant_of-self
invariant_of-self c =
    let i = c.self.inside in
    rw (c.exchange-2.ensures, c.exchange.ensures) (added_runs i.places c.args.block _ c.place_of-from.ensures.place c.place_of-from.ensures.alone i.dirty i.hand i.count c.self.invariant (outside (goal.at.invariant_of-self c).After-place_of-from))

pub returns : goal.returns
returns c =
    let i = c.self.inside in
    let past = outside (goal.at.returns c).After-place_of-from in
    rw (
      c.exchange-2.ensures,
      c.exchange.ensures,
      ← c.self.view_is,
      added i.places c.args.block _ c.place_of-from.ensures.place c.place_of-from.ensures.alone i.dirty i.hand i.count c.self.invariant past,
      added_dirty i.places c.args.block _ c.place_of-from.ensures.place c.place_of-from.ensures.alone i.dirty i.hand i.count c.self.invariant past,
    ) refl

pub exchange-requires-clause-first : goal.exchange-requires-clause-first
exchange-requires-clause-first c = c.place_of-from.ensures.within

pub exchange-requires-clause-second : goal.exchange-requires-clause-second
exchange-requires-clause-second c = free (goal.at.exchange-requires-clause-second c).After-place_of-from

pub exchange-requires-2-clause-first : goal.exchange-requires-2-clause-first
exchange-requires-2-clause-first c = rw (c.exchange.ensures, length-map) (free (goal.at.exchange-requires-2-clause-first c).After-place_of-from)

pub exchange-requires-2-clause-second : goal.exchange-requires-2-clause-second
exchange-requires-2-clause-second c = let lt = free (goal.at.exchange-requires-2-clause-second c).After-place_of-from in rw (c.exchange.ensures, length-map) (omega (arith, lt, c.self.invariant.hand_within))

pub overflow_add-self : goal.overflow_add-self
overflow_add-self c = let lt = free (goal.at.overflow_add-self c).After-place_of-from in omega (arith, lt, c.self.invariant.few)

pub overflow_add-self-2 : goal.overflow_add-self-2
overflow_add-self-2 c = let lt = free (goal.at.overflow_add-self-2 c).After-place_of-from in omega (arith, lt, c.self.invariant.hand_within, c.self.invariant.few)
