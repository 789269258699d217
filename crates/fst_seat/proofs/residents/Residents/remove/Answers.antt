use Rattle.std.proofs.Common.{◌<◌, ◌≤◌, List, Bool, refl, sym, ap, arith}
use Rattle.fst_seat.specs.Places.{are_first}
use Rattle.fst_seat.proofs.{Listing.{away_at, same_noted, after, removed, removed_dirty, removed_runs}, residents.Residents.remove.Goals.After-place_of-from}
use Rattle.fst_seat.proofs.residents.Residents.remove.Goals as goal

-- the block stands after the dirty ones
clean : (c : After-place_of-from) → c.self.inside.dirty ≤ c.place_of-from.result
clean c = after c.self.inside.dirty c.self.inside.places c.args.block _ c.place_of-from.ensures.place (rw (← c.self.view_is) at c.requires)

pub returns-then-from-self : goal.returns-then-from-self
returns-then-from-self c =
    let i = c.self.inside in
    let past : i.count ≤ c.place_of-from.result = omega (arith, c.if-from-self.true) in
    rw (← c.self.view_is)
    (ap (λ (flags : List Bool). record { most = i.most; loaded = flags; dirty = are_first i.dirty i.places }) (sym (same_noted (are_first i.count i.places) c.args.block _ (away_at i.count i.places c.args.block _ c.place_of-from.ensures.place past))))

pub invariant_of-self : goal.invariant_of-self
invariant_of-self c =
    let i = c.self.inside in
    let lt : c.place_of-from.result < i.count = omega (arith, c.if-from-self.false) in
    rw c.exchange.ensures (removed_runs i.places c.args.block _ c.place_of-from.ensures.place c.place_of-from.ensures.alone i.dirty i.hand i.count c.self.invariant (clean (goal.at.invariant_of-self c).After-place_of-from) lt)

pub returns : goal.returns
returns c =
    let i = c.self.inside in
    let lt : c.place_of-from.result < i.count = omega (arith, c.if-from-self.false) in
    let rest = clean (goal.at.returns c).After-place_of-from in
    rw (
      c.exchange.ensures,
      ← c.self.view_is,
      removed i.places c.args.block _ c.place_of-from.ensures.place c.place_of-from.ensures.alone i.dirty i.hand i.count c.self.invariant rest lt,
      removed_dirty i.places c.args.block _ c.place_of-from.ensures.place c.place_of-from.ensures.alone i.dirty i.hand i.count c.self.invariant rest lt,
    ) refl
