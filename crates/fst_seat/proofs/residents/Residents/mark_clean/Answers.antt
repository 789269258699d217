use Rattle.std.proofs.Common.{◌<◌, ◌≤◌, List, Bool, refl, sym, ap, arith}
use Rattle.fst_seat.specs.Places.{are_first}
use Rattle.fst_seat.proofs.Listing.{away_at, same_noted, cleaned, cleaned_there, cleaned_runs}
use Rattle.fst_seat.proofs.residents.Residents.mark_clean.Goals as goal

pub returns-then-from-self : goal.returns-then-from-self
returns-then-from-self c =
    let i = c.self.inside in
    let past : i.dirty ≤ c.place_of-from.result = omega (arith, c.if-from-self.true) in
    rw (← c.self.view_is)
    (ap (λ (flags : List Bool). record { most = i.most; loaded = are_first i.count i.places; dirty = flags }) (sym (same_noted (are_first i.dirty i.places) c.args.block _ (away_at i.dirty i.places c.args.block _ c.place_of-from.ensures.place past))))

pub invariant_of-self : goal.invariant_of-self
invariant_of-self c =
    let i = c.self.inside in
    let lt : c.place_of-from.result < i.dirty = omega (arith, c.if-from-self.false) in
    rw c.exchange.ensures (cleaned_runs i.places c.args.block _ c.place_of-from.ensures.place c.place_of-from.ensures.alone i.dirty i.hand i.count c.self.invariant lt)

pub returns : goal.returns
returns c =
    let i = c.self.inside in
    let lt : c.place_of-from.result < i.dirty = omega (arith, c.if-from-self.false) in
    rw (
      c.exchange.ensures,
      ← c.self.view_is,
      cleaned i.places c.args.block _ c.place_of-from.ensures.place c.place_of-from.ensures.alone i.dirty i.hand i.count c.self.invariant lt,
      cleaned_there i.places c.args.block _ c.place_of-from.ensures.place c.place_of-from.ensures.alone i.dirty i.hand i.count c.self.invariant lt,
    ) refl
