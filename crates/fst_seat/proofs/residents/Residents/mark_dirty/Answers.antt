use Rattle.std.proofs.Common.{◌<◌, ◌≤◌, ◌+◌, List, Bool, refl, sym, ap, arith}
use Rattle.fst_seat.specs.Places.{are_first}
use Rattle.fst_seat.proofs.{Listing.{there_at, same_noted, among, marked, marked_there, marked_runs}, residents.Residents.mark_dirty.Goals.{After-place_of-from, After-min-passed}}
use Rattle.fst_seat.proofs.residents.Residents.mark_dirty.Goals as goal

-- the block stands among those in memory
within : (c : After-place_of-from) → c.place_of-from.result < c.self.inside.count
within c = among c.self.inside.count c.self.inside.places c.args.block _ c.place_of-from.ensures.place (rw (← c.self.view_is) at c.requires)

pub returns-then-from-self : goal.returns-then-from-self
returns-then-from-self c =
    let i = c.self.inside in
    let lt : c.place_of-from.result < i.dirty = omega (arith, c.if-from-self.true) in
    rw (← c.self.view_is)
    (ap (λ (flags : List Bool). record { most = i.most; loaded = are_first i.count i.places; dirty = flags }) (sym (same_noted (are_first i.dirty i.places) c.args.block _ (there_at i.dirty i.places c.args.block _ c.place_of-from.ensures.place lt))))

-- the place through which it goes is one that the hand has passed then
first : (c : After-min-passed) → c.self.inside.dirty ≤ c.min-passed.result
first c = omega (arith, c.min-passed.ensures, c.if-from-self.false, c.self.invariant.before_hand)

last : (c : After-min-passed) → c.min-passed.result ≤ c.place_of-from.result
last c = omega (arith, c.min-passed.ensures)

pub invariant_of-self : goal.invariant_of-self
invariant_of-self c =
    let i = c.self.inside in
    let there = within (goal.at.invariant_of-self c).After-place_of-from in
    let clean : i.dirty ≤ c.place_of-from.result = omega (arith, c.if-from-self.false) in
    let from = first (goal.at.invariant_of-self c).After-min-passed in
    let to = last (goal.at.invariant_of-self c).After-min-passed in
    let more : i.dirty + 1 ≤ c.max-self-inside.result = omega (arith, from, c.max-self-inside.ensures) in
    let few : c.max-self-inside.result ≤ i.count = omega (arith, to, there, c.self.invariant.hand_within, c.max-self-inside.ensures) in
    rw (c.exchange-2.ensures, c.exchange.ensures) (marked_runs i.places c.args.block _ c.place_of-from.ensures.place c.place_of-from.ensures.alone i.dirty i.hand i.count c.self.invariant clean there _ from to _ more few)

pub returns : goal.returns
returns c =
    let i = c.self.inside in
    let there = within (goal.at.returns c).After-place_of-from in
    let clean : i.dirty ≤ c.place_of-from.result = omega (arith, c.if-from-self.false) in
    let from = first (goal.at.returns c).After-min-passed in
    let to = last (goal.at.returns c).After-min-passed in
    rw (
      c.exchange-2.ensures,
      c.exchange.ensures,
      ← c.self.view_is,
      marked i.places c.args.block _ c.place_of-from.ensures.place c.place_of-from.ensures.alone i.dirty i.hand i.count c.self.invariant clean there _ from to,
      marked_there i.places c.args.block _ c.place_of-from.ensures.place c.place_of-from.ensures.alone i.dirty i.hand i.count c.self.invariant clean there _ from to,
    ) refl
