use Rattle.std.proofs.lemmas.List.{length-map}
use Rattle.std.proofs.Common.{◌≡◌, ◌∙◌, ◌↔◌, Some, IsTrue, slice_get, is_some, false, sym, arith, ◌≤◌, length, inl, refl}
use Rattle.std.proofs.lemmas.{Bool.false≢true}
use Rattle.fst_types.specs.Writable.{HasReady}
use Rattle.fst_cache.specs.Kept.{state_of}
use Rattle.fst_cache.proofs.Kept.{with_graph}
use Rattle.fst_cache.proofs.SendRefused.{at_rest, busy_refused, nothing_ready, sending_refused, sending_clear, on_ok, refused_memory}
use Rattle.fst_cache.proofs.cache.Cache.choice.Goals.{After-has_ready}
use Rattle.fst_cache.proofs.cache.Cache.choice.Goals as goal
use Rattle.fst_cache.proofs.SameRefused.{kept_unprepared}

-- the block's seat
seated : (g : _) (c : After-has_ready g) → slice_get c.self.inside.seats.seats c.args.block.0 ≡ Some c.seat.result.now
seated g c = c.seat.ensures.at

-- nothing of the block is in flight
idle : (g : _) (c : After-has_ready g) → is_some c.seat.result.now.block.flight ≡ false
idle g c = sym c.is_busy.ensures ∙ c.if-is_busy.false

-- whether something may be written is told
told : (g : _) (c : After-has_ready g) → IsTrue c.has_ready.result ↔ HasReady c.self.inside.graph.heads c.args.block.0
told g c = c.has_ready.ensures (at_rest c.self.inside c.args.block.0 c.seat.result.now (seated g c) (idle g c) c.self.invariant.lawful)

pub invariant_of-self : goal.invariant_of-self
invariant_of-self g c = kept_unprepared c.self.inside c.hard_held-held.ensures.same c.self.invariant

pub invariant_of-self-in-Some : goal.invariant_of-self-in-Some
invariant_of-self-in-Some g c = kept_unprepared c.self.inside c.hard_held-held.ensures.same c.self.invariant

pub invariant_of-self-in-None : goal.invariant_of-self-in-None
invariant_of-self-in-None g c =
    kept_unprepared (with_graph c.self.inside c.hard_held-held.new.self) c.chosen.ensures.same (kept_unprepared c.self.inside c.hard_held-held.ensures.same c.self.invariant)

pub returns-then-not-has_ready-clause-refused : goal.returns-then-not-has_ready-clause-refused
returns-then-not-has_ready-clause-refused g c =
    let i = c.self.inside in
    let before = (goal.at.returns-then-not-has_ready-clause-refused g c).After-has_ready in
    rw (← c.self.view_is) (nothing_ready i c.args.block.0 c.seat.result.now (seated g before) (idle g before)
    (λ ready. false≢true (sym c.if-not-has_ready.true ∙ (told g before).1 ready)))

pub returns-in-Some-clause-refused : goal.returns-in-Some-clause-refused
returns-in-Some-clause-refused g c =
    let i = c.self.inside in
    let before = (goal.at.returns-in-Some-clause-refused g c).After-has_ready in
    rw (← c.self.view_is)
    (sending_refused i c.args.block.0 c.seat.result.now (seated g before) (idle g before) ((told g before).0 c.if-not-has_ready.false)
    c.hard_held-held.new.self c.hard_held-held.ensures.same c.in-Some.fault c.in-Some.ensures)

pub returns-in-None-clause-clear : goal.returns-in-None-clause-clear
returns-in-None-clause-clear g c =
    let i = c.self.inside in
    let before = (goal.at.returns-in-None-clause-clear g c).After-has_ready in
    rw (← c.self.view_is)
    (on_ok c.chosen.result _
    (sending_clear i c.args.block.0 c.seat.result.now (seated g before) (idle g before) ((told g before).0 c.if-not-has_ready.false)
    c.hard_held-held.new.self c.hard_held-held.ensures.same c.in-None.ensures))

pub returns-in-None-clause-chosen : goal.returns-in-None-clause-chosen
returns-in-None-clause-chosen g c = rw (← c.self.view_is) (rw c.hard_held-held.ensures.same at c.chosen.ensures.ok)

pub returns-in-None-clause-refused : goal.returns-in-None-clause-refused
returns-in-None-clause-refused g c =
    let i = c.self.inside in
    let before = (goal.at.returns-in-None-clause-refused g c).After-has_ready in
    rw (← c.self.view_is)
    (refused_memory (state_of i) c.args.block.0 c.chosen.result
    (sending_clear i c.args.block.0 c.seat.result.now (seated g before) (idle g before) ((told g before).0 c.if-not-has_ready.false)
    c.hard_held-held.new.self c.hard_held-held.ensures.same c.in-None.ensures)
    (rw c.hard_held-held.ensures.same at c.chosen.ensures.refused))

pub seat-requires : goal.seat-requires
seat-requires g c = omega (arith, c.if-block-len.false, c.len.ensures)

pub returns-then-block-len-clause-refused : goal.returns-then-block-len-clause-refused
returns-then-block-len-clause-refused g c =
    let past : length c.args.self.now.state.blocks ≤ c.args.block.0 = rw (← c.self.view_is, length-map) (omega (arith, c.if-block-len.true, c.len.ensures)) in
    inl (inl (past, refl))

pub sending_fault-requires-clause-least : goal.sending_fault-requires-clause-least
sending_fault-requires-clause-least g c = rw c.hard_held-held.ensures.same c.hard_held-held.ensures.least

pub returns-then-block-len-clause-same : goal.returns-then-block-len-clause-same
returns-then-block-len-clause-same g c = refl

pub returns-then-is_busy-clause-same : goal.returns-then-is_busy-clause-same
returns-then-is_busy-clause-same g c = refl

pub returns-then-not-has_ready-clause-same : goal.returns-then-not-has_ready-clause-same
returns-then-not-has_ready-clause-same g c = refl

pub returns-in-Some-clause-same : goal.returns-in-Some-clause-same
returns-in-Some-clause-same g c = rw c.hard_held-held.ensures.same c.self.view_is

pub returns-in-None-clause-same : goal.returns-in-None-clause-same
returns-in-None-clause-same g c = rw (c.chosen.ensures.same, c.hard_held-held.ensures.same) c.self.view_is

pub returns-then-is_busy-clause-refused : goal.returns-then-is_busy-clause-refused
returns-then-is_busy-clause-refused g c =
    let i = c.self.inside in
    let seated : slice_get i.seats.seats c.args.block.0 ≡ Some c.seat.result.now = c.seat.ensures.at in
    rw (← c.self.view_is) (busy_refused i c.args.block.0 c.seat.result.now seated (sym c.is_busy.ensures ∙ c.if-is_busy.true))
