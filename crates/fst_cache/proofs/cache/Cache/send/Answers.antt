use Rattle.std.proofs.Common.{◌≡◌, ◌∙◌, ◌≤◌, ◌+◌, arith, is_some, refl, sym, ap, length, length-set, slice_get, Some}
use Rattle.std.proofs.lemmas.List.{map-set, length-map}
use Rattle.std.proofs.lemmas.Option.{same_Some, slice_get_within}
use Rattle.fst_types.specs.Limits.{max_ticket}
use Rattle.fst_types.specs.State.{BlockState}
use Rattle.fst_types.specs.Bytes.{image_of}
use Rattle.fst_types.specs.Writable.{IsWritableSet}
use Rattle.fst_types.specs.Events.{Issue}
use Rattle.fst_types.specs.Order.{order}
use Rattle.fst_types.specs.Refusals.{NoneHolds}
use Rattle.fst_graph.specs.Known.{Launches}
use Rattle.fst_seat.specs.Names.{numbers_of}
use Rattle.fst_seat.specs.Seats.{SeatView, SeatsView, undo_of}
use Rattle.fst_seat.specs.Writing.{sent}
use Rattle.fst_cache.specs.Kept.{state_of, block_view}
use Rattle.fst_seat.proofs.Seated.{same_listed, listed, set_here}
use Rattle.fst_seat.proofs.Undo.{undo_put, undo_within, undo_left}
use Rattle.fst_cache.proofs.SendSet.{writable}
use Rattle.fst_cache.proofs.SendBytes.{MaySend, may_send, may_go_out, loaded_is, block_is}
use Rattle.fst_cache.proofs.SendState.{sent_loaded, step_sent, kept_sent, state_sent}
use Rattle.fst_cache.proofs.cache.Cache.send.Goals.{After-seat}
use Rattle.fst_cache.proofs.cache.Cache.send.Goals as goal

clear : (g : _) (c : After-seat g) → NoneHolds (order (state_of c.self.inside) (Issue c.args.block.0))
clear g c = rw (← c.self.view_is) at c.requires.clear

image : (g : _) (c : After-seat g) → c.args.image.items ≡ image_of (state_of c.self.inside) c.args.block.0 (numbers_of c.args.chosen.items)
image g c = rw (← c.self.view_is) at c.requires.image

-- what the state says of the block with this seat
may : (g : _) (c : After-seat g) (seat : SeatView) → slice_get c.self.inside.seats.seats c.args.block.0 ≡ Some seat → MaySend c.self.inside c.args.block.0 seat c.args.chosen.items
may g c seat at_b = may_send c.self.inside c.args.self.now c.self.view_is c.self.invariant c.requires.clear c.requires.chosen at_b

-- with the seat that was read
abbrev sends : (g : _) (c : After-seat g) → MaySend c.self.inside c.args.block.0 c.seat.result.now c.args.chosen.items
sends g c = may g c c.seat.result.now c.seat.ensures.at

abbrev after : (g : _) (c : After-seat g) → SeatView
after g c = sent c.seat.result.now (block_view (state_of c.self.inside) c.args.block.0) (c.self.inside.tickets + 1) c.args.chosen.items c.args.image.items

loaded : (g : _) (c : After-seat g) → c.seat.result.now.loaded ≡ Some (block_view (state_of c.self.inside) c.args.block.0)
loaded g c = loaded_is c.self.inside (sends g c)

pub launch-requires : goal.launch-requires
launch-requires g c =
    let clear : NoneHolds (order (state_of c.self.inside) (Issue c.args.block.0)) = rw (← c.self.view_is) at c.requires.clear in
    let choice : IsWritableSet c.self.inside.graph.heads c.args.block.0 (numbers_of c.args.chosen.items) = rw (← c.self.view_is) at c.requires.chosen in
    rw c.deref.ensures.value (record { block = c.args.block.0; writable = writable (state_of c.self.inside) c.self.invariant.lawful c.args.block.0 c.args.chosen.items choice clear; choice = choice })

pub seat-requires : goal.seat-requires
seat-requires g c =
    let there : length c.args.self.now.state.blocks ≤ c.args.block.0 → ⊥ = c.requires.clear.0 in
    let past : length c.self.inside.seats.seats ≤ c.args.block.0 → ⊥ = rw (← c.self.view_is, length-map) at there in
    omega (arith, past)

pub overflow_add-self : goal.overflow_add-self
overflow_add-self g c =
    let clear : NoneHolds (order (state_of c.self.inside) (Issue c.args.block.0)) = rw (← c.self.view_is) at c.requires.clear in
    let full : max_ticket ≤ c.self.inside.tickets → ⊥ = clear.1.1.1.1.1.0 in
    omega (arith, full)

pub launch-job-requires-clause-within : goal.launch-job-requires-clause-within
launch-job-requires-clause-within g c =
    let s = (goal.at.launch-job-requires-clause-within g c).After-seat in
    slice_get_within c.self.inside.seats.seats _ _ c.seat.ensures.at

pub launch-job-requires-clause-ready : goal.launch-job-requires-clause-ready
launch-job-requires-clause-ready g c =
    let s = (goal.at.launch-job-requires-clause-ready g c).After-seat in
    λ seat at_b. may_go_out c.self.inside (may g s seat at_b) (image g s)

pub seat-requires-2 : goal.seat-requires-2
seat-requires-2 g c =
    let s = (goal.at.seat-requires-2 g c).After-seat in
    let left = c.launch-job.ensures.sent c.seat.result.now _ c.seat.ensures.at (loaded g s) in
    let within = slice_get_within c.self.inside.seats.seats _ _ c.seat.ensures.at in
    rw (left, length-set) within

pub overflow_sub-self : goal.overflow_sub-self
overflow_sub-self g c =
    let s = (goal.at.overflow_sub-self g c).After-seat in
    let left = c.launch-job.ensures.sent c.seat.result.now _ c.seat.ensures.at (loaded g s) in
    let here : c.seat-2.result.now ≡ after g s = same_Some _ _ (sym c.seat-2.ensures.at ∙ (ap (λ (v : SeatsView). slice_get v.seats c.args.block.0) left ∙ set_here c.self.inside.seats.seats c.args.block.0 c.seat.result.now c.seat.ensures.at (after g s))) in
    let old : c.undo_bytes-before.result ≡ undo_of c.seat.result.now = c.undo_bytes-before.ensures in
    let new : c.undo_bytes.result ≡ undo_of (after g s) = c.undo_bytes.ensures ∙ ap undo_of here in
    let fewer = undo_left c.args.chosen.items c.seat.result.now (after g s) _ _ (loaded g s) refl in
    omega (arith, fewer, old, new)

pub overflow_sub-self-2 : goal.overflow_sub-self-2
overflow_sub-self-2 g c =
    let s = (goal.at.overflow_sub-self-2 g c).After-seat in
    let left = c.launch-job.ensures.sent c.seat.result.now _ c.seat.ensures.at (loaded g s) in
    let here : c.seat-2.result.now ≡ after g s = same_Some _ _ (sym c.seat-2.ensures.at ∙ (ap (λ (v : SeatsView). slice_get v.seats c.args.block.0) left ∙ set_here c.self.inside.seats.seats c.args.block.0 c.seat.result.now c.seat.ensures.at (after g s))) in
    let old : c.undo_bytes-before.result ≡ undo_of c.seat.result.now = c.undo_bytes-before.ensures in
    let new : c.undo_bytes.result ≡ undo_of (after g s) = c.undo_bytes.ensures ∙ ap undo_of here in
    let most = undo_within c.self.inside.seats.seats c.args.block.0 c.seat.result.now (after g s) c.seat.ensures.at in
    omega (arith, most, old, new, c.self.invariant.undoing)

pub invariant_of-self : goal.invariant_of-self
invariant_of-self g c =
    let s = (goal.at.invariant_of-self g c).After-seat in
    let left = c.launch-job.ensures.sent c.seat.result.now _ c.seat.ensures.at (loaded g s) in
    let here : c.seat-2.result.now ≡ after g s = same_Some _ _ (sym c.seat-2.ensures.at ∙ (ap (λ (v : SeatsView). slice_get v.seats c.args.block.0) left ∙ set_here c.self.inside.seats.seats c.args.block.0 c.seat.result.now c.seat.ensures.at (after g s))) in
    let old : c.undo_bytes-before.result ≡ undo_of c.seat.result.now = c.undo_bytes-before.ensures in
    let new : c.undo_bytes.result ≡ undo_of (after g s) = c.undo_bytes.ensures ∙ ap undo_of here in
    let fewer = undo_left c.args.chosen.items c.seat.result.now (after g s) _ _ (loaded g s) refl in
    let launched : Launches c.self.inside.graph (numbers_of c.args.chosen.items) c.launch.new.self = rw c.deref.ensures.value at c.launch.ensures.launched in
    let r = undo_put c.self.inside.seats.seats c.args.block.0 c.seat.result.now (after g s) c.seat.ensures.at in
    rw left (kept_sent c.self.inside (sends g s) (image g s) launched _ (omega (arith, fewer, old, new, r, c.self.invariant.undoing)))

pub returns-clause-step : goal.returns-clause-step
returns-clause-step g c =
    let s = (goal.at.returns-clause-step g c).After-seat in
    let left = c.launch-job.ensures.sent c.seat.result.now _ c.seat.ensures.at (loaded g s) in
    let launched : Launches c.self.inside.graph (numbers_of c.args.chosen.items) c.launch.new.self = rw c.deref.ensures.value at c.launch.ensures.launched in
    let state = state_sent c.self.inside (sends g s) (image g s) launched c.self.inside.undo in
    rw (← c.self.view_is, c.launch-job.ensures.ticket, c.launch-job.ensures.block, c.launch-job.ensures.image, left, state)
    (step_sent c.self.inside (sends g s) (image g s))

pub returns-clause-faults : goal.returns-clause-faults
returns-clause-faults g c =
    let s = (goal.at.returns-clause-faults g c).After-seat in
    let left = c.launch-job.ensures.sent c.seat.result.now _ c.seat.ensures.at (loaded g s) in
    rw (← c.self.view_is, left) (map-set (λ (x : SeatView). x.faults) c.self.inside.seats.seats c.args.block.0 _)

pub returns-clause-resident : goal.returns-clause-resident
returns-clause-resident g c =
    let s = (goal.at.returns-clause-resident g c).After-seat in
    let left = c.launch-job.ensures.sent c.seat.result.now _ c.seat.ensures.at (loaded g s) in
    rw (← c.self.view_is, left) (same_listed c.self.inside.seats.seats c.args.block.0 c.seat.result.now c.seat.ensures.at (λ (x : SeatView). is_some x.loaded) _ (sent_loaded c.self.inside (sends g s) (image g s)))

pub returns-clause-back : goal.returns-clause-back
returns-clause-back g c =
    let s = (goal.at.returns-clause-back g c).After-seat in
    let left = c.launch-job.ensures.sent c.seat.result.now _ c.seat.ensures.at (loaded g s) in
    rw (← c.self.view_is, left) (same_listed c.self.inside.seats.seats c.args.block.0 c.seat.result.now c.seat.ensures.at (λ (x : SeatView). x.back) _ refl)

pub returns-clause-held : goal.returns-clause-held
returns-clause-held g c =
    let s = (goal.at.returns-clause-held g c).After-seat in
    let slot = c.launch-job.ensures.slot c.seat.result.now c.seat.ensures.at in
    let committed = ap (λ (v : BlockState). v.committed) (block_is c.self.inside (sends g s)) in
    rw (← c.self.view_is) (slot.1 ∙ sym committed)

pub returns-clause-before : goal.returns-clause-before
returns-clause-before g c =
    let s = (goal.at.returns-clause-before g c).After-seat in
    let slot = c.launch-job.ensures.slot c.seat.result.now c.seat.ensures.at in
    let committed = ap (λ (v : BlockState). v.committed) (block_is c.self.inside (sends g s)) in
    rw (← c.self.view_is) (slot.0 ∙ sym committed)

pub returns-clause-slot_faults : goal.returns-clause-slot_faults
returns-clause-slot_faults g c =
    let s = (goal.at.returns-clause-slot_faults g c).After-seat in
    let slot = c.launch-job.ensures.slot c.seat.result.now c.seat.ensures.at in
    rw (← c.self.view_is) (slot.2 ∙ sym (listed c.self.inside.seats.seats c.args.block.0 c.seat.result.now c.seat.ensures.at (λ (t : SeatView). t.faults) 0))
