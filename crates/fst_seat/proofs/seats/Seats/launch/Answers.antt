use Rattle.std.proofs.lemmas.Grind.{common_steps}
use Rattle.std.proofs.Common.{◌≡◌, ◌∙◌, ◌<◌, Some, false, is_some, length, slice_get, slice_set, refl, sym, ap, subst, arith}
use Rattle.std.proofs.lemmas.Option.{none-some, slice_get_read, same_Some}
use Rattle.fst_block.specs.BlockView.{BlockView}
use Rattle.fst_seat.specs.Seats.{SeatView, flight_view}
use Rattle.fst_seat.specs.Writing.{MayGoOut, sent}
use Rattle.fst_seat.proofs.InStep.{in_step_sent}
use Rattle.fst_seat.proofs.seats.Seats.launch.Goals.{After-index_mut-seat, After-launch}
use Rattle.fst_seat.proofs.seats.Seats.launch.Goals as goal

-- the block's seat
seated : (g : _) (c : After-index_mut-seat g) → slice_get c.self.inside.seats.items c.args.block.0 ≡ Some c.index_mut-seat.result.now
seated g c =
    let within : c.args.block.0 < length c.self.inside.seats.items = rw (← c.self.view_is) at c.requires.within in
    slice_get_read c.self.inside.seats.items _ _ _ refl within c.index_mut-seat.ensures.value

ready : (g : _) (c : After-index_mut-seat g) → MayGoOut c.index_mut-seat.result.now c.args.chosen.items c.args.image.items
ready g c = c.requires.ready c.index_mut-seat.result.now (rw (← c.self.view_is) (seated g c))

-- as its write left it
left : (g : _) (c : After-launch g) (r : MayGoOut c.index_mut-seat.result.now c.args.chosen.items c.args.image.items) → c.launch.new.self ≡ sent c.index_mut-seat.result.now r.view c.args.ticket.0 c.args.chosen.items c.args.image.items
left g c r = rw r.there at c.launch.ensures.seat

pub launch-requires-clause-ready : goal.launch-requires-clause-ready
launch-requires-clause-ready g c = ready g c

pub invariant_of-self : goal.invariant_of-self
invariant_of-self g c =
    let at = (goal.at.invariant_of-self g c).After-index_mut-seat in
    let r = ready g at in
    rw (left g (goal.at.invariant_of-self g c).After-launch r)
    (in_step_sent c.self.invariant c.args.block.0 _ (seated g at) refl (λ none. absurd (none-some _ (sym none)))
    (sym (ap is_some r.there)) (sym r.dirty) (flight_view c.args.ticket.0 c.args.image.items false 0) r.home refl)

pub returns-clause-block : goal.returns-clause-block
returns-clause-block g c = c.launch.ensures.block ∙ c.self.invariant.placed _ _ (seated g (goal.at.returns-clause-block g c).After-index_mut-seat)

pub returns-clause-slot : goal.returns-clause-slot
returns-clause-slot g c =
    let is = seated g (goal.at.returns-clause-slot g c).After-index_mut-seat in
    rw (← c.self.view_is)
    (λ seat there. subst (λ (t : SeatView). (c.launch.result.before ≡ t.block.committed) × (g.S.BlockSlot.held c.launch.result.slot ≡ t.block.committed) × (g.S.BlockSlot.faults c.launch.result.slot ≡ t.faults)) (same_Some _ _ (sym is ∙ there))
    (c.launch.ensures.before, c.launch.ensures.held, c.launch.ensures.faults))

pub returns-clause-sent : goal.returns-clause-sent
returns-clause-sent g c =
    let at = goal.at.returns-clause-sent g c in
    let r = ready g at.After-index_mut-seat in
    let is = seated g at.After-index_mut-seat in
    rw (← c.self.view_is)
    (λ seat view there loaded.
    let same : c.index_mut-seat.result.now ≡ seat = same_Some _ _ (sym is ∙ there) in
    let views : r.view ≡ view = same_Some _ _ (sym r.there ∙ (ap (λ (t : SeatView). t.loaded) same ∙ loaded)) in
    ap (λ (t : SeatView). record { most = c.self.inside.residents.most; seats = slice_set c.self.inside.seats.items c.args.block.0 t })
    (left g at.After-launch r ∙ (ap (λ (t : SeatView). sent t r.view c.args.ticket.0 c.args.chosen.items c.args.image.items) same ∙ ap (λ (v : BlockView). sent seat v c.args.ticket.0 c.args.chosen.items c.args.image.items) views)))

pub overflow_add-self : goal.overflow_add-self
overflow_add-self g c = grind (arith, common_steps)
