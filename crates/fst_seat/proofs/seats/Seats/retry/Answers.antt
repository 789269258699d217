use Rattle.std.proofs.Common.{◌≡◌, ◌∙◌, ◌<◌, Option, Some, is_some, length, slice_get, slice_set, refl, sym, ap}
use Rattle.std.proofs.lemmas.Option.{none-some, slice_get_read, same_Some}
use Rattle.fst_types.specs.State.{Flight}
use Rattle.fst_seat.specs.Seats.{SeatView}
use Rattle.fst_seat.specs.Writing.{MayGoAgain, tried_again}
use Rattle.fst_seat.proofs.Dirty.{flown_dirty}
use Rattle.fst_seat.proofs.InStep.{in_step_same}
use Rattle.fst_seat.proofs.seats.Seats.retry.Goals.{After-index_mut-seat, After-retry}
use Rattle.fst_seat.proofs.seats.Seats.retry.Goals as goal

-- the block's seat
seated : (g : _) (c : After-index_mut-seat g) → slice_get c.self.inside.seats.items c.args.block.0 ≡ Some c.index_mut-seat.result.now
seated g c =
    let within : c.args.block.0 < length c.self.inside.seats.items = rw (← c.self.view_is) at c.requires.within in
    slice_get_read c.self.inside.seats.items _ _ _ refl within c.index_mut-seat.ensures.value

stalled : (g : _) (c : After-index_mut-seat g) → MayGoAgain c.index_mut-seat.result.now
stalled g c = c.requires.stalled c.index_mut-seat.result.now (rw (← c.self.view_is) (seated g c))

-- as its write left it
left : (g : _) (c : After-retry g) (f : Flight) → c.index_mut-seat.result.now.block.flight ≡ Some f
    → (c.retry.result.image ≡ f.image) × (c.retry.new.self ≡ tried_again c.index_mut-seat.result.now c.args.ticket.0 f.image f.failed)
left g c f out = rw out at c.retry.ensures.image

pub retry-requires : goal.retry-requires
retry-requires g c = stalled g (goal.at.retry-requires g c).After-index_mut-seat

pub invariant_of-self : goal.invariant_of-self
invariant_of-self g c =
    let at = goal.at.invariant_of-self g c in
    let s = stalled g at.After-index_mut-seat in
    let is = seated g at.After-index_mut-seat in
    rw (left g at.After-retry s.flight s.out).1
    (in_step_same c.self.invariant c.args.block.0 _ is refl (λ away. absurd (none-some _ (sym (c.self.invariant.rest _ _ is away) ∙ s.out)))
    refl (sym (flown_dirty c.index_mut-seat.result.now s.flight s.out)) (sym (ap (λ (o : Option Flight). is_some o) s.out)))

pub returns-clause-block : goal.returns-clause-block
returns-clause-block g c = c.retry.ensures.block ∙ c.self.invariant.placed _ _ (seated g (goal.at.returns-clause-block g c).After-index_mut-seat)

pub returns-clause-image : goal.returns-clause-image
returns-clause-image g c =
    let at = goal.at.returns-clause-image g c in
    let is = seated g at.After-index_mut-seat in
    rw (← c.self.view_is)
    (λ seat flight there out.
    let same : c.index_mut-seat.result.now ≡ seat = same_Some _ _ (sym is ∙ there) in
    let k = left g at.After-retry flight (ap (λ (t : SeatView). t.block.flight) same ∙ out) in
    (k.0, ap (λ (t : SeatView). record { most = c.self.inside.residents.most; seats = slice_set c.self.inside.seats.items c.args.block.0 t }) (k.1 ∙ ap (λ (t : SeatView). tried_again t c.args.ticket.0 flight.image flight.failed) same)))

pub returns-clause-back : goal.returns-clause-back
returns-clause-back g c =
    let is = seated g (goal.at.returns-clause-back g c).After-index_mut-seat in
    rw (← c.self.view_is) (λ seat there. ap (λ (t : SeatView). t.back) (same_Some _ _ (sym there ∙ is)) ∙ c.retry.ensures.back)
