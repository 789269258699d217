use Rattle.std.proofs.Common.{◌≡◌, ◌∙◌, ◌<◌, ◌≤◌, ◌↔◌, ◌+◌, Option, Some, None, false, is_some, length, slice_get, slice_set, refl, sym, ap, subst, arith}
use Rattle.std.proofs.lemmas.Bool.{true≢false}
use Rattle.std.proofs.lemmas.Option.{none-some, slice_get_read, same_Some}
use Rattle.fst_types.specs.Limits.{max_tries}
use Rattle.fst_types.specs.declared.settled.Settled.TheVariants as how
use Rattle.fst_types.specs.State.{Flight}
use Rattle.fst_seat.specs.Places.{ResidentsView}
use Rattle.fst_seat.specs.Seats.{SeatView, back_view, tries_of}
use Rattle.fst_seat.specs.Writing.{IsOutOf, come_home, waits}
use Rattle.fst_seat.proofs.Dirty.{flown_dirty}
use Rattle.fst_seat.proofs.Listing.{listed_at}
use Rattle.fst_seat.proofs.InStep.{in_step_same, in_step_landed, loaded_out, some_flying}
use Rattle.fst_seat.proofs.seats.Seats.settle.Goals.{After-index_mut-seat, In-Landed, In_default}
use Rattle.fst_seat.proofs.seats.Seats.settle.Goals as goal

-- the block's seat
seated : (g : _) (c : After-index_mut-seat g) → slice_get c.self.inside.seats.items c.args.done.block ≡ Some c.index_mut-seat.result.now
seated g c =
    let within : c.args.done.block < length c.self.inside.seats.items = rw (← c.self.view_is) at c.requires.within in
    slice_get_read c.self.inside.seats.items _ _ _ refl within (rw c.block-at.ensures at c.index_mut-seat.ensures.value)

out : (g : _) (c : After-index_mut-seat g) → IsOutOf c.index_mut-seat.result.now c.args.done.ticket c.args.done.image
out g c = c.requires.out c.index_mut-seat.result.now (rw (← c.self.view_is) (seated g c))

-- it is in memory, since its write is out
away : (g : _) (c : After-index_mut-seat g) {P : Type 0} → c.index_mut-seat.result.now.loaded ≡ None → P
away g c none = absurd (none-some _ (sym (c.self.invariant.rest _ _ (seated g c) none) ∙ (out g c).out))

pub settle-requires-clause-out : goal.settle-requires-clause-out
settle-requires-clause-out g c = out g (goal.at.settle-requires-clause-out g c).After-index_mut-seat

pub settle-requires-clause-block : goal.settle-requires-clause-block
settle-requires-clause-block g c = sym (c.self.invariant.placed _ _ (seated g (goal.at.settle-requires-clause-block g c).After-index_mut-seat))

pub note_dirty-requires : goal.note_dirty-requires
note_dirty-requires g c =
    let at = (goal.at.note_dirty-requires g c).After-index_mut-seat in
    let there = loaded_out c.self.invariant c.args.done.block (seated g at) (out g at).out in
    rw c.block-at.ensures (listed_at c.self.inside.residents.loaded c.self.inside.seats.items c.args.done.block _ (ap (λ (v : ResidentsView). v.loaded) c.self.invariant.listed) (seated g at) ∙ ap Some there)

pub overflow_sub-self : goal.overflow_sub-self
overflow_sub-self g c =
    let at = (goal.at.overflow_sub-self g c).After-index_mut-seat in
    let some = some_flying c.self.invariant c.args.done.block (seated g at) (out g at).out in
    omega (arith, some)

-- the write was made
landed : (g : _) (c : In-Landed g) → c.settle.new.self ≡ come_home c.index_mut-seat.result.now c.args.done.image (g.S.BlockSlot.faults c.args.done.slot)
landed g c = c.settle.ensures.landed (c.settle.ensures.written.0 c.in-Landed.is)

pub invariant_of-self : goal.invariant_of-self
invariant_of-self g c =
    let all = goal.at.invariant_of-self g c in
    let at = all.After-index_mut-seat in
    let l = landed g all.In-Landed in
    rw (c.note_dirty.ensures, c.block-at.ensures)
    (in_step_landed c.self.invariant c.args.done.block c.settle.new.self (seated g at)
    (ap (λ (t : SeatView). t.place) l) (λ none. ap (λ (t : SeatView). t.block.flight) l)
    (ap (λ (t : SeatView). is_some t.loaded) l) c.is_dirty.result _ c.is_dirty.ensures (out g at).out (ap (λ (t : SeatView). t.block.flight) l))

pub returns-in-Landed-clause-landed : goal.returns-in-Landed-clause-landed
returns-in-Landed-clause-landed g c =
    let all = goal.at.returns-in-Landed-clause-landed g c in
    let is = seated g all.After-index_mut-seat in
    let l = landed g all.In-Landed in
    rw (← c.self.view_is, c.note_dirty.ensures, c.block-at.ensures)
    (λ made seat there. ap (λ (t : SeatView). record { most = c.self.inside.residents.most; seats = slice_set c.self.inside.seats.items c.args.done.block t })
    (l ∙ ap (λ (t : SeatView). come_home t c.args.done.image (g.S.BlockSlot.faults c.args.done.slot)) (same_Some _ _ (sym is ∙ there))))

-- it failed
failed : (g : _) (c : In_default g) → (c.args.done.written ≡ false) × (c.settle.new.self ≡ waits c.index_mut-seat.result.now c.args.done.ticket c.args.done.image (tries_of c.index_mut-seat.result.now.block.flight) (Some (back_view c.args.done.before (g.S.BlockSlot.held c.args.done.slot) (g.S.BlockSlot.faults c.args.done.slot))))
failed g c =
    let w : c.args.done.written ≡ false = grind (arith, c.settle.ensures.written, c.in_default.not-Landed) in
    (w, c.settle.ensures.failed w)

pub invariant_of-self-in_default : goal.invariant_of-self-in_default
invariant_of-self-in_default g c =
    let all = goal.at.invariant_of-self-in_default g c in
    let at = all.After-index_mut-seat in
    let l = failed g all.In_default in
    rw (l.1, c.block-at.ensures)
    (in_step_same c.self.invariant c.args.done.block _ (seated g at) refl (away g at)
    refl (sym (flown_dirty c.index_mut-seat.result.now _ (out g at).out)) (sym (ap (λ (o : Option Flight). is_some o) (out g at).out)))

pub returns-in_default : goal.returns-in_default
returns-in_default g c =
    let all = goal.at.returns-in_default g c in
    let is = seated g all.After-index_mut-seat in
    let l = failed g all.In_default in
    record {
      written = c.settle.ensures.written;
      landed = λ made. absurd (true≢false (sym made ∙ l.0));
      failed = rw (← c.self.view_is, c.block-at.ensures) (λ not seat there. ap (λ (t : SeatView). record { most = c.self.inside.residents.most; seats = slice_set c.self.inside.seats.items c.args.done.block t })
          (l.1 ∙ ap (λ (t : SeatView). waits t c.args.done.ticket c.args.done.image (tries_of t.block.flight) (Some (back_view c.args.done.before (g.S.BlockSlot.held c.args.done.slot) (g.S.BlockSlot.faults c.args.done.slot)))) (same_Some _ _ (sym is ∙ there))));
      lost = rw (← c.self.view_is) (λ not seat there. subst (λ (t : SeatView). (c.settle.result ≡ how.Lost) ↔ (max_tries ≤ tries_of t.block.flight + 1)) (same_Some _ _ (sym is ∙ there)) (c.settle.ensures.lost not));
    }
