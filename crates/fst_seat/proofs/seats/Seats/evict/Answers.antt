use Rattle.std.proofs.Common.{◌≡◌, ◌∙◌, ◌<◌, Some, None, false, length, slice_get, slice_set, refl, sym, ap}
use Rattle.std.proofs.lemmas.Option.{slice_get_read, same_Some}
use Rattle.fst_seat.specs.Seats.{SeatView, is_dirty_seat}
use Rattle.fst_seat.specs.Places.{ResidentsView}
use Rattle.fst_seat.proofs.Dirty.{left_clean}
use Rattle.fst_seat.proofs.Exchanging.{get_map}
use Rattle.fst_seat.proofs.Loading.{still_home}
use Rattle.fst_seat.proofs.InStep.{in_step_moved}
use Rattle.fst_seat.proofs.seats.Seats.evict.Goals.{After-index_mut}
use Rattle.fst_seat.proofs.seats.Seats.evict.Goals as goal

-- the block's seat
seated : (g : _) (c : After-index_mut g) → slice_get c.self.inside.seats.items c.args.block.0 ≡ Some c.index_mut.result.now
seated g c =
    let within : c.args.block.0 < length c.self.inside.seats.items = rw (← c.self.view_is) at c.requires.within in
    slice_get_read c.self.inside.seats.items _ _ _ refl within c.index_mut.ensures.value

clean : (g : _) (c : After-index_mut g) → is_dirty_seat c.index_mut.result.now ≡ false
clean g c = c.requires.clean c.index_mut.result.now (rw (← c.self.view_is) (seated g c))

pub remove-requires : goal.remove-requires
remove-requires g c =
    let at = (goal.at.remove-requires g c).After-index_mut in
    ap (λ (v : ResidentsView). slice_get v.dirty c.args.block.0) c.self.invariant.listed ∙ get_map is_dirty_seat c.self.inside.seats.items c.args.block.0 c.index_mut.result.now (seated g at) ∙ ap Some (clean g at)

pub invariant_of-self : goal.invariant_of-self
invariant_of-self g c =
    let is = seated g (goal.at.invariant_of-self g c).After-index_mut in
    let still = clean g (goal.at.invariant_of-self g c).After-index_mut in
    rw (c.remove.ensures, c.unload.ensures)
    (in_step_moved c.self.invariant c.args.block.0 (record c.index_mut.result.now { loaded = None }) is refl
    (λ away. still_home c.index_mut.result.now still) false refl (left_clean c.index_mut.result.now still ∙ sym still) refl)

pub returns : goal.returns
returns g c =
    let is = seated g (goal.at.returns g c).After-index_mut in
    rw (← c.self.view_is, c.remove.ensures)
    (λ seat there. ap (λ (t : SeatView). record { most = c.self.inside.residents.most; seats = slice_set c.self.inside.seats.items c.args.block.0 t })
    (c.unload.ensures ∙ ap (λ (t : SeatView). record t { loaded = None }) (same_Some _ _ (sym is ∙ there))))
