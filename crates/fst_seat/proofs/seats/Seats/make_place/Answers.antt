use Rattle.std.proofs.Common.{◌≡◌, ◌≤◌, ◌<◌, ◌∙◌, false, None, refl, sym, ap, subst, inl, arith, count_by}
use Rattle.std.proofs.lemmas.Bool.{ltb-true, ltb-false}
use Rattle.std.proofs.lemmas.Option.{get_or_from_slice_get, slice_get_within}
use Rattle.fst_seat.specs.Seats.{SeatView, is_dirty_seat}
use Rattle.fst_seat.specs.Places.{ResidentsView, IsCleanResident}
use Rattle.fst_seat.specs.Residing.{count_loaded, IsCleanAt}
use Rattle.fst_seat.proofs.Loading.{none_clean, leaves_by, still_home}
use Rattle.fst_seat.proofs.Listing.{loaded_counted}
use Rattle.fst_seat.proofs.Dirty.{left_clean, clean_at, clean_listed}
use Rattle.fst_seat.proofs.InStep.{in_step_moved}
use Rattle.fst_seat.proofs.seats.Seats.make_place.Goals.{In-Some}
use Rattle.fst_seat.proofs.seats.Seats.make_place.Goals as goal

-- the seat of the block that is clean
found : (g : _) (c : In-Some g) → (seat : SeatView) × IsCleanAt c.self.inside.seats.items c.in-Some.block seat
found g c = clean_at c.self.inside.residents.most c.self.inside.seats.items c.in-Some.block (subst (λ (v : ResidentsView). IsCleanResident v c.in-Some.block) c.self.invariant.listed c.in-Some.ensures)

pub returns-then-has_place-clause-place : goal.returns-then-has_place-clause-place
returns-then-has_place-clause-place g c =
    let i = c.self.inside in
    let counted = loaded_counted i.residents.loaded i.seats.items (ap (λ (v : ResidentsView). v.loaded) c.self.invariant.listed) in
    let free = ltb-true _ i.residents.most (sym c.has_place.ensures ∙ c.if-has_place.true) in
    let less : count_loaded i.seats.items < i.residents.most = omega (arith, free, counted) in
    rw (← c.self.view_is) (inl (less, refl))

pub unreachable-requires : goal.unreachable-requires
unreachable-requires g c =
    let i = c.self.inside in
    let counted = loaded_counted i.residents.loaded i.seats.items (ap (λ (v : ResidentsView). v.loaded) c.self.invariant.listed) in
    let full = ltb-false _ i.residents.most (sym c.has_place.ensures ∙ c.if-has_place.false) in
    let none = none_clean i.seats.items (λ d other at_d clean. c.in_default.ensures d (subst (λ (v : ResidentsView). IsCleanResident v d) (sym c.self.invariant.listed) (clean_listed i.residents.most i.seats.items d other at_d clean))) in
    let room : count_by is_dirty_seat i.seats.items < i.residents.most = rw (← c.self.view_is) at c.requires in
    omega (arith, none, room, full, counted)

pub index_mut-requires : goal.index_mut-requires
index_mut-requires g c =
    let f = found g (goal.at.index_mut-requires g c).In-Some in
    let within = slice_get_within c.self.inside.seats.items _ _ f.1.at in
    omega (arith, within, c.self.inside.seats.ok.0)

pub invariant_of-self : goal.invariant_of-self
invariant_of-self g c =
    let f = found g (goal.at.invariant_of-self g c).In-Some in
    let same : c.index_mut.result.now ≡ f.0 = c.index_mut.ensures.value ∙ get_or_from_slice_get c.self.inside.seats.items c.in-Some.block f.0 c.index_mut.result.now f.1.at in
    rw (c.remove.ensures, c.unload.ensures ∙ ap (λ (t : SeatView). record t { loaded = None }) same)
    (in_step_moved c.self.invariant c.in-Some.block (record f.0 { loaded = None }) f.1.at refl
    (λ away. still_home f.0 f.1.block.clean) false refl (left_clean f.0 f.1.block.clean ∙ sym f.1.block.clean) refl)

pub returns-clause-place : goal.returns-clause-place
returns-clause-place g c =
    let i = c.self.inside in
    let f = found g (goal.at.returns-clause-place g c).In-Some in
    let counted = loaded_counted i.residents.loaded i.seats.items (ap (λ (v : ResidentsView). v.loaded) c.self.invariant.listed) in
    let past = ltb-false _ i.residents.most (sym c.has_place.ensures ∙ c.if-has_place.false) in
    let full : i.residents.most ≤ count_loaded i.seats.items = omega (arith, past, counted) in
    rw (← c.self.view_is) (leaves_by i.residents.most i.seats.items c.in-Some.block f.0 c.index_mut.result.now c.unload.new.self full f.1 (c.unload.ensures ∙ ap (λ (t : SeatView). record t { loaded = None }) c.index_mut.ensures.value))
