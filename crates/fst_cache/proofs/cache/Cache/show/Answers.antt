use Rattle.std.proofs.Common.{◌≡◌, ◌<◌, ◌∙◌, length, is_some, false, Err, IsErr, subst, refl, sym, ap, inl}
use Rattle.fst_types.specs.declared.fault.Fault.{Fault}
use Rattle.std.proofs.lemmas.Result.{err_from_is_err_and}
use Rattle.std.proofs.lemmas.List.{length-map}
use Rattle.fst_types.specs.Events.{Show}
use Rattle.fst_types.specs.Order.{order}
use Rattle.fst_types.specs.Refusals.{NoneHolds}
use Rattle.fst_types.specs.Step.{accepted, refused, show}
use Rattle.fst_seat.specs.Seats.{SeatView}
use Rattle.fst_seat.proofs.Seated.{listed}
use Rattle.fst_seat.proofs.Putting.{not_failed}
use Rattle.fst_cache.specs.Kept.{state_of}
use Rattle.fst_cache.proofs.Kept.{kept_seats}
use Rattle.fst_cache.proofs.ResideSeats.{room_for}
use Rattle.fst_cache.proofs.ResideLoading.{Loaded, load_keeps, within_of}
use Rattle.fst_cache.proofs.ResideBringing.{show_not_device, refused_beside, left_beside, brought_beside, brings}
use Rattle.fst_cache.proofs.ResideShowing.{load_fault, load_kind, step_not_loaded}
use Rattle.fst_cache.proofs.cache.Cache.show.Goals.{In_default, After-load}
use Rattle.fst_cache.proofs.cache.Cache.show.Goals as goal

clear : (g : _) (c : In_default g) → NoneHolds (order (state_of c.self.inside) (Show c.args.block.0 false))
clear g c = rw (← c.self.view_is) at c.in_default.ensures

within : (g : _) (c : In_default g) → c.args.block.0 < length c.self.inside.seats.seats
within g c = within_of (length c.self.inside.seats.seats) c.args.block.0 (rw length-map at (clear g c).0)

-- what the load left
loaded : (g : _) (c : After-load g) → Loaded c.self.inside c.args.block.0 c.load.new.self.seats
loaded g c = load_keeps c.self.inside c.self.invariant c.args.block.0 c.load.new.self.seats c.load.ensures.seats

pub returns-in-Some : goal.returns-in-Some
returns-in-Some g c =
    let beside = refused_beside c.args.self.now c.args.self.now c.args.block.0 c.in-Some.fault (show_not_device c.args.self.now.state c.args.block.0 false c.in-Some.fault c.in-Some.ensures) refl refl refl refl in
    ((refl, (λ _. tt), (refl, beside, refused (inl c.in-Some.ensures))), record { after = tt })

pub load-requires-clause-within : goal.load-requires-clause-within
load-requires-clause-within g c = within g (goal.at.load-requires-clause-within g c).In_default

pub load-requires-clause-room : goal.load-requires-clause-room
load-requires-clause-room g c =
    let at = (goal.at.load-requires-clause-room g c).In_default in
    λ seat at_b away. room_for c.self.inside c.self.invariant c.args.block.0 seat at_b (clear g at).1.0 away

pub invariant_of-self : goal.invariant_of-self
invariant_of-self g c = kept_seats c.self.inside c.load.new.self c.load.ensures.most (loaded g (goal.at.invariant_of-self g c).After-load).kept

pub invariant_of-self-2 : goal.invariant_of-self-2
invariant_of-self-2 g c = kept_seats c.self.inside c.load.new.self c.load.ensures.most (loaded g (goal.at.invariant_of-self-2 g c).After-load).kept

pub bytes-requires-clause-within : goal.bytes-requires-clause-within
bytes-requires-clause-within g c =
    let at = goal.at.bytes-requires-clause-within g c in
    rw ((loaded g at.After-load).blocks, length-map) (within g at.In_default)

pub bytes-requires-clause-resident : goal.bytes-requires-clause-resident
bytes-requires-clause-resident g c =
    let there = c.in_ok-load.ensures.there in
    (listed c.load.new.self.seats c.args.block.0 there.seat there.at (λ (t : SeatView). is_some t.loaded) false ∙ there.there)

pub returns : goal.returns
returns g c =
    let at = goal.at.returns g c in
    let L = loaded g at.After-load in
    let quiet = c.in_ok-load.ensures.no_fault (λ e. not_failed e) in
    let beside = brought_beside c.self.inside c.self.invariant c.load.new.self.seats _ _ refl refl refl refl (brings c.self.inside c.self.invariant c.load.ensures.seats c.in_ok-load.ensures.there) quiet L.homes L.back in
    rw (c.bytes.ensures, c.load.ensures.most, ← c.self.view_is, L.blocks) ((refl, (λ _. tt), (refl {a = state_of c.self.inside}, beside, accepted (clear g at.In_default) show)), record { after = tt })

pub returns-in_err-load : goal.returns-in_err-load
returns-in_err-load g c =
    let at = goal.at.returns-in_err-load g c in
    let L = loaded g at.After-load in
    let p = err_from_is_err_and c.from_residual.result c.from_residual.ensures.1 in
    let was : c.load.result ≡ Err c.in_err-load.field-0.0 = c.in_err-load.was in
    let loads = c.load.ensures.loads (subst IsErr (sym was) refl) in
    let away = c.load.ensures.away (subst IsErr (sym was) refl) in
    let refused_by = load_fault c.load.result c.in_err-load.field-0.0 _ was c.load.ensures.kinds c.load.ensures.device in
    let beside =
    left_beside c.self.inside c.self.invariant p.0 c.load.result _ (was ∙ ap (λ (x : Fault). Err x) (sym p.2)) refl refl refl refl L c.load.ensures.seats (rw p.2 (load_kind c.load.result c.in_err-load.field-0.0 was c.load.ensures.kinds)) (λ _. away) c.load.ensures.device
    c.load.ensures.one_fault c.load.ensures.no_fault
    in
    rw (p.1, c.load.ensures.most, ← c.self.view_is, L.blocks) (
      (
        refl,
        (λ _. tt),
        (refl {a = state_of c.self.inside}, beside, step_not_loaded c.self.inside c.self.invariant c.args.block.0 c.load.new.self.seats p.0 (clear g at.In_default) loads (rw p.2 refused_by)),
      ),
      record { after = tt },
    )
