use Rattle.std.proofs.Common.{◌≡◌, ◌∙◌, Some, IsSome, is_some, slice_get, refl, sym, ap, subst, arith}
use Rattle.std.proofs.lemmas.Option.{none-some, slice_get_within, slice_get_read, same_Some}
use Rattle.std.proofs.lemmas.Result.{on_ok_weaker}
use Rattle.fst_block.specs.BlockView.{BlockView}
use Rattle.fst_seat.specs.Places.{ResidentsView}
use Rattle.fst_seat.specs.Seats.{SeatView}
use Rattle.fst_seat.specs.Residing.{IsLoadedAt, MayLoad}
use Rattle.fst_seat.proofs.Seated.{same_listed}
use Rattle.fst_seat.proofs.Listing.{listed_at}
use Rattle.fst_seat.proofs.Putting.{on_refusal, memory_kind, not_device, not_failed, inside_of, newest_of, puts_of, same_load, seat_after, counts_after}
use Rattle.fst_seat.proofs.InStep.{in_step_marked}
use Rattle.fst_seat.proofs.seats.Seats.put.Goals.{After-index_mut-seat, After-apply-put}
use Rattle.fst_seat.proofs.seats.Seats.put.Goals as goal

-- the block's seat, which is in memory after the load
there : (g : _) (c : After-index_mut-seat g) → IsLoadedAt c.self.inside.seats.items c.args.block.0
there g c = rw (← c.self.view_is) at c.in_ok-load.ensures.there

seated : (g : _) (c : After-index_mut-seat g) → slice_get c.self.inside.seats.items c.args.block.0 ≡ Some c.index_mut-seat.result.now
seated g c = slice_get_read c.self.inside.seats.items _ _ _ refl (slice_get_within c.self.inside.seats.items _ _ (there g c).at) c.index_mut-seat.ensures.value

loaded : (g : _) (c : After-index_mut-seat g) → IsSome c.index_mut-seat.result.now.loaded
loaded g c = let t = there g c in subst (λ (s : SeatView). IsSome s.loaded) (same_Some _ _ (sym t.at ∙ seated g c)) t.there

read : (g : _) (c : After-index_mut-seat g) → MayLoad c.args.self.now.most c.args.self.now.seats c.args.block.0 c.self.inside.seats.items
read g c = rw (← c.self.view_is) at c.load.ensures.seats

-- and after the patch was put, or refused
left : (g : _) (c : After-apply-put g) → IsSome c.index_mut-seat.result.now.loaded → (view : BlockView) × (c.apply-put.new.self ≡ record c.index_mut-seat.result.now { loaded = Some view })
left g c loaded = seat_after c.index_mut-seat.result.now c.apply-put.result _ c.apply-put.new.self loaded c.apply-put.ensures.applied c.apply-put.ensures.unchanged

pub index_mut-seat-requires : goal.index_mut-seat-requires
index_mut-seat-requires g c =
    let t : IsLoadedAt c.self.inside.seats.items c.args.block.0 = rw (← c.self.view_is) at c.in_ok-load.ensures.there in
    let within = slice_get_within c.self.inside.seats.items _ _ t.at in
    omega (arith, within, c.self.inside.seats.ok.0)

pub apply-put-requires-clause-loaded : goal.apply-put-requires-clause-loaded
apply-put-requires-clause-loaded g c =
    let all = goal.at.apply-put-requires-clause-loaded g c in
    let at = all.After-index_mut-seat in
    loaded g at

pub apply-put-requires-clause-inside : goal.apply-put-requires-clause-inside
apply-put-requires-clause-inside g c =
    let all = goal.at.apply-put-requires-clause-inside g c in
    let at = all.After-index_mut-seat in
    inside_of c.args.self.now.most c.args.self.now.seats c.self.inside.seats.items c.args.block.0 _ (seated g at) _ (read g at) c.requires.inside

pub apply-put-requires-clause-newest : goal.apply-put-requires-clause-newest
apply-put-requires-clause-newest g c =
    let all = goal.at.apply-put-requires-clause-newest g c in
    let at = all.After-index_mut-seat in
    newest_of c.args.self.now.most c.args.self.now.seats c.self.inside.seats.items c.args.block.0 _ (seated g at) _ (read g at) c.requires.newest

pub note_dirty-requires : goal.note_dirty-requires
note_dirty-requires g c =
    let all = goal.at.note_dirty-requires g c in
    let at = all.After-index_mut-seat in
    listed_at c.self.inside.residents.loaded c.self.inside.seats.items c.args.block.0 _ (ap (λ (v : ResidentsView). v.loaded) c.self.invariant.listed) (seated g at) ∙ ap Some (loaded g at)

pub invariant_of-self : goal.invariant_of-self
invariant_of-self g c =
    let all = goal.at.invariant_of-self g c in
    let at = all.After-index_mut-seat in
    let l = (left g all.After-apply-put (loaded g at)).1 in
    rw c.note_dirty.ensures
    (in_step_marked c.self.invariant c.args.block.0 c.apply-put.new.self (seated g at) (ap (λ (t : SeatView). t.place) l)
    (λ none. absurd (none-some _ (sym none ∙ ap (λ (t : SeatView). t.loaded) l))) (ap (λ (t : SeatView). is_some t.loaded) l ∙ sym (loaded g at)) c.is_dirty.result c.is_dirty.ensures (ap (λ (t : SeatView). is_some t.block.flight) l))

pub returns-clause-put : goal.returns-clause-put
returns-clause-put g c =
    let all = goal.at.returns-clause-put g c in
    let at = all.After-index_mut-seat in
    on_ok_weaker c.apply-put.result (puts_of c.args.self.now.most c.args.self.now.seats c.self.inside.seats.items c.args.block.0 _ (seated g at) _ c.apply-put.new.self (read g at) (loaded g at)) c.apply-put.ensures.applied

pub returns-clause-refused : goal.returns-clause-refused
returns-clause-refused g c =
    let all = goal.at.returns-clause-refused g c in
    let at = all.After-index_mut-seat in
    λ err. same_load c.args.self.now.most c.args.self.now.seats c.self.inside.seats.items c.args.block.0 _ (seated g at) c.apply-put.new.self (read g at) (on_refusal c.apply-put.result err c.apply-put.ensures.unchanged)

pub returns-clause-away : goal.returns-clause-away
returns-clause-away g c = λ device. absurd (not_device c.apply-put.result c.apply-put.ensures.only_memory device)

pub returns-clause-one_fault : goal.returns-clause-one_fault
returns-clause-one_fault g c =
    let all = goal.at.returns-clause-one_fault g c in
    let at = all.After-index_mut-seat in
    let same = same_listed c.self.inside.seats.items c.args.block.0 _ (seated g at) (λ (t : SeatView). t.faults) c.apply-put.new.self (ap (λ (t : SeatView). t.faults) (left g all.After-apply-put (loaded g at)).1) in
    counts_after _ _ _ c.args.block.0 same (rw (← c.self.view_is) at c.load.ensures.one_fault)

pub returns-clause-no_fault : goal.returns-clause-no_fault
returns-clause-no_fault g c =
    let all = goal.at.returns-clause-no_fault g c in
    let at = all.After-index_mut-seat in
    let same = same_listed c.self.inside.seats.items c.args.block.0 _ (seated g at) (λ (t : SeatView). t.faults) c.apply-put.new.self (ap (λ (t : SeatView). t.faults) (left g all.After-apply-put (loaded g at)).1) in
    λ fine. same ∙ (rw (← c.self.view_is) at (c.in_ok-load.ensures.no_fault (λ e. not_failed e)))

pub returns-clause-kinds : goal.returns-clause-kinds
returns-clause-kinds g c = memory_kind c.apply-put.result c.apply-put.ensures.only_memory
