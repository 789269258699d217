use Rattle.std.proofs.Common.{◌≡◌, ◌≤◌, ◌<◌, ◌+◌, length, refl, ap, inl, inr, arith, sym}
use Rattle.std.proofs.lemmas.List.{length-map}
use Rattle.fst_types.specs.Step.{refused}
use Rattle.fst_graph.specs.Known.{Known}
use Rattle.fst_seat.specs.Residing.{MayLoad}
use Rattle.fst_seat.proofs.Putting.{not_failed}
use Rattle.fst_cache.specs.Kept.{state_of}
use Rattle.fst_cache.specs.After.{adds_after}
use Rattle.fst_cache.specs.Making.{MayHold}
use Rattle.fst_cache.proofs.SameRefused.{kept_unprepared, step_unprepared}
use Rattle.fst_cache.proofs.ResideSeats.{room_for}
use Rattle.fst_cache.proofs.ResideLoading.{Loaded, load_keeps, within_of}
use Rattle.fst_cache.proofs.MakeReady.{as_long, newest, kept_ready}
use Rattle.fst_cache.proofs.MakeStep.{IsPut}
use Rattle.fst_cache.proofs.MakeAfter.{after_changed, after_kept, after_left, after_refused, span_refused}
use Rattle.fst_cache.proofs.MakeBeside.{homes_made, back_made}
use Rattle.fst_cache.proofs.ResideUndo.{undo_is, undo_short}
use Rattle.fst_cache.proofs.ResideBringing.{span_not_device, after_not_device, refused_beside, left_beside, brought_beside, brings_put}
use Rattle.fst_cache.proofs.ResideShowing.{faults_of, load_fault, load_kind}
use Rattle.fst_cache.proofs.cache.Cache.change.Goals.{In_default, In-Err-put, After-undo_bytes}
use Rattle.fst_cache.proofs.cache.Cache.change.Goals as goal

-- no rule that looks at the block alone refuses
may_hold : (g : _) (c : In_default g) → MayHold (state_of c.self.inside) c.args.share.now c.args.block.0 c.args.at c.args.bytes.now
may_hold g c = rw (← c.self.view_is) at c.in_default.ensures

within : (g : _) (c : In_default g) → c.args.block.0 < length c.self.inside.seats.seats
within g c = within_of (length c.self.inside.seats.seats) c.args.block.0 (λ past. (may_hold g c).there (rw length-map past))

fits : (g : _) (c : In_default g) → c.self.inside.size < c.args.at + length c.args.bytes.now → ⊥
fits g c past = (may_hold g c).fits (inr past)

-- where the patch was refused: the block was in memory, or may have been read
loads : (g : _) (c : In-Err-put g) → MayLoad c.self.inside.seats.most c.self.inside.seats.seats c.args.block.0 c.put.new.self.seats
loads g c = c.in-Err-put.ensures.refused refl

still : (g : _) (c : In-Err-put g) → Loaded c.self.inside c.args.block.0 c.put.new.self.seats
still g c = load_keeps c.self.inside c.self.invariant c.args.block.0 c.put.new.self.seats (loads g c)

-- where it was put
put : (g : _) (c : After-undo_bytes g) → IsPut c.self.inside c.args.block.0 c.args.at c.in-Ok.made.0.0 c.args.bytes.now c.in-Ok.made.1 (c.self.inside.undo + c.undo_bytes.result) c.with-self-inside.result c.put.new.self
put g c = record { undone = ap (λ n. c.self.inside.undo + n) c.undo_bytes.ensures.value; added = c.with-self-inside.ensures; most = c.put.ensures.most; puts = c.in_default-put.ensures.put }

quiet : (g : _) (c : After-undo_bytes g) → faults_of c.put.new.self.seats ≡ faults_of c.self.inside.seats.seats
quiet g c = c.in_default-put.ensures.no_fault (λ e. not_failed e)

-- the graph adds what it prepared
adds : (g : _) (c : After-undo_bytes g) → adds_after c.args.after c.prepare.new.graph c.args.block.0 c.args.at (length c.args.bytes.now) c.in-Ok.made.0.0 c.in-Ok.made.1 c.put_down.new.graph
adds g c = c.put_down.ensures c.in-Ok.made.0.0 c.in-Ok.made.1 (ap (λ (k : Known). k.prepared) c.in-Ok.ensures.prepared)

pub returns-in-Some-clause-step : goal.returns-in-Some-clause-step
returns-in-Some-clause-step g c = refused (span_refused c.args.self.now.state c.args.share.now c.args.block.0 c.args.at c.args.bytes.now c.args.after _ c.in-Some.fault c.in-Some.ensures)

-- a refusal leaves the counts and what the slots hold
pub returns-in-Some-clause-share : goal.returns-in-Some-clause-share
returns-in-Some-clause-share g c = refl

pub returns-in-Err-clause-share : goal.returns-in-Err-clause-share
returns-in-Err-clause-share g c = refl

pub returns-in-Err-put-clause-share : goal.returns-in-Err-put-clause-share
returns-in-Err-put-clause-share g c = refl

pub returns-clause-share : goal.returns-clause-share
returns-clause-share g c = c.rise.ensures

pub prepare-requires : goal.prepare-requires
prepare-requires g c = rw c.self.invariant.graph_blocks (within g (goal.at.prepare-requires g c).In_default)

pub put-requires-clause-within : goal.put-requires-clause-within
put-requires-clause-within g c = within g (goal.at.put-requires-clause-within g c).In_default

pub put-requires-clause-same_length : goal.put-requires-clause-same_length
put-requires-clause-same_length g c = refl

pub put_down-requires-clause-inside : goal.put_down-requires-clause-inside
put_down-requires-clause-inside g c = rw (ap (λ (k : Known). k.blocks) c.in-Ok.ensures.prepared, c.self.invariant.graph_blocks) (within g (goal.at.put_down-requires-clause-inside g c).In_default)

pub put_down-requires-clause-prepared : goal.put_down-requires-clause-prepared
put_down-requires-clause-prepared g c = (c.in-Ok.made.0.0, c.in-Ok.made.1, ap (λ (k : Known). k.prepared) c.in-Ok.ensures.prepared)

pub overflow_add-self-2 : goal.overflow_add-self-2
overflow_add-self-2 g c =
    let limits = c.self.invariant.lawful.limits in
    let made = limits.made in
    let numbers = limits.numbers in
    omega (arith, made, numbers)

pub rise-requires : goal.rise-requires
rise-requires g c = within_of _ _ (may_hold g (goal.at.rise-requires g c).In_default).counts

pub overflow_cast-span : goal.overflow_cast-span
overflow_cast-span g c =
    let past = fits g (goal.at.overflow_cast-span g c).In_default in
    let small : c.self.inside.size ≤ 4096 = c.self.invariant.small in
    omega (arith, past, small)

pub invariant_of-self : goal.invariant_of-self
invariant_of-self g c = kept_unprepared c.self.inside c.in-Err.ensures.same c.self.invariant

pub returns-in-Err-clause-step : goal.returns-in-Err-clause-step
returns-in-Err-clause-step g c =
    let at = (goal.at.returns-in-Err-clause-step g c).In_default in
    rw (← c.self.view_is)
    (step_unprepared c.self.inside c.in-Err.ensures.same _ c.in-Err.fault
    (after_refused (state_of c.self.inside) c.args.share.now c.args.block.0 c.args.at c.args.bytes.now (may_hold g at) c.args.after _ c.in-Err.fault c.in-Err.ensures.refused))

pub put-requires-clause-room : goal.put-requires-clause-room
put-requires-clause-room g c =
    let at = (goal.at.put-requires-clause-room g c).In_default in
    λ seat at_b away. room_for c.self.inside c.self.invariant c.args.block.0 seat at_b (may_hold g at).room away

pub put-requires-clause-inside : goal.put-requires-clause-inside
put-requires-clause-inside g c =
    let at = (goal.at.put-requires-clause-inside g c).In_default in
    let past = fits g at in
    λ seat at_b. let long : length seat.block.committed ≡ c.self.inside.size = as_long c.self.inside c.self.invariant c.args.block.0 seat at_b in omega (arith, past, long)

pub put-requires-clause-newest : goal.put-requires-clause-newest
put-requires-clause-newest g c =
    let at = (goal.at.put-requires-clause-newest g c).In_default in
    λ seat at_b. newest c.self.inside c.self.invariant c.args.block.0 seat at_b c.in-Ok.made.0.0 c.in-Ok.ensures.next

pub invariant_of-self-in-Err-put : goal.invariant_of-self-in-Err-put
invariant_of-self-in-Err-put g c =
    let at = (goal.at.invariant_of-self-in-Err-put g c).In-Err-put in
    kept_ready c.self.inside c.self.invariant c.in-Ok.ensures.prepared c.put.new.self c.put.ensures.most (loads g at)

pub returns-in-Err-put-clause-step : goal.returns-in-Err-put-clause-step
returns-in-Err-put-clause-step g c =
    let at = (goal.at.returns-in-Err-put-clause-step g c).In-Err-put in
    let may = may_hold g (goal.at.returns-in-Err-put-clause-step g c).In_default in
    rw (← c.self.view_is)
    (after_left c.self.inside c.self.invariant c.in-Ok.ensures.prepared c.args.share.now c.args.block.0 c.args.at c.args.bytes.now may c.args.after c.put.new.self c.put.ensures.most (loads g at) c.in-Ok.ensures.clear c.in-Err-put.fault
    (load_fault _ c.in-Err-put.fault _ refl c.in-Err-put.ensures.kinds c.in-Err-put.ensures.device))

pub overflow_add-self : goal.overflow_add-self
overflow_add-self g c =
    let same = undo_is c.self.inside c.self.invariant in
    let short = undo_short c.self.inside c.self.invariant in
    omega (arith, same, short, c.undo_bytes.ensures.within, c.self.invariant.undoing)

pub invariant_of-self-2 : goal.invariant_of-self-2
invariant_of-self-2 g c =
    let at = (goal.at.invariant_of-self-2 g c).After-undo_bytes in
    let may = may_hold g (goal.at.invariant_of-self-2 g c).In_default in
    after_kept c.self.inside c.self.invariant c.in-Ok.ensures.prepared c.args.share.now c.args.block.0 c.args.at c.args.bytes.now may c.args.after (put g at) _ (adds g at)

pub returns-clause-step : goal.returns-clause-step
returns-clause-step g c =
    let at = (goal.at.returns-clause-step g c).After-undo_bytes in
    let may = may_hold g (goal.at.returns-clause-step g c).In_default in
    rw (← c.self.view_is) (after_changed c.self.inside c.self.invariant c.in-Ok.ensures.prepared c.args.share.now c.args.block.0 c.args.at c.args.bytes.now may c.args.after (put g at) _ (adds g at) _)

-- which blocks are in memory then, and what is counted
pub returns-in-Some-clause-beside : goal.returns-in-Some-clause-beside
returns-in-Some-clause-beside g c =
    refused_beside c.args.self.now c.args.self.now c.args.block.0 c.in-Some.fault (span_not_device c.args.self.now.state c.args.share.now c.args.block.0 c.args.at c.args.bytes.now c.in-Some.fault c.in-Some.ensures) refl refl refl refl

pub returns-in-Err-clause-beside : goal.returns-in-Err-clause-beside
returns-in-Err-clause-beside g c =
    rw (← c.self.view_is) (refused_beside _ _ _ c.in-Err.fault (after_not_device c.args.after (state_of c.self.inside) _ _ _ c.in-Err.fault c.in-Err.ensures.refused) refl refl refl refl)

pub returns-in-Err-put-clause-beside : goal.returns-in-Err-put-clause-beside
returns-in-Err-put-clause-beside g c =
    let at = (goal.at.returns-in-Err-put-clause-beside g c).In-Err-put in
    rw (← c.self.view_is)
    (left_beside c.self.inside c.self.invariant c.in-Err-put.fault _ _ refl refl refl refl refl (still g at) (loads g at) (load_kind _ c.in-Err-put.fault refl c.in-Err-put.ensures.kinds) c.in-Err-put.ensures.away c.in-Err-put.ensures.device
    c.put.ensures.one_fault c.in-Err-put.ensures.no_fault)

pub returns-clause-beside : goal.returns-clause-beside
returns-clause-beside g c =
    let at = (goal.at.returns-clause-beside g c).After-undo_bytes in
    let puts = (put g at).puts in
    rw (← c.self.view_is)
    (brought_beside c.self.inside c.self.invariant c.put.new.self.seats _ _ refl refl refl refl (brings_put c.self.inside c.self.invariant puts) (quiet g at) (homes_made c.self.inside c.self.invariant puts) (back_made c.self.inside c.self.invariant puts))
