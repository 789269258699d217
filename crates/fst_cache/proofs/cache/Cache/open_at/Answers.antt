use Rattle.std.proofs.Common.{◌≤◌, map, arith, inl, inr, refl}
use Rattle.fst_types.specs.Limits.{max_number, max_ticket}
use Rattle.fst_types.specs.Order.{open_order}
use Rattle.fst_types.specs.Refusals.{IsFirst, NoneHolds}
use Rattle.fst_cache.proofs.Opened.{opened_kept, opened_view}
use Rattle.fst_cache.proofs.cache.Cache.open_at.Goals.{In_default}
use Rattle.fst_cache.proofs.cache.Cache.open_at.Goals as goal

-- no slot stands out of its place, and none has another size
free : (g : _) (c : In_default g) → NoneHolds (open_order c.args.shape.blocks c.args.shape.size (map g.S.BlockSlot.index c.args.slots.items) (map g.S.BlockSlot.size c.args.slots.items))
free g c = rw c.deref.ensures.value at c.in_default.ensures

pub returns-in-Some-clause-refused : goal.returns-in-Some-clause-refused
returns-in-Some-clause-refused g c =
    let first : IsFirst (open_order c.args.shape.blocks c.args.shape.size (map g.S.BlockSlot.index c.args.slots.items) (map g.S.BlockSlot.size c.args.slots.items)) c.in-Some.fault =
    rw c.deref.ensures.value at c.in-Some.ensures in
    inl first

pub returns-in-Err-clause-refused : goal.returns-in-Err-clause-refused
returns-in-Err-clause-refused g c = inr (free g (goal.at.returns-in-Err-clause-refused g c).In_default, refl)

pub invariant_of-result : goal.invariant_of-result
invariant_of-result g c =
    let given : c.args.numbers ≤ max_number = omega (arith, c.ranges.numbers.fits) in
    let sent : c.args.tickets ≤ max_ticket = omega (arith, c.ranges.tickets.fits) in
    rw (c.in-Ok.ensures, c.in-Ok-new.ensures.seats)
    (opened_kept g.S.BlockSlot.held g.S.BlockSlot.index g.S.BlockSlot.size g.S.BlockSlot.faults g.met.S.BlockSlot.held_fills c.args.slots.items c.args.shape.blocks c.args.shape.size c.args.shape.resident c.args.numbers c.args.tickets
    c.none.result c.none.ensures c.args.shape.within.few_blocks c.args.shape.within.few_bytes given sent (free g (goal.at.invariant_of-result g c).In_default))

pub returns-in-Ok-new-clause-opened : goal.returns-in-Ok-new-clause-opened
returns-in-Ok-new-clause-opened g c =
    let given : c.args.numbers ≤ max_number = omega (arith, c.ranges.numbers.fits) in
    let sent : c.args.tickets ≤ max_ticket = omega (arith, c.ranges.tickets.fits) in
    rw (c.in-Ok.ensures, c.in-Ok-new.ensures.seats)
    (opened_view g.S.BlockSlot.held g.S.BlockSlot.index g.S.BlockSlot.size g.S.BlockSlot.faults g.met.S.BlockSlot.held_fills c.args.slots.items c.args.shape.blocks c.args.shape.size c.args.shape.resident c.args.numbers c.args.tickets
    c.none.result c.none.ensures c.args.shape.within.few_blocks c.args.shape.within.few_bytes given sent (free g (goal.at.returns-in-Ok-new-clause-opened g c).In_default))

pub returns-in-Ok-new-clause-fits : goal.returns-in-Ok-new-clause-fits
returns-in-Ok-new-clause-fits g c = free g (goal.at.returns-in-Ok-new-clause-fits g c).In_default
