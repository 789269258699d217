use Rattle.std.proofs.Common.{arith}
use Rattle.fst_seat.proofs.InStep.{in_step_new}
use Rattle.fst_seat.proofs.seats.Seats.new.Goals as goal

pub invariant_of-result : goal.invariant_of-result
invariant_of-result g c =
    rw (c.in-Ok.ensures.none, c.seated.ensures)
    (in_step_new g.S.BlockSlot.held g.S.BlockSlot.index g.S.BlockSlot.faults c.args.slots.items c.requires c.args.most _ (omega (arith, c.len.ensures, c.args.slots.ok.0)))
