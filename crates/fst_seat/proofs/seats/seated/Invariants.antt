use Rattle.std.proofs.Common.{◌≡◌, ◌++◌, ◌+◌, ◌≤◌, vec_len, vec_capacity}
use Rattle.fst_seat.specs.Seats.{seats_of}
use Rattle.fst_seat.proofs.seats.seated.Given as goal

abbrev pub invariant-loop-slot : goal.invariant-loop-slot
invariant-loop-slot g l = record {
  can : (goal.iterator-loop-slot g).can_next l.slot-iterator;
  finite : (goal.iterator-loop-slot g).is_finite l.slot-iterator;
  seats : l.seats.items ≡ seats_of g.S.BlockSlot.held g.S.BlockSlot.index g.S.BlockSlot.faults l.yielded;
  all : l.yielded ++ l.slot-iterator.rest.items ≡ l.fn.slots.items;
  room : vec_len l.seats + (goal.iterator-loop-slot g).remaining l.slot-iterator ≤ vec_capacity l.seats;
}
