use Rattle.fst_heads.proofs.Basics.{◌≡◌, length, vec_capacity}
use Rattle.fst_heads.proofs.lists.make_places.Given as goal

abbrev pub invariant-loop : goal.invariant-loop
invariant-loop l = record {
  long : length l.queue.items ≡ l.counter;
  capacity : vec_capacity l.queue ≡ vec_capacity l.initial.queue;
}
