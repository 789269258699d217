use Rattle.std.proofs.Common.{◌≡◌, ◌<◌, ◌≤◌, ℕ, Some, slice_get, vec_len, vec_capacity}
use Rattle.fst_seat.proofs.places.below.Given as goal

abbrev pub invariant-loop-number : goal.invariant-loop-number
invariant-loop-number l = record {
  long : vec_len l.numbers ≡ l.number;
  room : l.end ≤ vec_capacity l.numbers;
  each : (k : ℕ) → k < l.number → slice_get l.numbers.items k ≡ Some k;
}
