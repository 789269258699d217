use Rattle.fst_heads.proofs.Basics.{◌≡◌, ◌≤◌, vec_len, vec_capacity}
use Rattle.fst_heads.proofs.cover.empty_covers.Given as goal

abbrev pub invariant-loop : goal.invariant-loop
invariant-loop l = record {
  long : vec_len l.covers ≡ l.counter;
  room : l.blocks ≤ vec_capacity l.covers;
}
