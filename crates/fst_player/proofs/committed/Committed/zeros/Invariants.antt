use Rattle.std.proofs.Common.{◌≡◌, ◌≤◌, ℕ, map, vec_len, vec_capacity}
use Rattle.std.specs.Prelude.{replicate}
use Rattle.std.specs.Global.{Vec}
use Rattle.fst_player.proofs.committed.Committed.zeros.Given as goal

-- so many blocks have zero bytes, and there is room for all
abbrev pub invariant-loop : goal.invariant-loop
invariant-loop l = record {
  bytes : map (λ (b : Vec ℕ). b.items) l.zeros.items ≡ replicate l.counter (replicate l.size 0);
  long : vec_len l.zeros ≡ l.counter;
  room : l.blocks ≤ vec_capacity l.zeros;
}
