use Rattle.std.proofs.Common.{◌≤◌, ◌⊎◌, ℕ, Contains, vec_capacity, vec_len}
use Rattle.fst_levels.proofs.needs.put_firsts.Given as goal

-- what was there is, and nothing else joined
abbrev pub invariant-loop-number : goal.invariant-loop-number
invariant-loop-number l = record {
  kept : (n : ℕ) → Contains l.initial.list.items n → Contains l.list.items n;
  only : (n : ℕ) → Contains l.list.items n → Contains l.initial.list.items n ⊎ Contains l.numbers n;
  fits : vec_len l.initial.list ≤ vec_capacity l.initial.list → vec_len l.list ≤ vec_capacity l.list;
}
