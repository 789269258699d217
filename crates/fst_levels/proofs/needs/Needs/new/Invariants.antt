use Rattle.std.proofs.Common.{◌≡◌, ◌≤◌, ℕ, [], map, get_or, vec_len, vec_capacity}
use Rattle.fst_levels.proofs.PutMore.{numbers_in}
use Rattle.fst_levels.proofs.needs.Needs.new.Given as goal

abbrev pub invariant-loop : goal.invariant-loop
invariant-loop l = record {
  empty : (c : ℕ) → get_or (map numbers_in l.lists.items) c [] ≡ [];
  short : (c : ℕ) → get_or (map (λ v. vec_len v) l.lists.items) c 0 ≡ 0;
  long : vec_len l.lists ≡ l.counter;
  room : l.blocks ≤ vec_capacity l.lists;
}
