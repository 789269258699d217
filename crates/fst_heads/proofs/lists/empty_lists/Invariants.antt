use Rattle.fst_heads.proofs.{Basics.{◌≡◌, ◌≤◌, ℕ, [], map, get_or, vec_len, vec_capacity}, Words.entries_of}
use Rattle.fst_heads.proofs.lists.empty_lists.Given as goal

abbrev pub invariant-loop : goal.invariant-loop
invariant-loop l = record {
  empty : (b : ℕ) → get_or (map (λ v. entries_of v.items) l.lists.items) b [] ≡ [];
  long : vec_len l.lists ≡ l.counter;
  room : l.blocks ≤ vec_capacity l.lists;
}
