-- Where the patches on disk stand.
use Rattle.std.specs.Prelude.{◌≡◌, ◌≤◌, ◌<◌, ◌-◌, ℕ, List, length, IsTrue, IsFalse}
use Rattle.std.specs.List.{AllWithin, HoldsAt, prefix_len}
use Rattle.fst_types.specs.{Patches.Patch, Tests.is_live}

-- those on disk stand from one index up to another: the first of them at that index, and the last right before the other
pub record SpansDisk (heads : List Patch) (first end : ℕ) : Type 0 where
  pub begins : first ≡ prefix_len is_live heads
  pub ordered : first ≤ end
  pub inside : end ≤ length heads
  pub behind : AllWithin (λ p. IsTrue (is_live p)) heads end (length heads)
  pub last : first < end → HoldsAt (λ p. IsFalse (is_live p)) heads (end - 1)
