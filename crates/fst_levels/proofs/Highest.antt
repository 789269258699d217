-- The greater of two levels.
use Rattle.std.proofs.Common.{◌≤◌, ℕ, arith}
use Rattle.std.specs.Ordering.{nat_cmp, ord_max}
use Rattle.fst_heads.proofs.Basics.{nat_tests}

pub max_first : (m n : ℕ) → m ≤ ord_max nat_cmp m n
max_first m n = grind (arith, nat_tests)

pub max_second : (m n : ℕ) → n ≤ ord_max nat_cmp m n
max_second m n = grind (arith, nat_tests)
