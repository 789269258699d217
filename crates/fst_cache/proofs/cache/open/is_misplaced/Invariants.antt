use Rattle.std.proofs.Common.{ℕ, ◌≡◌, ◌<◌, get_or}
use Rattle.fst_cache.proofs.cache.open.is_misplaced.Given as goal

abbrev pub invariant-loop-at : goal.invariant-loop-at
invariant-loop-at g l = (k : ℕ) (d : _) → k < l.at → g.S.BlockSlot.index (get_or l.slots k d) ≡ k
