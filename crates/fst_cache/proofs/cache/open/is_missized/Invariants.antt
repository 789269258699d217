use Rattle.std.proofs.Common.{ℕ, ◌≡◌, ◌<◌, get_or}
use Rattle.fst_cache.proofs.cache.open.is_missized.Given as goal

abbrev pub invariant-loop-slot : goal.invariant-loop-slot
invariant-loop-slot g l = (k : ℕ) (d : _) → k < l.slot-index → g.S.BlockSlot.size (get_or l.slots k d) ≡ l.size
