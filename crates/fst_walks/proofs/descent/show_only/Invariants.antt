use Rattle.std.proofs.Common.{◌≡◌, ◌<◌, ℕ, get_or, false}
use Rattle.fst_walks.proofs.descent.show_only.Given as goal

abbrev pub invariant-loop-shown : goal.invariant-loop-shown
invariant-loop-shown l = (k : ℕ) → k < l.shown-index → get_or l.reached k false ≡ false
