use Rattle.std.proofs.Common.{◌≡◌, ◌<◌, ℕ, get_or}
use Rattle.fst_types.specs.declared.number.PatchNo.{PatchNo}
use Rattle.fst_walks.proofs.cycle.is_named.Given as goal

abbrev pub invariant-loop-name : goal.invariant-loop-name
invariant-loop-name l = (k : ℕ) (d : PatchNo) → k < l.name-index → (get_or l.names k d).0 ≡ l.gate → ⊥
