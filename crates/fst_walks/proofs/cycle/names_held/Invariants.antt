use Rattle.std.proofs.Common.{◌≡◌, ◌<◌, ℕ, get_or}
use Rattle.fst_types.specs.declared.number.PatchNo.{PatchNo}
use Rattle.fst_heads.specs.declared.pending.Pending.TheVariants as pending
use Rattle.fst_heads.specs.Nodes.{nodes_of, pending_in}
use Rattle.fst_walks.proofs.cycle.names_held.Given as goal

abbrev pub invariant-loop-name : goal.invariant-loop-name
invariant-loop-name l = (k : ℕ) (d : PatchNo) → k < l.name-index → pending_in (nodes_of l.sight.heads.now.list.items) (get_or l.names k d).0 ≡ pending.Held → ⊥
