use Rattle.fst_heads.proofs.{Patches.IsLiveNumber, Words.patches_of, Rows.Gathers}
use Rattle.fst_heads.proofs.row.live_named.Given as goal

abbrev pub invariant-loop-name : goal.invariant-loop-name
invariant-loop-name l = Gathers (IsLiveNumber (patches_of l.heads.list.items)) l.names l.name-index l.row.items
