use Rattle.fst_heads.proofs.{Words.{patches_of, IsMissing}, Rows.Gathers}
use Rattle.fst_heads.proofs.growth.missing_names.Given as goal

abbrev pub invariant-loop-name : goal.invariant-loop-name
invariant-loop-name l = Gathers (IsMissing (patches_of l.heads.list.items) l.gate) l.names l.name-index l.row.items
