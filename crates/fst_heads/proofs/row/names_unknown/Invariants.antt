use Rattle.fst_heads.proofs.Rows.{AreGiven}
use Rattle.fst_heads.proofs.row.names_unknown.Given as goal

abbrev pub invariant-loop-name : goal.invariant-loop-name
invariant-loop-name l = AreGiven l.numbers l.names l.name-index
