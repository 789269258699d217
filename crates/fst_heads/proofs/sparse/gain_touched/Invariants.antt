use Rattle.fst_heads.proofs.{Words.patches_of, Newest.GainsUpTo, Runs.numbers_in}
use Rattle.fst_heads.proofs.sparse.gain_touched.Given as goal

abbrev pub invariant-loop-run : goal.invariant-loop-run
invariant-loop-run l = GainsUpTo (patches_of l.heads.list.items) (numbers_in l.runs) l.block l.span.at l.span.len l.run-index l.last l.fn.row.items l.row.items
