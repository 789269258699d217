use Rattle.fst_heads.proofs.{Basics.{◌≡◌, take}, Words.{nodes_of, pending_in, Fits, sums_of}}
use Rattle.fst_heads.proofs.row.row_sums.Given as goal

abbrev pub invariant-loop-number : goal.invariant-loop-number
invariant-loop-number l = (l.sums ≡ sums_of (pending_in (nodes_of l.heads.list.items)) (take l.number-index l.row)) × Fits l.sums
