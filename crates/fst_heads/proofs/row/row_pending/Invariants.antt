use Rattle.fst_heads.proofs.{Basics.{◌≡◌, take}, Words.{nodes_of, pending_in, joined}}
use Rattle.fst_heads.proofs.row.row_pending.Given as goal

abbrev pub invariant-loop-number : goal.invariant-loop-number
invariant-loop-number l = l.pending ≡ joined (pending_in (nodes_of l.heads.list.items)) (take l.number-index l.row)
