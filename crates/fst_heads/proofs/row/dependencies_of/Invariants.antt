use Rattle.fst_heads.proofs.{Basics.drop, Words.{patches_of, entries_of}, Touching.Touches}
use Rattle.fst_heads.proofs.row.dependencies_of.Given as goal

abbrev pub invariant-loop-listed : goal.invariant-loop-listed
invariant-loop-listed l = Touches (patches_of l.heads.list.items) (entries_of (drop l.listed-index l.list)) l.block l.span.at l.span.len l.initial.row.items l.row.items
