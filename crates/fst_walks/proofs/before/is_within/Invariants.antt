use Rattle.std.proofs.Common.{ℕ, ◌<◌, get_or}
use Rattle.fst_heads.specs.Heads.{patches_of}
use Rattle.fst_walks.specs.Telling.{IsWithin}
use Rattle.fst_walks.proofs.before.is_within.Given as goal

abbrev pub invariant-loop-number : goal.invariant-loop-number
invariant-loop-number l = (j : ℕ) → j < l.number-index → IsWithin (patches_of l.sight.heads.now.list.items) l.block l.other (get_or l.row j 0)
