use Rattle.std.proofs.Common.{ℕ, [], ◌∷◌, Contains, take}
use Rattle.fst_heads.specs.{Grading.LeadsNowhere, Heads.patches_of}
use Rattle.fst_levels.proofs.shortcuts.waits_for_own_block.Given as goal

-- from the first of the row no way leads back
abbrev pub invariant-loop-number : goal.invariant-loop-number
invariant-loop-number l = (n : ℕ) → Contains (take l.number-index l.row) n → LeadsNowhere (patches_of l.sight.heads.now.list.items) l.block (n ∷ [])
