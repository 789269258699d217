use Rattle.fst_heads.specs.Heads.{patches_of}
use Rattle.fst_levels.specs.Ancestors.{LeadsTo}
use Rattle.fst_levels.proofs.ancestors.first_off.Given as goal

abbrev pub invariant-loop : goal.invariant-loop
invariant-loop l = LeadsTo (patches_of l.sight.heads.now.list.items) l.number l.at
