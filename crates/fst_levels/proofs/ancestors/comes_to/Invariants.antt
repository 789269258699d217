use Rattle.std.proofs.Common.{◌≡◌}
use Rattle.fst_heads.specs.Heads.{patches_of}
use Rattle.fst_levels.specs.{Ancestors.LeadsTo, Leveling.{jump_of, parent_of}}
use Rattle.fst_levels.proofs.ancestors.comes_to.Given as goal

abbrev pub invariant-loop : goal.invariant-loop
invariant-loop l = record {
  leads : LeadsTo (patches_of l.sight.heads.now.list.items) l.from l.at.number;
  parent : l.at.ancestry.parent ≡ parent_of l.sight.levels.now.ranks l.at.number;
  jump : l.at.ancestry.jump ≡ jump_of l.sight.levels.now.ranks l.at.number;
}
