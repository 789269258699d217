use Rattle.std.proofs.Common.{ap, arith}
use Rattle.std.proofs.lemmas.Grind.{common_steps}
use Rattle.fst_types.specs.Patches.{block_of_kind}
use Rattle.fst_heads.specs.Heads.{kind_of}
use Rattle.fst_levels.proofs.ranks.raise_floor.Goals as goal

pub index_mut-requires : goal.index_mut-requires
index_mut-requires c = let inside = c.requires c.in-Change.block (ap (λ k. block_of_kind (kind_of k)) c.in-Change.is) in omega (arith, inside, c.args.floors.now.ok.0)

pub returns-then-is_hard_in-clause-raised : goal.returns-then-is_hard_in-clause-raised
returns-then-is_hard_in-clause-raised c = grind (arith, common_steps)
