use Rattle.std.proofs.Common.{length, ap, arith}
use Rattle.std.proofs.lemmas.Grind.{common_steps}
use Rattle.fst_block.proofs.Blocks.{same_size}
use Rattle.fst_block.proofs.block.Block.bytes.Goals as goal

pub returns-clause-same_length : goal.returns-clause-same_length
returns-clause-same_length c =
    omega (arith, c.as_slice.ensures.len, ap length c.as_slice.ensures.value, same_size _ _ _ _ c.self.invariant, ap (λ v. length v.base) c.self.view_is)

pub returns-clause-value : goal.returns-clause-value
returns-clause-value c = grind (arith, common_steps)
