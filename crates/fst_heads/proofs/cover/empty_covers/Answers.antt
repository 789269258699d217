use Rattle.fst_heads.proofs.Basics.{arith, common_steps}
use Rattle.fst_heads.proofs.cover.empty_covers.Goals as goal

pub returns : goal.returns
returns c = grind (arith, common_steps)
