use Rattle.fst_heads.proofs.Basics.{arith, common_steps}
use Rattle.fst_heads.proofs.sparse.touches.Goals as goal

pub returns-then-from-block : goal.returns-then-from-block
returns-then-from-block c = grind (arith, common_steps)
