use Rattle.fst_heads.proofs.Basics.{arith, common_steps}
use Rattle.fst_heads.proofs.row.shares.Goals as goal

pub returns-then-from-end_of : goal.returns-then-from-end_of
returns-then-from-end_of c = grind (arith, common_steps)
