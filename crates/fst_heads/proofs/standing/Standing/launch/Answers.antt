use Rattle.fst_heads.proofs.Basics.{arith, common_steps}
use Rattle.fst_heads.proofs.standing.Standing.launch.Goals as goal

pub returns : goal.returns
returns c = grind (arith, common_steps)
