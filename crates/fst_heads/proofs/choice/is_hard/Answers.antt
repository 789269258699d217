use Rattle.fst_heads.proofs.Basics.{arith, common_steps}
use Rattle.fst_heads.proofs.choice.is_hard.Goals as goal

pub returns-in-Change-Soft-default-default : goal.returns-in-Change-Soft-default-default
returns-in-Change-Soft-default-default c = grind (arith, common_steps)
