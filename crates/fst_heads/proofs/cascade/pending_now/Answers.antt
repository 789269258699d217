use Rattle.fst_heads.proofs.Basics.{arith, common_steps}
use Rattle.fst_heads.proofs.cascade.pending_now.Goals as goal

pub returns-in-Change : goal.returns-in-Change
returns-in-Change c = grind (arith, common_steps)

pub returns-in-OpenGate : goal.returns-in-OpenGate
returns-in-OpenGate c = grind (arith, common_steps)
