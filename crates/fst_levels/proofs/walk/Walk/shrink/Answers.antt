use Rattle.std.proofs.Common.{arith}
use Rattle.std.proofs.lemmas.Grind.{common_steps}
use Rattle.fst_levels.proofs.walk.Walk.shrink.Goals as goal

pub returns : goal.returns
returns c = grind (arith, common_steps)
