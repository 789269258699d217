use Rattle.std.proofs.Common.{arith}
use Rattle.std.proofs.lemmas.Grind.{common_steps}
use Rattle.fst_chain.proofs.node.release.Goals as goal

pub free-requires : goal.free-requires
free-requires g c = grind (arith, common_steps)
