use Rattle.std.proofs.Common.{arith}
use Rattle.std.proofs.lemmas.Grind.{common_steps}
use Rattle.fst_chain.proofs.chain.Chain.drop.Goals as goal

pub close-requires : goal.close-requires
close-requires g c = grind (arith, common_steps)
