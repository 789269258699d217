use Rattle.std.proofs.lemmas.Grind.{common_steps}
use Rattle.std.proofs.Common.{arith}
use Rattle.fst_levels.proofs.sink.sink_over.Goals as goal

pub level-requires : goal.level-requires
level-requires c = grind (arith, common_steps)
