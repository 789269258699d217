use Rattle.std.proofs.Common.{arith}
use Rattle.std.proofs.lemmas.Grind.{common_steps}
use Rattle.fst_cache.proofs.cache.open.open_fault.Goals as goal

pub returns-then-is_missized : goal.returns-then-is_missized
returns-then-is_missized g c = grind (arith, common_steps)

pub returns : goal.returns
returns g c = grind (arith, common_steps)
