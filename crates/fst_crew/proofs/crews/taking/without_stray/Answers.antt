use Rattle.std.proofs.Common.{arith}
use Rattle.std.proofs.lemmas.Grind.{common_steps}
use Rattle.fst_crew.proofs.crews.taking.without_stray.Goals as goal

pub returns-in-Some : goal.returns-in-Some
returns-in-Some g c = grind (arith, common_steps)

pub returns : goal.returns
returns g c = grind (arith, common_steps)
