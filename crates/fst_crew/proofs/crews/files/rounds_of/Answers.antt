use Rattle.std.proofs.Common.{arith}
use Rattle.std.proofs.lemmas.Grind.{common_steps}
use Rattle.fst_crew.proofs.crews.files.rounds_of.Goals as goal

pub loop-round-init : goal.loop-round-init
loop-round-init g c = grind (arith, common_steps)

pub returns-in_err-made-in-Some : goal.returns-in_err-made-in-Some
returns-in_err-made-in-Some g c = grind (arith, common_steps)

pub returns-in_err-made-in-None : goal.returns-in_err-made-in-None
returns-in_err-made-in-None g c = grind (arith, common_steps)

pub loop-round-preserved : goal.loop-round-preserved
loop-round-preserved g c = grind (arith, common_steps)

pub returns : goal.returns
returns g c = grind (arith, common_steps)
