use Rattle.std.proofs.Common.{arith}
use Rattle.std.proofs.lemmas.Grind.{common_steps}
use Rattle.fst_pairs.proofs.worker.Worker.into_ends.Goals as goal

pub returns-clause-jobs : goal.returns-clause-jobs
returns-clause-jobs g c = grind (arith, common_steps)

pub returns-clause-dones : goal.returns-clause-dones
returns-clause-dones g c = grind (arith, common_steps)

pub returns-clause-standing : goal.returns-clause-standing
returns-clause-standing g c = grind (arith, common_steps)
