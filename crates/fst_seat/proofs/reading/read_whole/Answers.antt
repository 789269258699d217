use Rattle.std.proofs.lemmas.Grind.{common_steps}
use Rattle.std.proofs.Common.{arith, rules}
use Rattle.fst_seat.proofs.reading.read_whole.Goals as goal

pub returns-in-Ok-read-clause-bytes : goal.returns-in-Ok-read-clause-bytes
returns-in-Ok-read-clause-bytes g c = grind (arith, common_steps)

pub returns-in-Ok-read-clause-one_read : goal.returns-in-Ok-read-clause-one_read
returns-in-Ok-read-clause-one_read g c = search rules

pub returns-in-Ok-read-clause-no_fault : goal.returns-in-Ok-read-clause-no_fault
returns-in-Ok-read-clause-no_fault g c = search rules
