use Rattle.fst_types.proofs.FaultsTold.{numbers_tell}
use Rattle.fst_types.proofs.laws.faults_have_their_own_numbers.Goals as goal

pub returns : goal.returns
returns c = numbers_tell
