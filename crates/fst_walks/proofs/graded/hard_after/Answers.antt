use Rattle.std.proofs.Common.{refl}
use Rattle.fst_walks.proofs.graded.hard_after.Goals as goal

pub returns-clause-grade : goal.returns-clause-grade
returns-clause-grade c = refl
