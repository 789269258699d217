use Rattle.std.proofs.Common.{refl}
use Rattle.fst_program.proofs.status.tell.Goals as goal

pub returns-then-is_ok-2-clause-quiet : goal.returns-then-is_ok-2-clause-quiet
returns-then-is_ok-2-clause-quiet g c = λ zero. refl
