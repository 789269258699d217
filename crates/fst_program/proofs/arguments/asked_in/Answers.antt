use Rattle.std.proofs.Common.{rules}
use Rattle.fst_program.proofs.arguments.asked_in.Goals as goal

pub returns-then-eq : goal.returns-then-eq
returns-then-eq c = search rules
