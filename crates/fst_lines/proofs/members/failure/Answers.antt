use Rattle.std.proofs.Common.{arith, rules}
use Rattle.std.proofs.lemmas.Grind.{common_steps}
use Rattle.fst_lines.proofs.members.failure.Goals as goal

pub returns-in-before : goal.returns-in-before
returns-in-before c = grind (arith, common_steps)

pub returns-in-after : goal.returns-in-after
returns-in-after c = grind (arith, common_steps)

pub returns-in-read : goal.returns-in-read
returns-in-read c = grind (arith, common_steps)

pub returns-in_default : goal.returns-in_default
returns-in_default c = search rules
