use Rattle.std.proofs.Common.{arith}
use Rattle.std.proofs.lemmas.Grind.{common_steps}
use Rattle.fst_lines.proofs.taking.takes_end.Goals as goal

pub returns-in-Some-EndObject : goal.returns-in-Some-EndObject
returns-in-Some-EndObject c = grind (arith, common_steps)

pub returns-in_default : goal.returns-in_default
returns-in_default c = grind (arith, common_steps)
