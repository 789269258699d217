use Rattle.std.proofs.Common.{rules}
use Rattle.fst_lines.proofs.command.group_after.Goals as goal

pub returns-in-Some-Some : goal.returns-in-Some-Some
returns-in-Some-Some c = search rules
