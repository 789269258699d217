use Rattle.std.proofs.Common.{rules}
use Rattle.fst_lines.proofs.small.on_number.Goals as goal

pub returns-in-write : goal.returns-in-write
returns-in-write c = search rules
