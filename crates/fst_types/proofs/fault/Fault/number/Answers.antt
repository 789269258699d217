use Rattle.std.proofs.Common.{rules}
use Rattle.fst_types.proofs.fault.Fault.number.Goals as goal

pub returns-in-BadLine : goal.returns-in-BadLine
returns-in-BadLine c = search rules
