use Rattle.std.proofs.Common.{rules}
use Rattle.fst_heads.proofs.pending.join.Goals as goal

pub returns-in-Behind-other : goal.returns-in-Behind-other
returns-in-Behind-other c = search rules
