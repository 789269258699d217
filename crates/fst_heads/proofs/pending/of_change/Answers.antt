use Rattle.std.proofs.Common.{rules}
use Rattle.fst_heads.proofs.pending.of_change.Goals as goal

pub returns-in-Memory : goal.returns-in-Memory
returns-in-Memory c = search rules

pub returns-in-Flight : goal.returns-in-Flight
returns-in-Flight c = search rules
