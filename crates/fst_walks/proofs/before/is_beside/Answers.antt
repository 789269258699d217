use Rattle.std.proofs.Common.{rules}
use Rattle.fst_walks.proofs.before.is_beside.Goals as goal

pub returns-then-is_hard_at : goal.returns-then-is_hard_at
returns-then-is_hard_at c = search rules
