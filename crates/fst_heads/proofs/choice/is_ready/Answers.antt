use Rattle.std.proofs.Common.{rules}
use Rattle.fst_heads.proofs.choice.is_ready.Goals as goal

pub returns-then-is_change_at : goal.returns-then-is_change_at
returns-then-is_change_at c = search rules

pub returns-else-is_change_at : goal.returns-else-is_change_at
returns-else-is_change_at c = search rules
