use Rattle.std.proofs.Common.{rules}
use Rattle.fst_walks.proofs.before.has_change.Goals as goal

pub returns-then-passes_at : goal.returns-then-passes_at
returns-then-passes_at c = search rules
