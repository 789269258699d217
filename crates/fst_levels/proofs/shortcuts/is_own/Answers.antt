use Rattle.std.proofs.Common.{rules}
use Rattle.fst_levels.proofs.shortcuts.is_own.Goals as goal

pub returns-in-Block : goal.returns-in-Block
returns-in-Block c = search rules
