use Rattle.std.proofs.Common.{rules}
use Rattle.fst_levels.proofs.needs.Needs.land.Goals as goal

pub returns-then-not-is_empty-clause-ways : goal.returns-then-not-is_empty-clause-ways
returns-then-not-is_empty-clause-ways c = search rules
