use Rattle.std.proofs.Common.{sym, arith}
use Rattle.fst_levels.proofs.Eased.{low_half, high_whole}
use Rattle.fst_levels.proofs.ranks.halved.Goals as goal

pub returns-then-level-lt-TOP : goal.returns-then-level-lt-TOP
returns-then-level-lt-TOP c = sym (low_half c.args.level c.if-level-lt-TOP.true)

pub returns-else-level-lt-TOP : goal.returns-else-level-lt-TOP
returns-else-level-lt-TOP c = sym (high_whole c.args.level (omega (arith, c.if-level-lt-TOP.false)))
