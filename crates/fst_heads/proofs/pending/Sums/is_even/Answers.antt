use Rattle.std.proofs.Common.{rules}
use Rattle.fst_heads.proofs.pending.Sums.is_even.Goals as goal

pub returns-then-block-count : goal.returns-then-block-count
returns-then-block-count c = search rules
