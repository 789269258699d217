use Rattle.std.proofs.Common.{rules}
use Rattle.fst_heads.proofs.pending.is_of_block.Goals as goal

pub returns-in-Block : goal.returns-in-Block
returns-in-Block c = search rules
