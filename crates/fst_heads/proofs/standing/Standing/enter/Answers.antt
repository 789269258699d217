use Rattle.std.proofs.Common.{rules}
use Rattle.fst_heads.proofs.standing.Standing.enter.Goals as goal

pub returns-after-self-eq0 : goal.returns-after-self-eq0
returns-after-self-eq0 c = search rules
