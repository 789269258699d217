use Rattle.std.proofs.Common.{rules}
use Rattle.fst_heads.proofs.numbered.is_there.Goals as goal

pub returns-in-Some : goal.returns-in-Some
returns-in-Some g c = search rules
