use Rattle.std.proofs.Common.{rules}
use Rattle.fst_types.proofs.noted.Noted.of_bytes.Goals as goal

pub returns : goal.returns
returns c = search rules
