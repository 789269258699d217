use Rattle.std.proofs.KnownBytes.{Keeps-refl}
use Rattle.fst_lines.proofs.output.pass_on.Goals as goal

pub returns-then-calls-eq0 : goal.returns-then-calls-eq0
returns-then-calls-eq0 g c = Keeps-refl _
