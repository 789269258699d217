use Rattle.std.proofs.lemmas.Grind.{common_steps}
use Rattle.std.proofs.Common.{subst, ◌∙◌, arith}
use Rattle.std.specs.Io.KnownBytes.{Appends}
use Rattle.fst_crew.proofs.crews.tell.Goals as goal

-- the text that is written is the report's
pub returns-in-Ok-clause-made : goal.returns-in-Ok-clause-made
returns-in-Ok-clause-made g c = subst (λ bytes. Appends (g.W.Write.contents c.args.writer.now) (g.W.Write.contents c.write_all.new.self) bytes) (c.as_bytes.ensures.value ∙ c.in_ok-text.ensures) c.in-Ok.ensures.bytes

pub returns-in_err-text-clause-made : goal.returns-in_err-text-clause-made
returns-in_err-text-clause-made g c = grind (arith, common_steps)

pub returns-in_err-text-clause-silent : goal.returns-in_err-text-clause-silent
returns-in_err-text-clause-silent g c = grind (arith, common_steps)

pub returns-in-Ok-clause-silent : goal.returns-in-Ok-clause-silent
returns-in-Ok-clause-silent g c = grind (arith, common_steps)

pub returns-clause-made : goal.returns-clause-made
returns-clause-made g c = grind (arith, common_steps)

pub returns-clause-silent : goal.returns-clause-silent
returns-clause-silent g c = grind (arith, common_steps)
