use Rattle.std.proofs.Common.{◌∙◌, ap, map}
use Rattle.clap.specs.Words.{App, takes}
use Rattle.fst_program.proofs.ProgramLemmas.{has_fault, no_fault, words_ask}
use Rattle.fst_program.proofs.arguments.args.Goals as goal

pub returns-in-Ok-clause-asked : goal.returns-in-Ok-clause-asked
returns-in-Ok-clause-asked c =
    (no_fault _ _ c.in_ok-program_command.ensures c.in-Ok.ensures.kinds, words_ask _ _ c.in_ok-program_command.ensures _ _ c.in-Ok.ensures.matches c.asked_in.ensures)

pub returns-in-Err-clause-taken : goal.returns-in-Err-clause-taken
returns-in-Err-clause-taken c = λ h. c.in-Err.ensures.passes (ap (λ (a : App). takes a (map (λ w. w.now) c.args.words.now)) c.in_ok-program_command.ensures ∙ h)

pub returns-in-Err-clause-faults : goal.returns-in-Err-clause-faults
returns-in-Err-clause-faults c = has_fault _ _ c.in_ok-program_command.ensures c.in-Err.error c.in-Err.ensures.kinds
