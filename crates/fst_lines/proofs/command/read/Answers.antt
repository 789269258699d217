use Rattle.std.proofs.Common.{◌∙◌, sym, ap, arith}
use Rattle.std.proofs.lemmas.Bool.{false≢true}
use Rattle.fst_lines.specs.Commands.{command_of_value}
use Rattle.fst_lines.proofs.CommandLemmas.{value_of-text, value_of-none, command_of-short, Parses-short}
use Rattle.fst_lines.proofs.command.read.Goals as goal

pub returns-in-Ok : goal.returns-in-Ok
returns-in-Ok c = Parses-short c.command_of_value.result c.args.line.now _ (omega arith) (value_of-text _ c.in-Ok.ensures.ok.0 ∙ c.in-Ok.ensures.ok.1) c.command_of_value.ensures

pub returns-in-Err-2 : goal.returns-in-Err-2
returns-in-Err-2 c =
    command_of-short c.args.line.now (omega arith)
    ∙ ap command_of_value (value_of-none c.args.line.now (c.in-Err.ensures.err (λ m. false≢true (sym c.if-is_memory.false ∙ c.is_memory.ensures.1 m))))
