use Rattle.std.proofs.Common.{sym, rules}
use Rattle.serde_json.specs.View.{view}
use Rattle.fst_lines.specs.Commands.{command_in}
use Rattle.fst_lines.specs.Parsing.{command, Gives}
use Rattle.fst_lines.proofs.CommandLemmas.{at_no_object, Parses-object}
use Rattle.fst_lines.proofs.command.command_of_value.Goals as goal

pub returns-then-not-is_object : goal.returns-then-not-is_object
returns-then-not-is_object c = at_no_object _ (sym c.if-not-is_object.ensures)

pub returns-in-Some : goal.returns-in-Some
returns-in-Some c =
    let given : Gives command c.command_named.result (command_in (view c.args.value.now)) = search rules in
    Parses-object c.command_named.result (view c.args.value.now) (sym c.if-not-is_object.ensures) given
