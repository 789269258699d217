use Rattle.std.proofs.Common.{◌≡◌, Some, pos, rules}
use Rattle.clap.specs.declared.builder.value_parser.ValueParser.TheVariants as parsers
use Rattle.fst_program.proofs.CommandLemmas.{number_given}
use Rattle.fst_program.proofs.arguments.number_option.Goals as goal

pub returns-clause-rule : goal.returns-clause-rule
returns-clause-rule c =
    let given : c.value_parser-2.result.value_parser ≡ Some (parsers.Signed (pos 0) (pos 4294967295)) = search rules in
    number_given c.new.result c.long.result c.value_parser-2.result c.help.result c.args.name (Some c.args.help) c.new.ensures.rule c.long.ensures c.value_parser-2.ensures.others c.help.ensures given
