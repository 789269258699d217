-- The program's command line, as `clap` reads it.
use Rattle.std.specs.Prelude.{[], ◌∷◌, Some, pos, codes}
use Rattle.clap.specs.Words.{App, Rule, Text, new_app, new_rule, with_rule, with_subcommand}
use Rattle.clap.specs.declared.builder.value_parser.ValueParser.TheVariants as parsers

-- `--name N`, a number of 32 bits
abbrev pub number_rule : Text → Rule
number_rule name = record (new_rule name) { long = Some name; parser = Some (parsers.Signed (pos 0) (pos 4294967295)) }

-- the same, with what counts where it is not given
abbrev pub default_rule : Text → Text → Rule
default_rule name default = record (number_rule name) { defaults = default ∷ [] }

abbrev pub play_app : App
play_app =
    with_rule (with_rule (with_rule (new_app (codes "play")) (default_rule (codes "blocks") (codes "4"))) (default_rule (codes "size") (codes "4")))
    (number_rule (codes "resident"))

abbrev pub crew_app : App
crew_app =
    with_rule (with_rule (with_rule (new_app (codes "crew")) (default_rule (codes "files") (codes "2"))) (default_rule (codes "workers") (codes "2")))
    (default_rule (codes "rounds") (codes "10"))

abbrev pub program : App
program = with_subcommand (with_subcommand (new_app (codes "feather")) play_app.top) crew_app.top
