use Rattle.std.proofs.Common.{codes}
use Rattle.clap.specs.Words.{AddsArg, new_app, with_rule}
use Rattle.fst_program.specs.Program.{default_rule}
use Rattle.fst_program.proofs.CommandLemmas.{rule_added, rule_added_at_ok, still_local, still_local_at_ok}
use Rattle.fst_program.proofs.arguments.crew_command.Goals as goal

pub returns-clause-app : goal.returns-clause-app
returns-clause-app c =
    let adds : AddsArg c.command_about.result c.default_option.result c.in_ok-arg.field-0 = c.in_ok-arg.ensures in
    let adds_workers : AddsArg c.in_ok-arg.field-0 c.default_option-2.result c.in_ok-arg-2.field-0 = c.in_ok-arg-2.ensures in
    let none = new_app (codes "crew") in
    let one = with_rule none (default_rule (codes "files") (codes "2")) in
    let two = with_rule one (default_rule (codes "workers") (codes "2")) in
    let files = rule_added c.command_about.result c.default_option.result c.in_ok-arg.field-0 none (default_rule (codes "files") (codes "2")) c.command_about.ensures.app c.default_option.ensures.rule c.default_option.ensures.local adds in
    let workers = rule_added c.in_ok-arg.field-0 c.default_option-2.result c.in_ok-arg-2.field-0 one (default_rule (codes "workers") (codes "2")) files c.default_option-2.ensures.rule c.default_option-2.ensures.local adds_workers in
    rule_added_at_ok c.in_ok-arg-2.field-0 c.default_option-3.result c.arg-3.result two (default_rule (codes "rounds") (codes "10")) workers c.default_option-3.ensures.rule c.default_option-3.ensures.local c.arg-3.ensures

pub returns-clause-local : goal.returns-clause-local
returns-clause-local c =
    let adds : AddsArg c.command_about.result c.default_option.result c.in_ok-arg.field-0 = c.in_ok-arg.ensures in
    let adds_workers : AddsArg c.in_ok-arg.field-0 c.default_option-2.result c.in_ok-arg-2.field-0 = c.in_ok-arg-2.ensures in
    let files = still_local c.command_about.result c.default_option.result c.in_ok-arg.field-0 c.command_about.ensures.local c.default_option.ensures.local adds in
    let workers = still_local c.in_ok-arg.field-0 c.default_option-2.result c.in_ok-arg-2.field-0 files c.default_option-2.ensures.local adds_workers in
    still_local_at_ok c.in_ok-arg-2.field-0 c.default_option-3.result c.arg-3.result workers c.default_option-3.ensures.local c.arg-3.ensures
