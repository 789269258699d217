use Rattle.std.proofs.Common.{sym, ◌∙◌}
use Rattle.serde_json.specs.View.{view}
use Rattle.fst_lines.specs.Commands.{command_named}
use Rattle.fst_lines.specs.Parsing.{command}
use Rattle.fst_lines.proofs.GivesLemmas.{Gives-at, Gives-ok_or}
use Rattle.fst_lines.proofs.SmallLemmas.{small_is}
use Rattle.fst_lines.proofs.command.command_named.Goals as goal

pub returns-in-patch : goal.returns-in-patch
returns-in-patch c = Gives-at command (λ n. command_named n (view c.args.value.now)) _ c.in-patch.is c.patch.ensures

pub returns-in-empty : goal.returns-in-empty
returns-in-empty c = Gives-at command (λ n. command_named n (view c.args.value.now)) _ c.in-empty.is c.empty.ensures

pub returns-in-depend : goal.returns-in-depend
returns-in-depend c = Gives-at command (λ n. command_named n (view c.args.value.now)) _ c.in-depend.is c.depend.ensures

pub returns-in-done : goal.returns-in-done
returns-in-done c = Gives-at command (λ n. command_named n (view c.args.value.now)) _ c.in-done.is (Gives-ok_or command c.done.result _ _ c.ok_or.ensures.value c.done.ensures)

pub returns-in-crash : goal.returns-in-crash
returns-in-crash c = Gives-at command (λ n. command_named n (view c.args.value.now)) _ c.in-crash.is c.crash.ensures

pub returns-in-group_after : goal.returns-in-group_after
returns-in-group_after c = Gives-at command (λ n. command_named n (view c.args.value.now)) _ c.in-group_after.is (Gives-ok_or command c.group_after.result _ _ c.ok_or-in-group_after.ensures.value c.group_after.ensures)

pub returns-in-group_patch : goal.returns-in-group_patch
returns-in-group_patch c = Gives-at command (λ n. command_named n (view c.args.value.now)) _ c.in-group_patch.is c.group_patch.ensures

pub returns-in_default : goal.returns-in_default
returns-in_default c =
    let n = c.in_default in let d = view c.args.value.now in
    Gives-ok_or command c.small.result _ _ c.ok_or-in_default.ensures.value
    (c.small.ensures ∙ sym (small_is c.args.name.now d n.not-patch n.not-empty n.not-depend n.not-done n.not-crash n.not-group_after n.not-group_patch))
