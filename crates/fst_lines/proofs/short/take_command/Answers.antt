use Rattle.std.proofs.Common.{codes, inl, inr}
use Rattle.fst_lines.specs.Short.{IsGroupPatch, IsGroupAfter}
use Rattle.fst_lines.proofs.ShortLemmas.{Asks-named, Asks-short}
use Rattle.fst_lines.proofs.short.take_command.Goals as goal

pub returns-in-group_patch : goal.returns-in-group_patch
returns-in-group_patch c =
    Asks-named (codes "group_patch") c.in_ok-name.name.now IsGroupPatch c.args.reader.now c.take_name.new.reader c.take_group_patch.result
    (λ r h. inr (inr (inr (inr (inl h))))) c.in_ok-name.ensures c.in-group_patch.is c.take_group_patch.ensures

pub returns-in-group_after : goal.returns-in-group_after
returns-in-group_after c =
    Asks-named (codes "group_after") c.in_ok-name.name.now IsGroupAfter c.args.reader.now c.take_name.new.reader c.take_group_after.result
    (λ r h. inr (inr (inr (inr (inr h))))) c.in_ok-name.ensures c.in-group_after.is c.take_group_after.ensures

pub returns-in_default : goal.returns-in_default
returns-in_default c = Asks-short _ _ c.take_short.result c.in_ok-name.ensures c.take_short.ensures
