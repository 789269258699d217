use Rattle.std.proofs.Common.{refl, subst}
use Rattle.fst_lines.specs.Short.{ChangeNext}
use Rattle.fst_lines.proofs.patch_line.take_group_patch.Goals as goal

pub returns-in-Some-Some : goal.returns-in-Some-Some
returns-in-Some-Some c =
    let n = c.in-Some-Some in
    let at_end = subst (ChangeNext n.change.block.0 n.change.at n.change.bytes.items c.take_number_under.new.reader) (c.if-takes_end.ensures refl) n.ensures' in
    (n.group, n.change.block.0, n.change.at, n.change.bytes.items, c.take_number_under.new.reader, refl, n.ensures, at_end)
