use Rattle.std.proofs.Common.{refl, subst}
use Rattle.std.specs.Prelude.{codes}
use Rattle.fst_lines.specs.Short.{NumberUnder}
use Rattle.fst_lines.proofs.order_line.take_group_after.Goals as goal

pub returns-in-Some-Some : goal.returns-in-Some-Some
returns-in-Some-Some c =
    let n = c.in-Some-Some in
    let at_end = subst (NumberUnder (codes "on") n.on c.take_number_under.new.reader) (c.if-takes_end.ensures refl) n.ensures' in
    (n.group, n.on, c.take_number_under.new.reader, refl, n.ensures, at_end)
