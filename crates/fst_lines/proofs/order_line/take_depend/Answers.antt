use Rattle.std.proofs.Common.{refl}
use Rattle.fst_lines.specs.Parsing.{patch_numbers}
use Rattle.fst_lines.proofs.order_line.take_depend.Goals as goal

pub returns-in-Some-Some : goal.returns-in-Some-Some
returns-in-Some-Some c =
    let n = c.in-Some-Some in
    (n.gate, patch_numbers n.on.items, c.take_number_under.new.reader, refl, n.ensures, n.ensures')
