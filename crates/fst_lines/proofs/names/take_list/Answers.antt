use Rattle.std.proofs.lemmas.List.{map-append}
use Rattle.fst_lines.specs.Parsing.{patch_numbers}
use Rattle.fst_lines.proofs.NumbersLemmas.{taken-before, taken-more}
use Rattle.fst_lines.proofs.names.take_list.Goals as goal

pub loop-init : goal.loop-init
loop-init c = rw c.requires (taken-before _)

pub loop-preserved : goal.loop-preserved
loop-preserved c =
    let l = c.loop in
    let pushed = rw (← c.if-is_ok.ensures.value) at c.push.ensures.items in
    rw (pushed, map-append) (taken-more (patch_numbers l.patches.items) _ c.in-Some-Number.text.now c.next.new.self _ c.in-Some.ensures (rw (c.in-Some-Number.ensures.value, c.in-Some-Number.field-0-is) at l.invariant))
