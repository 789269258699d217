use Rattle.std.proofs.Common.{◌+◌, drop, drop_of_length-le, sym}
use Rattle.std.proofs.lemmas.List.{map-append}
use Rattle.serde_json.specs.View.{view, items_view}
use Rattle.fst_lines.specs.Parsing.{patch_numbers}
use Rattle.fst_types.specs.declared.fault.Fault.TheVariants as fault
use Rattle.fst_lines.proofs.NumbersLemmas.{read-before, read-more, read-refused, read-all, next-item}
use Rattle.fst_lines.proofs.members.patches.Goals as goal

pub loop-value-init : goal.loop-value-init
loop-value-init c = rw c.new-patches.ensures.items (read-before _)

pub returns-in_default : goal.returns-in_default
returns-in_default c =
    let l = c.loop-value in
    let next = next-item c.args.values.now l.value-index c.value-item.result c.loop-value-test.true c.value-item.is in
    read-refused (patch_numbers l.patches.items) fault.BadField (view c.value-item.result) (items_view (drop (l.value-index + 1) c.args.values.now)) _ (sym c.in_default.ensures) (rw next at l.invariant)

pub returns-then-is_err : goal.returns-then-is_err
returns-then-is_err c = tt

pub loop-value-preserved : goal.loop-value-preserved
loop-value-preserved c =
    let l = c.loop-value in
    let next = next-item c.args.values.now l.value-index c.value-item.result c.loop-value-test.true c.value-item.is in
    let pushed = rw (c.is_err.ensures.negation, c.if-is_err.false) at c.push.ensures.items in
    rw (pushed, map-append) (read-more (patch_numbers l.patches.items) _ (view c.value-item.result) (items_view (drop (l.value-index + 1) c.args.values.now)) _ (sym c.in-Some.ensures) (rw next at l.invariant))

pub returns : goal.returns
returns c = read-all (patch_numbers c.loop-value.patches.items) _ (rw (drop_of_length-le c.args.values.now c.loop-value-test.false) at c.loop-value.invariant)
