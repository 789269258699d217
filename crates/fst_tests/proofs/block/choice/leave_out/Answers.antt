use Rattle.std.proofs.Common.{◌≡◌, List, get_or, subst, sym, arith}
use Rattle.fst_block.specs.BlockView.{BlockPatch}
use Rattle.fst_block.specs.Choices.{others_of}
use Rattle.fst_tests.proofs.Tested.{Leaves, leaves_one, passes_one}
use Rattle.fst_tests.proofs.block.choice.leave_out.Goals as goal

pub loop-at-preserved-then-is_named : goal.loop-at-preserved-then-is_named
loop-at-preserved-then-is_named c =
    let ps = c.loop-at.changes.items in
    let read = subst (λ (q : BlockPatch). q ≡ get_or ps c.loop-at.at q) (sym c.behind-changes.view_is) c.index.ensures in
    subst (λ (xs : List BlockPatch). Leaves c.args.chosen.now (others_of c.args.chosen.now c.args.changes.now.items) xs c.loop-at.at) (sym c.remove.ensures.items)
    (leaves_one _ _ ps c.loop-at.at c.loop-at.invariant _ (omega (arith, c.loop-at-test.true, c.len.ensures, c.loop-at.changes.ok.0)) read c.is_named.result c.is_named.ensures c.if-is_named.true)

pub loop-at-preserved : goal.loop-at-preserved
loop-at-preserved c =
    let ps = c.loop-at.changes.items in
    let read = subst (λ (q : BlockPatch). q ≡ get_or ps c.loop-at.at q) (sym c.behind-changes.view_is) c.index.ensures in
    passes_one _ _ ps c.loop-at.at c.loop-at.invariant _ (omega (arith, c.loop-at-test.true, c.len.ensures, c.loop-at.changes.ok.0)) read c.is_named.result c.is_named.ensures c.if-is_named.false
