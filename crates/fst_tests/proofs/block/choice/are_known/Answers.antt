use Rattle.std.proofs.Common.{◌≤◌, length, subst, arith, below_more, refl}
use Rattle.std.proofs.lemmas.List.{get_or_default}
use Rattle.fst_types.specs.declared.number.PatchNo.{PatchNo}
use Rattle.fst_tests.specs.Tested.{IsKnown}
use Rattle.fst_tests.proofs.block.choice.are_known.Goals as goal

pub loop-no-preserved : goal.loop-no-preserved
loop-no-preserved c = below_more _ _ c.loop-no.invariant (c.if-not-is_known.ensures refl)

pub returns : goal.returns
returns c = λ is k d h.
    let none : PatchNo = record { 0 = 0 } in
    let past : length c.args.chosen.now ≤ c.loop-no.no-index = omega arith in
    subst (λ (n : PatchNo). IsKnown c.args.changes.now n.0) (get_or_default c.args.chosen.now k none d h) (c.loop-no.invariant k (omega arith))
