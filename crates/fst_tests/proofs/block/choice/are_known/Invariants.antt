use Rattle.std.proofs.Common.{ℕ, ◌<◌, get_or}
use Rattle.fst_types.specs.declared.number.PatchNo.{PatchNo}
use Rattle.fst_tests.specs.Tested.{IsKnown}
use Rattle.fst_tests.proofs.block.choice.are_known.Given as goal

abbrev pub invariant-loop-no : goal.invariant-loop-no
invariant-loop-no l =
    let none : PatchNo = record { 0 = 0 } in
    (k : ℕ) → k < l.no-index → IsKnown l.changes (get_or l.chosen k none).0
