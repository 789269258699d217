use Rattle.std.proofs.Common.{◌-◌, vec_len}
use Rattle.fst_block.specs.Choices.{others_of}
use Rattle.fst_tests.proofs.Tested.{Leaves}
use Rattle.fst_tests.proofs.block.choice.leave_out.Given as goal

abbrev pub invariant-loop-at : goal.invariant-loop-at
invariant-loop-at l = Leaves l.chosen (others_of l.chosen l.initial.changes.items) l.changes.items l.at

abbrev pub decreases-loop-at : goal.decreases-loop-at
decreases-loop-at l = vec_len l.changes - l.at
