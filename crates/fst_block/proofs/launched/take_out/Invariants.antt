use Rattle.std.proofs.Common.{◌≡◌, ◌-◌, ◌<◌, ◌^◌, length}
use Rattle.fst_chain.specs.Cursors.{cursor_list, cursor_place, cursor_lender}
use Rattle.fst_block.specs.BlockView.{fold_of, soft_lengths}
use Rattle.fst_block.specs.Choices.{chosen_of}
use Rattle.fst_block.specs.Reverts.{patches_of, entries_left}
use Rattle.fst_block.proofs.Takes.{TakesOut}
use Rattle.fst_block.proofs.launched.take_out.Given as goal

abbrev pub invariant-loop-met : goal.invariant-loop-met
invariant-loop-met l =
    let es = cursor_list l.initial.cursor in
    let taken = chosen_of l.chosen (patches_of es) in
    (cursor_lender l.cursor ≡ cursor_lender l.initial.cursor)
    × (soft_lengths (patches_of es) < 2 ^ 64)
    × TakesOut l.chosen (entries_left l.chosen es) (fold_of l.initial.base.items taken) (soft_lengths taken)
    l.base.items (cursor_list l.cursor) (cursor_place l.cursor) l.met l.undo

abbrev pub decreases-loop-met : goal.decreases-loop-met
decreases-loop-met l = length (cursor_list l.cursor) - cursor_place l.cursor
