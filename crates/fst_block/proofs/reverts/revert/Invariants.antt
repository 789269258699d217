use Rattle.std.proofs.Common.{◌≡◌, ◌-◌, ◌<◌}
use Rattle.fst_chain.specs.Cursors.{cursor_list, cursor_place, cursor_lender}
use Rattle.fst_block.specs.Choices.{is_chosen}
use Rattle.fst_block.specs.Reverts.{reverted}
use Rattle.fst_block.proofs.Walks.{Reverts}
use Rattle.fst_block.proofs.reverts.revert.Given as goal

abbrev pub invariant-loop-to_meet : goal.invariant-loop-to_meet
invariant-loop-to_meet l =
    (cursor_lender l.cursor ≡ cursor_lender l.initial.cursor)
    × (cursor_list l.cursor ≡ cursor_list l.initial.cursor)
    × (0 < l.to_go → cursor_place l.cursor ≡ l.to_go - 1)
    × Reverts l.chosen (reverted (is_chosen l.chosen) l.initial.image (cursor_list l.initial.cursor)) l.image (cursor_list l.cursor) l.to_go l.to_meet

abbrev pub decreases-loop-to_meet : goal.decreases-loop-to_meet
decreases-loop-to_meet l = l.to_go
