use Rattle.std.proofs.Common.{sym, zero-add}
use Rattle.std.proofs.lemmas.List.FromFn.{map-range_with_len_more}
use Rattle.fst_player.specs.Zeros.{zero_slot}
use Rattle.fst_player.proofs.zeros.zero_slots.Goals as goal

pub loop-block-preserved : goal.loop-block-preserved
loop-block-preserved c =
    let size = c.args.size in
    let block = c.loop-block.block in
    rw (c.in_ok-push.ensures.items, c.loop-block.invariant, c.in_ok-zero_slot.ensures) (sym (map-range_with_len_more (zero_slot size) 0 block block (zero-add block)))
