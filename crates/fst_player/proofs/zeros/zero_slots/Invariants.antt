use Rattle.std.proofs.Common.{◌≡◌, map}
use Rattle.std.specs.List.{range_with_len}
use Rattle.fst_player.specs.Zeros.{zero_slot}
use Rattle.fst_player.proofs.zeros.zero_slots.Given as goal

abbrev pub invariant-loop-block : goal.invariant-loop-block
invariant-loop-block l = l.slots.items ≡ map (zero_slot l.size) (range_with_len 0 l.block)
