use Rattle.std.proofs.Common.{take}
use Rattle.std.specs.List.{flat_map}
use Rattle.std.specs.Io.KnownBytes.{Appends}
use Rattle.fst_lines.specs.Parsing.{block_numbers}
use Rattle.fst_lines.specs.Replies.{crash_part}
use Rattle.fst_player.specs.Script.{left_of_each}
use Rattle.fst_player.proofs.player.Player.send_each_left.Given as goal

abbrev pub invariant-loop-block : goal.invariant-loop-block
invariant-loop-block g l =
    let contents = g.W.Write.contents in
    Appends (contents l.fn.writer) (contents l.writer) (flat_map crash_part (take l.block (left_of_each l.self (block_numbers l.finish))))
