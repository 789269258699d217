use Rattle.std.proofs.Common.{◌≡◌, length, take}
use Rattle.fst_lines.specs.Parsing.{block_numbers}
use Rattle.fst_player.specs.Marks.{AreMarks}
use Rattle.fst_player.proofs.player.crash.marks_of.Given as goal

-- of the blocks so far each is marked
abbrev pub invariant-loop-block : goal.invariant-loop-block
invariant-loop-block l = (length l.marks ≡ 4096) × AreMarks l.marks (block_numbers (take l.block-index l.blocks))
