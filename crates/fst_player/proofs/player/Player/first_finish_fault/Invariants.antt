use Rattle.std.proofs.Common.{◌≡◌, drop}
use Rattle.fst_player.specs.Script.{first_finish_fault}
use Rattle.fst_lines.specs.Parsing.{block_numbers}
use Rattle.fst_player.proofs.player.Player.first_finish_fault.Given as goal

abbrev pub invariant-loop-block : goal.invariant-loop-block
invariant-loop-block l = first_finish_fault l.self.cache (block_numbers (drop l.block-index l.finish)) ≡ first_finish_fault l.self.cache (block_numbers l.finish)
