use Rattle.std.proofs.Common.{ℕ, ◌+◌, ◌<◌, get_or}
use Rattle.fst_block.specs.Choices.{numbers_of}
use Rattle.fst_tests.proofs.block.choice.rises.Given as goal

abbrev pub invariant-loop-i : goal.invariant-loop-i
invariant-loop-i l = (k : ℕ) → k + 1 < l.i → get_or (numbers_of l.chosen) k 0 < get_or (numbers_of l.chosen) (k + 1) 0
