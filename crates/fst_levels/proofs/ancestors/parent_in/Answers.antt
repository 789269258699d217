use Rattle.std.proofs.Common.{arith}
use Rattle.std.proofs.lemmas.Grind.{common_steps}
use Rattle.fst_levels.proofs.ancestors.parent_in.Goals as goal

pub returns-then-last-number-clause-older : goal.returns-then-last-number-clause-older
returns-then-last-number-clause-older c = grind (arith, common_steps)
