use Rattle.std.proofs.Common.{arith}
use Rattle.std.proofs.lemmas.Grind.{common_steps}
use Rattle.fst_player.proofs.player.Player.finish_fault.Goals as goal

pub returns-then-block-self : goal.returns-then-block-self
returns-then-block-self c = grind (arith, common_steps)

pub returns-then-is_some : goal.returns-then-is_some
returns-then-is_some c = grind (arith, common_steps)

pub returns : goal.returns
returns c = grind (arith, common_steps)
