use Rattle.std.proofs.Common.{arith}
use Rattle.std.proofs.lemmas.Grind.{common_steps}
use Rattle.fst_player.proofs.zeros.zero_slot.Goals as goal

pub returns-in_err-bytes : goal.returns-in_err-bytes
returns-in_err-bytes c = grind (arith, common_steps)

pub returns : goal.returns
returns c = grind (arith, common_steps)
