use Rattle.std.proofs.Common.{arith}
use Rattle.std.proofs.lemmas.Grind.{common_steps}
use Rattle.fst_player.proofs.session.Session.has_bytes.Goals as goal

pub returns-in-Kept-clause-some : goal.returns-in-Kept-clause-some
returns-in-Kept-clause-some c = grind (arith, common_steps)

pub returns-in-Kept-clause-none : goal.returns-in-Kept-clause-none
returns-in-Kept-clause-none c = grind (arith, common_steps)

pub returns-in-Long-clause-some : goal.returns-in-Long-clause-some
returns-in-Long-clause-some c = grind (arith, common_steps)

pub returns-in-Long-clause-none : goal.returns-in-Long-clause-none
returns-in-Long-clause-none c = grind (arith, common_steps)
