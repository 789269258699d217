use Rattle.std.proofs.Common.{arith}
use Rattle.std.proofs.lemmas.Grind.{common_steps}
use Rattle.fst_pairs.proofs.desk.Desk.close_fault.Goals as goal

pub returns-then-is_out-clause-some : goal.returns-then-is_out-clause-some
returns-then-is_out-clause-some g c = grind (arith, common_steps)

pub returns-then-is_out-clause-none : goal.returns-then-is_out-clause-none
returns-then-is_out-clause-none g c = grind (arith, common_steps)

pub returns-then-has_stray-clause-some : goal.returns-then-has_stray-clause-some
returns-then-has_stray-clause-some g c = grind (arith, common_steps)

pub returns-then-has_stray-clause-none : goal.returns-then-has_stray-clause-none
returns-then-has_stray-clause-none g c = grind (arith, common_steps)

pub returns-clause-some : goal.returns-clause-some
returns-clause-some g c = grind (arith, common_steps)

pub returns-clause-none : goal.returns-clause-none
returns-clause-none g c = grind (arith, common_steps)
