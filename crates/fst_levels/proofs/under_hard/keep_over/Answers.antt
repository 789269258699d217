use Rattle.std.proofs.lemmas.Grind.{common_steps}
use Rattle.std.proofs.Common.{rules, arith}
use Rattle.fst_levels.proofs.under_hard.keep_over.Goals as goal

pub put_hard_over-requires-clause-under : goal.put_hard_over-requires-clause-under
put_hard_over-requires-clause-under c = search rules

pub level-requires : goal.level-requires
level-requires c = grind (arith, common_steps)

pub returns-clause-met : goal.returns-clause-met
returns-clause-met c = grind (arith, common_steps)
