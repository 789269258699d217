use Rattle.std.proofs.Common.{arith}
use Rattle.std.proofs.lemmas.Grind.{common_steps}
use Rattle.fst_player.proofs.session.Session.keep.Goals as goal

pub returns-then-is_empty-clause-held : goal.returns-then-is_empty-clause-held
returns-then-is_empty-clause-held c = grind (arith, common_steps)

pub returns-then-is_empty-clause-kept : goal.returns-then-is_empty-clause-kept
returns-then-is_empty-clause-kept c = grind (arith, common_steps)

pub returns-in-Long-clause-held : goal.returns-in-Long-clause-held
returns-in-Long-clause-held c = grind (arith, common_steps)

pub returns-in-Long-clause-kept : goal.returns-in-Long-clause-kept
returns-in-Long-clause-kept c = grind (arith, common_steps)

pub returns-then-saturating_sub-bytes-clause-held : goal.returns-then-saturating_sub-bytes-clause-held
returns-then-saturating_sub-bytes-clause-held c = grind (arith, common_steps)

pub returns-then-saturating_sub-bytes-clause-kept : goal.returns-then-saturating_sub-bytes-clause-kept
returns-then-saturating_sub-bytes-clause-kept c = grind (arith, common_steps)

pub returns-then-not-is_kept-clause-held : goal.returns-then-not-is_kept-clause-held
returns-then-not-is_kept-clause-held c = grind (arith, common_steps)

pub returns-then-not-is_kept-clause-kept : goal.returns-then-not-is_kept-clause-kept
returns-then-not-is_kept-clause-kept c = grind (arith, common_steps)

pub returns-else-not-is_kept-clause-held : goal.returns-else-not-is_kept-clause-held
returns-else-not-is_kept-clause-held c = grind (arith, common_steps)

pub returns-else-not-is_kept-clause-kept : goal.returns-else-not-is_kept-clause-kept
returns-else-not-is_kept-clause-kept c = grind (arith, common_steps)

pub overflow_add-so_far : goal.overflow_add-so_far
overflow_add-so_far c = grind (arith, common_steps)
