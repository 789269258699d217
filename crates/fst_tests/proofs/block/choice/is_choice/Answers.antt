use Rattle.std.proofs.Common.{refl}
use Rattle.fst_tests.proofs.Tested.{choice_from}
use Rattle.fst_tests.proofs.block.choice.is_choice.Goals as goal

pub returns : goal.returns
returns c = λ closed. choice_from _ _ (c.if-not-rises.ensures refl) (c.if-not-are_known.ensures refl) (c.if-not-has_hard.ensures refl) (c.is_closed.ensures closed)
