use Rattle.fst_types.proofs.OneOutcome.{rows_are_fixed}
use Rattle.fst_types.proofs.OneRefusal.{steps_are_fixed}
use Rattle.fst_types.proofs.laws.steps_are_fixed.Goals as goal

pub returns : goal.returns
returns c = record { rows = rows_are_fixed; steps = steps_are_fixed }
