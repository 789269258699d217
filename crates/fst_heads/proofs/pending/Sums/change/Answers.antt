use Rattle.fst_heads.proofs.Basics.{arith, common_steps}
use Rattle.fst_heads.proofs.pending.Sums.change.Goals as goal

pub add-requires-clause-room : goal.add-requires-clause-room
add-requires-clause-room c = grind (arith, common_steps)

pub returns-clause-moved : goal.returns-clause-moved
returns-clause-moved c = grind (arith, common_steps)
