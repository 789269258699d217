use Rattle.std.proofs.Common.{rules}
use Rattle.fst_device.proofs.done.Done.into_slot.Goals as goal

pub returns-clause-slot : goal.returns-clause-slot
returns-clause-slot g c = search rules
