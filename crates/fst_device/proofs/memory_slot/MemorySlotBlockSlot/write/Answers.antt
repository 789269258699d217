use Rattle.std.proofs.Common.{rules}
use Rattle.fst_device.proofs.memory_slot.MemorySlotBlockSlot.write.Goals as goal

pub returns-clause-written : goal.returns-clause-written
returns-clause-written c = search rules

pub returns-clause-slot : goal.returns-clause-slot
returns-clause-slot c = search rules
