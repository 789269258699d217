use Rattle.std.proofs.Common.{rules}
use Rattle.fst_device.proofs.memory_slot.MemorySlotBlockSlot.read.Goals as goal

pub returns-clause-filled : goal.returns-clause-filled
returns-clause-filled c = search rules

pub returns-then-self-clause-slot : goal.returns-then-self-clause-slot
returns-then-self-clause-slot c = search rules
