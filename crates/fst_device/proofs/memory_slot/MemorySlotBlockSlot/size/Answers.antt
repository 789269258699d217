use Rattle.std.proofs.Common.{rules}
use Rattle.fst_device.proofs.memory_slot.MemorySlotBlockSlot.size.Goals as goal

pub returns : goal.returns
returns c = search rules
