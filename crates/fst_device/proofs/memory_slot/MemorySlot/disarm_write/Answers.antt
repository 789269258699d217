use Rattle.std.proofs.Common.{rules}
use Rattle.fst_device.proofs.memory_slot.MemorySlot.disarm_write.Goals as goal

pub returns : goal.returns
returns c = search rules
