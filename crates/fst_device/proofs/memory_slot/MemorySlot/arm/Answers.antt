use Rattle.std.proofs.Common.{rules}
use Rattle.fst_device.proofs.memory_slot.MemorySlot.arm.Goals as goal

pub returns-in-WriteFailsBefore : goal.returns-in-WriteFailsBefore
returns-in-WriteFailsBefore c = search rules
