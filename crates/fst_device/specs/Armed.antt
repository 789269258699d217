use Rattle.std.specs.Prelude.{true}
use Rattle.fst_device.specs.MemoryView.{MemoryView}
use Rattle.fst_device.specs.declared.arm.Arm.{Arm}
use Rattle.fst_device.specs.declared.arm.Arm.TheVariants.{ReadFails, WriteFailsBefore, WriteFailsAfter}
use Rattle.fst_device.specs.declared.arm.NextWrite.TheVariants.{FailsBefore, FailsAfter}

-- the slot with this arm: reads and writes are armed apart, and the newest arm of each counts
abbrev pub armed : Arm → MemoryView → MemoryView
armed ReadFails s = record s { read_fails = true }
armed WriteFailsBefore s = record s { next_write = FailsBefore }
armed WriteFailsAfter s = record s { next_write = FailsAfter }
