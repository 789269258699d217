use Rattle.std.specs.Prelude.{ℕ, ◌+◌, List, Bool, true, false}
use Rattle.fst_device.specs.MemoryView.{MemoryView}
use Rattle.fst_device.specs.declared.arm.NextWrite.{NextWrite}
use Rattle.fst_device.specs.declared.arm.NextWrite.TheVariants.{Works, FailsBefore, FailsAfter}

-- whether the write works
abbrev pub works : NextWrite → Bool
works Works = true
works FailsBefore = false
works FailsAfter = false

-- one more call has failed
abbrev pub with_fault : Bool → MemoryView → MemoryView
with_fault true s = record s { faults = s.faults + 1 }
with_fault false s = s

-- the slot after a read: it is armed no more
abbrev pub after_read : MemoryView → MemoryView
after_read s = record (with_fault s.read_fails s) { read_fails = false }

-- the slot after what its next write was to do with these bytes
abbrev pub after_next : NextWrite → MemoryView → List ℕ → MemoryView
after_next Works s from = record s { bytes = from }
after_next FailsBefore s from = record s { faults = s.faults + 1; next_write = Works }
after_next FailsAfter s from = record s { bytes = from; faults = s.faults + 1; next_write = Works }

-- the slot after a write of these bytes: it is armed no more
abbrev pub after_write : MemoryView → List ℕ → MemoryView
after_write s from = after_next s.next_write s from
