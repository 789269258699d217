-- Slots at the start of a play.
use Rattle.std.specs.Prelude.{ℕ, replicate, false}
use Rattle.fst_device.specs.MemoryView.{MemoryView}
use Rattle.fst_device.specs.declared.arm.NextWrite.TheVariants.{Works}

-- the slot of a block, with zero bytes
abbrev pub zero_slot : ℕ → ℕ → MemoryView
zero_slot size block = record { index = block; bytes = replicate size 0; faults = 0; read_fails = false; next_write = Works }
