use Rattle.std.specs.Prelude.{ℕ, List, Bool}
use Rattle.fst_device.specs.declared.arm.NextWrite.{NextWrite}

-- A slot in memory, with what its next read and its next write are armed to do.
pub record MemoryView : Type 0 where
  pub index : ℕ
  pub bytes : List ℕ
  pub faults : ℕ
  pub read_fails : Bool
  pub next_write : NextWrite
