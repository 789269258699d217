-- The change that an answer tells of.
use Rattle.std.specs.Prelude.{ℕ, List, Option, Some, None, Result, Ok, Err}
use Rattle.fst_types.specs.declared.number.PatchNo.{PatchNo}
use Rattle.fst_types.specs.declared.grade.Grade.{Grade}
use Rattle.fst_types.specs.declared.fault.Fault.{Fault}
use Rattle.fst_types.specs.Run.{ChangeMade}

-- the change that was asked for, where the answer is that it was made
abbrev pub change_told : Result (PatchNo × Grade) Fault → (block at : ℕ) → List ℕ → Option ChangeMade
change_told (Ok to) block at bytes = Some (record { number = to.0.0; block = block; write = record { at = at; bytes = bytes } })
change_told (Err f) block at bytes = None
