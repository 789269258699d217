-- What a play leaves.
use Rattle.std.specs.Prelude.{◌≡◌, ◌⊎◌, ℕ, List, [], ◌++◌, Option, Result, Ok, Err}
use Rattle.std.specs.Io.KnownBytes.{IsAtEnd}
use Rattle.fst_types.specs.declared.shape.Shape.{Shape}
use Rattle.fst_types.specs.declared.fault.Fault.TheVariants as fault
use Rattle.fst_player.specs.Stream.{parted, lines}
use Rattle.fst_player.specs.Script.{PlayerState, opened, IsScriptRun}
use Rattle.fst_player.specs.declared.play.PlayFault.{PlayFault}
use Rattle.fst_player.specs.declared.play.PlayFault.TheVariants.{Read, Write, Start}

-- the lines that are there once given was read: those whose end was read, or, with nothing left to read, a last one with no end among them
abbrev pub AreThere : List (List ℕ) → List ℕ → Option (List ℕ) → Type 0
AreThere asked given left = (asked ≡ (parted given).ended) ⊎ ((asked ≡ lines given) × IsAtEnd left)

-- given is what the reader gave, left what it has left, sent what the writer took: the replies to its lines; those to the lines whose end was read, where the reader failed; a beginning of the replies to the lines that are there, where the writer failed; nothing, where memory was refused to the player at its start
abbrev pub Plays : {T : Type 0} → Shape → List ℕ → Option (List ℕ) → List ℕ → Result T PlayFault → Type 0
Plays shape given left sent (Ok u) = (last : PlayerState) × IsScriptRun (opened shape) (lines given) sent last
Plays shape given left sent (Err Read) = (last : PlayerState) × IsScriptRun (opened shape) (parted given).ended sent last
Plays shape given left sent (Err Write) =
    (asked : List (List ℕ)) × AreThere asked given left × (full : List ℕ) × (more : List ℕ) × (last : PlayerState) × IsScriptRun (opened shape) asked full last × (sent ++ more ≡ full)
Plays shape given left sent (Err (Start f)) = (f ≡ fault.Memory) × (given ≡ []) × (sent ≡ [])
