-- What a run of the program leaves, by its status.
use Rattle.std.specs.Prelude.{◌≡◌, ◌≢◌, ◌⊎◌, ◌*◌, ⊤, ℕ, List, [], Option, Result, unwrap_or, length}
use Rattle.std.specs.Io.KnownBytes.{Appends, Consumes, IsAtEnd}
use Rattle.clap.specs.Words.{Text, IsAmong, fault_of}
use Rattle.clap.specs.declared.error.kind.ErrorKind.{ErrorKind}
use Rattle.clap.specs.declared.error.kind.ErrorKind.TheVariants.{DisplayHelp}
use Rattle.fst_types.specs.Limits.{IsShape}
use Rattle.fst_types.specs.declared.shape.Shape.{Shape}
use Rattle.fst_crew.specs.Crewing.{IsCrew, told}
use Rattle.fst_program.specs.Arguments.{Asks}
use Rattle.fst_program.specs.Program.{program}
use Rattle.fst_player.specs.Play.{Plays}
use Rattle.fst_player.specs.Script.{PlayerState, opened, IsScriptRun}
use Rattle.fst_player.specs.Stream.{lines}
use Rattle.fst_player.specs.declared.play.PlayFault.{PlayFault}
use Rattle.fst_program.specs.declared.arguments.Run.{Run}
use Rattle.fst_program.specs.declared.arguments.Run.TheVariants.{Play, Crew}

-- the numbers are within their limits; as many blocks as there are may be in memory, unless it is said how many
abbrev pub IsInRange : Run → Type 0
IsInRange (Play blocks size resident) = IsShape blocks size (unwrap_or resident blocks)
IsInRange (Crew files workers rounds) = IsCrew files workers rounds

-- the shape that a play is to have
abbrev pub HasNumbers : Shape → ℕ → ℕ → Option ℕ → Type 0
HasNumbers shape blocks size resident = (shape.blocks ≡ blocks) × (shape.size ≡ size) × (shape.resident ≡ unwrap_or resident blocks)

-- what a run to its end has read, what the reader has left, and what it has printed: a whole script, and its replies; or nothing, and what the crew made and the eight blocks
abbrev pub Completes : Run → List ℕ → Option (List ℕ) → List ℕ → Type 0
Completes (Play blocks size resident) given left sent =
    (shape : Shape) × HasNumbers shape blocks size resident × IsAtEnd left × (last : PlayerState) × IsScriptRun (opened shape) (lines given) sent last
Completes (Crew files workers rounds) given left sent =
    (given ≡ []) × (blocks : List (List ℕ)) × (length blocks ≡ 8) × (sent ≡ told (files * rounds) blocks)

-- the run went to its end; unread is what the reader had left, printed what the writer held, before and after
pub record Ran (run : Run) (unread unread' printed printed' : Option (List ℕ)) : Type 0 where
  pub in_range : IsInRange run
  pub given : List ℕ
  pub sent : List ℕ
  pub read : Consumes unread unread' given
  pub wrote : Appends printed printed' sent
  pub completes : Completes run given unread' sent

-- the run was stopped: a play has read and printed what plays do until they end; a crew reads nothing
abbrev pub WasStopped : Run → Option (List ℕ) → Option (List ℕ) → Option (List ℕ) → Option (List ℕ) → Type 0
WasStopped (Play blocks size resident) unread unread' printed printed' =
    (shape : Shape) × HasNumbers shape blocks size resident × (given : List ℕ) × (sent : List ℕ) × Consumes unread unread' given × Appends printed printed' sent
    × (ended : Result ⊤ PlayFault) × Plays shape given unread' sent ended
WasStopped (Crew files workers rounds) unread unread' printed printed' = unread' ≡ unread

-- the words ask for help
abbrev pub AsksHelp : List Text → Type 0
AsksHelp words = IsAmong DisplayHelp (fault_of program words)

-- nothing was run, and nothing read: help could not be printed, or memory was refused, and nothing printed
abbrev pub RanNothing : List Text → Option (List ℕ) → Option (List ℕ) → Option (List ℕ) → Option (List ℕ) → Type 0
RanNothing words unread unread' printed printed' = (AsksHelp words ⊎ (printed' ≡ printed)) × (unread' ≡ unread)

-- `clap` finds a fault in the words, and they ask for no help
abbrev pub HasFault : List Text → Type 0
HasFault words = (kind : ErrorKind) × IsAmong kind (fault_of program words) × (kind ≢ DisplayHelp)

-- the words are refused: for themselves, or since a number that they ask is out of its limits
abbrev pub AreRefused : List Text → Type 0
AreRefused words = HasFault words ⊎ ((run : Run) × Asks words run × (IsInRange run → ⊥))
