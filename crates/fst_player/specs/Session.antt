-- A play in progress.
use Rattle.std.specs.Prelude.{◌≡◌, ℕ, List, ◌++◌, Option, Result, Ok, Err}
use Rattle.std.specs.Io.KnownBytes.{Appends}
use Rattle.fst_player.specs.Stream.{parted, lines}
use Rattle.fst_player.specs.Script.{PlayerState, IsScriptRun}
use Rattle.fst_player.specs.Lines.{Holds}
use Rattle.fst_player.specs.declared.session.Session.{Session}

-- from first on, given was read and sent was written so far
pub record IsAt (first : PlayerState) (given sent : List ℕ) (s : Session) : Type 0 where
  pub run : IsScriptRun first (parted given).ended sent s.player
  pub held : Holds s.line (parted given).rest

-- of the replies to the lines that end in given, the writer took a beginning
pub record StopsIn (first : PlayerState) (given sent : List ℕ) (old new : Option (List ℕ)) : Type 0 where
  pub full : List ℕ
  pub last : PlayerState
  pub run : IsScriptRun first (parted given).ended full last
  pub part : List ℕ
  pub more : List ℕ
  pub taken : Appends old new part
  pub is_beginning : sent ++ (part ++ more) ≡ full

-- from any point that the session is at, the piece leads on
abbrev pub Leads : Session → List ℕ → Option (List ℕ) → Option (List ℕ) → Session → Type 0
Leads s piece old new t =
    (first : PlayerState) (given sent : List ℕ) → IsAt first given sent s → (more : List ℕ) × Appends old new more × IsAt first (given ++ piece) (sent ++ more) t

-- from any such point, the writer stopped within the replies
abbrev pub Stops : Session → List ℕ → Option (List ℕ) → Option (List ℕ) → Type 0
Stops s piece old new = (first : PlayerState) (given sent : List ℕ) → IsAt first given sent s → StopsIn first (given ++ piece) sent old new

abbrev pub Feeds : {T E : Type 0} → Session → List ℕ → Option (List ℕ) → Option (List ℕ) → Result T E → Session → Type 0
Feeds s piece old new (Ok u) t = Leads s piece old new t
Feeds s piece old new (Err e) t = Stops s piece old new

-- at the end of the stream: the replies to its lines, a last one with no end among them
abbrev pub Finishes : {T E : Type 0} → Session → Option (List ℕ) → Option (List ℕ) → Result T E → Type 0
Finishes s old new (Ok u) =
    (first : PlayerState) (given sent : List ℕ) → IsAt first given sent s → (more : List ℕ) × (last : PlayerState) × Appends old new more × IsScriptRun first (lines given) (sent ++ more) last
Finishes s old new (Err e) =
    (first : PlayerState) (given sent : List ℕ) → IsAt first given sent s → (part : List ℕ) × (more : List ℕ) × (last : PlayerState) × Appends old new part × IsScriptRun first (lines given) (sent ++ (part ++ more)) last
