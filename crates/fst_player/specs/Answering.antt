-- What answering a line does.
use Rattle.std.specs.Prelude.{ℕ, List, [], ◌∷◌, ◌++◌, Option, Result, Ok}
use Rattle.fst_lines.specs.Sending.{Sends}
use Rattle.fst_lines.specs.Commands.{Command}
use Rattle.fst_player.specs.Script.{PlayerState, MayReply, Answers}
use Rattle.fst_player.specs.Lines.{Holds}
use Rattle.fst_player.specs.declared.line.Line.{Line}

-- the reply to a command was sent, or that memory was refused
abbrev pub Obeyed : {T E : Type 0} → PlayerState → Command → Option (List ℕ) → Option (List ℕ) → Result T E → PlayerState → Type 0
Obeyed p c old new r q = (reply : List ℕ) × MayReply p (Ok c) reply q × Sends old new r (reply ++ 10 ∷ [])

-- the reply to a line with these bytes was sent
abbrev pub Answered : {T E : Type 0} → PlayerState → Line → Option (List ℕ) → Option (List ℕ) → Result T E → PlayerState → Type 0
Answered p line old new r q = (text : List ℕ) → Holds line text → (reply : List ℕ) × Answers p text reply q × Sends old new r (reply ++ 10 ∷ [])
