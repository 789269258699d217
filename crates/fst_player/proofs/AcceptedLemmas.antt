-- A call that makes nothing: what is kept then, and what is told, whether it was accepted or refused.
use Rattle.std.proofs.Common.{◌≡◌, ℕ, false, List, [], ◌∷◌, ◌++◌, Option, Some, Result, Ok, Err, sym}
use Rattle.std.specs.Prelude.{MatchResult}
use Rattle.fst_types.specs.declared.shape.Shape.{Shape}
use Rattle.fst_types.specs.declared.fault.Fault.{Fault}
use Rattle.fst_types.specs.State.{State}
use Rattle.fst_types.specs.Events.{Event, Accepted as Agreed, Refused}
use Rattle.fst_types.specs.Step.{Step}
use Rattle.fst_types.specs.Run.{ChangeMade}
use Rattle.fst_device.specs.JobView.{JobView}
use Rattle.fst_device.specs.MemoryView.{MemoryView}
use Rattle.fst_lines.specs.Commands.{Command}
use Rattle.fst_lines.specs.Sending.{Sends}
use Rattle.fst_lines.specs.Replies.{refusal}
use Rattle.fst_player.specs.Script.{call_of, text_of, after_call}
use Rattle.fst_player.specs.Kept.{IsKept}
use Rattle.fst_player.specs.Answering.{Obeyed}
use Rattle.fst_player.proofs.KeptLemmas.{refused_same}
use Rattle.fst_player.proofs.TellLemmas.{player_at, Obeyed-called}

-- what was answered to the call
abbrev pub Answers : {U : Type 0} → Result U Fault → State → Event → State → Type 0
Answers answer old e new = MatchResult answer (λ u. Step old e Agreed new) (λ fault. Step old e (Refused fault) new)

pub accepted_kept : {U : Type 0} (answer : Result U Fault) (shape : Shape) (share : ℕ) (old new : State) (e : Event) (jobs : List (JobView MemoryView)) (made : List ChangeMade) (kept : List (List ℕ))
    → Answers answer old e new → IsKept shape share old jobs made kept → (Step old e Agreed new → IsKept shape share new jobs made kept) → IsKept shape share new jobs made kept
accepted_kept (Ok u) shape share old new e jobs made kept step K more = more step
accepted_kept (Err f) shape share old new e jobs made kept step K more = rw (refused_same old new e f step) K

pub Obeyed-accepted : {U T E : Type 0} (answer : Result U Fault) (old new : State) (c : Command) (e : Event) (jobs : List (JobView MemoryView)) (made : List ChangeMade) (a b : Option (List ℕ)) (told : Result T E)
    → call_of (player_at old jobs made) false c ≡ Some e → Answers answer old e new
    → MatchResult answer (λ u. Sends a b told (text_of new e Agreed ++ 10 ∷ [])) (λ fault. Sends a b told (refusal fault ++ 10 ∷ []))
    → after_call (player_at old jobs made) e Agreed new ≡ player_at new jobs made
    → ((fault : Fault) → after_call (player_at old jobs made) e (Refused fault) new ≡ player_at new jobs made)
    → Obeyed (player_at old jobs made) c a b told (player_at new jobs made)
Obeyed-accepted (Ok u) old new c e jobs made a b told call step sent same none =
    Obeyed-called (player_at old jobs made) (player_at new jobs made) c false e Agreed new a b told call step (sym same) sent
Obeyed-accepted (Err f) old new c e jobs made a b told call step sent same none =
    Obeyed-called (player_at old jobs made) (player_at new jobs made) c false e (Refused f) new a b told call step (sym (none f)) sent
