-- A change that was asked for: what is kept then, and what is told, whether it was made or refused.
use Rattle.std.proofs.Common.{◌≡◌, ℕ, ◌+◌, Bool, List, [], ◌∷◌, ◌++◌, Option, Some, Result, Ok, Err, sym}
use Rattle.std.specs.Prelude.{MatchResult}
use Rattle.fst_types.specs.declared.number.PatchNo.{PatchNo}
use Rattle.fst_types.specs.declared.shape.Shape.{Shape}
use Rattle.fst_types.specs.declared.grade.Grade.{Grade}
use Rattle.fst_types.specs.declared.fault.Fault.{Fault}
use Rattle.fst_types.specs.State.{State}
use Rattle.fst_types.specs.Events.{Event, MadeChange, Refused}
use Rattle.fst_types.specs.Step.{Step}
use Rattle.fst_types.specs.Run.{ChangeMade, with_change}
use Rattle.fst_device.specs.JobView.{JobView}
use Rattle.fst_device.specs.MemoryView.{MemoryView}
use Rattle.fst_lines.specs.Commands.{Command}
use Rattle.fst_lines.specs.Sending.{Sends}
use Rattle.fst_lines.specs.Replies.{refusal, patch_text}
use Rattle.fst_player.specs.Script.{call_of, after_call}
use Rattle.fst_player.specs.Asked.{change_told}
use Rattle.fst_player.specs.Kept.{IsKept}
use Rattle.fst_player.specs.Answering.{Obeyed}
use Rattle.fst_player.proofs.KeptLemmas.{refused_same}
use Rattle.fst_player.proofs.TellLemmas.{player_at, Obeyed-called}

-- what was answered to a change that was asked for
abbrev pub Answers : Result (PatchNo × Grade) Fault → State → Event → State → Type 0
Answers answer old e new = MatchResult answer (λ to. Step old e (MadeChange to.0.0 to.1) new) (λ fault. Step old e (Refused fault) new)

abbrev pub IsTold : {T E : Type 0} → Result (PatchNo × Grade) Fault → Option (List ℕ) → Option (List ℕ) → Result T E → Type 0
IsTold answer a b told = MatchResult answer (λ to. Sends a b told (patch_text to.0.0 to.1 ++ 10 ∷ [])) (λ fault. Sends a b told (refusal fault ++ 10 ∷ []))

pub asked_kept : (answer : Result (PatchNo × Grade) Fault) (shape : Shape) (share then : ℕ) (old new : State) (e : Event) (jobs : List (JobView MemoryView)) (made after : List ChangeMade) (kept : List (List ℕ)) (b at : ℕ) (bytes : List ℕ)
    → Answers answer old e new → MatchResult answer (λ to. then ≡ share + 1) (λ fault. then ≡ share) → after ≡ with_change made (change_told answer b at bytes) → IsKept shape share old jobs made kept
    → ((number : PatchNo) (grade : Grade) → Step old e (MadeChange number.0 grade) new → IsKept shape (share + 1) new jobs (with_change made (change_told (Ok (number, grade)) b at bytes)) kept)
    → IsKept shape then new jobs after kept
asked_kept (Ok to) shape share then old new e jobs made after kept b at bytes step more same K grown = rw (more, same) (grown to.0 to.1 step)
asked_kept (Err f) shape share then old new e jobs made after kept b at bytes step more same K grown = rw (more, same, refused_same old new e f step) K

pub Obeyed-asked : {T E : Type 0} (answer : Result (PatchNo × Grade) Fault) (old new : State) (c : Command) (faulted : Bool) (e : Event) (jobs : List (JobView MemoryView)) (made after : List ChangeMade) (b at : ℕ) (bytes : List ℕ) (a z : Option (List ℕ)) (told : Result T E)
    → call_of (player_at old jobs made) faulted c ≡ Some e → Answers answer old e new → after ≡ with_change made (change_told answer b at bytes) → IsTold answer a z told
    → ((number : PatchNo) (grade : Grade) → after_call (player_at old jobs made) e (MadeChange number.0 grade) new ≡ player_at new jobs (with_change made (change_told (Ok (number, grade)) b at bytes)))
    → ((fault : Fault) → after_call (player_at old jobs made) e (Refused fault) new ≡ player_at new jobs made)
    → Obeyed (player_at old jobs made) c a z told (player_at new jobs after)
Obeyed-asked (Ok to) old new c faulted e jobs made after b at bytes a z told call step same sent one none =
    rw same (Obeyed-called _ _ c faulted e (MadeChange to.0.0 to.1) new a z told call step (sym (one to.0 to.1)) sent)
Obeyed-asked (Err f) old new c faulted e jobs made after b at bytes a z told call step same sent one none =
    rw same (Obeyed-called _ _ c faulted e (Refused f) new a z told call step (sym (none f)) sent)
