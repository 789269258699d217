-- A job that was asked for: what is kept then, and what is told, whether it was given or refused.
use Rattle.std.proofs.Common.{◌≡◌, ℕ, false, List, [], ◌∷◌, ◌++◌, Option, Some, Result, Ok, Err, sym, ◌∙◌}
use Rattle.std.specs.Prelude.{IfOk, MatchResult}
use Rattle.fst_types.specs.declared.shape.Shape.{Shape}
use Rattle.fst_types.specs.declared.fault.Fault.{Fault}
use Rattle.fst_types.specs.State.{State}
use Rattle.fst_types.specs.Flights.{IsOut}
use Rattle.fst_types.specs.Events.{Event, Issue, Retry, Job, Refused}
use Rattle.fst_types.specs.Step.{Step}
use Rattle.fst_types.specs.Run.{ChangeMade}
use Rattle.fst_device.specs.JobView.{JobView}
use Rattle.fst_device.specs.MemoryView.{MemoryView}
use Rattle.fst_lines.specs.Commands.{Command}
use Rattle.fst_lines.specs.Sending.{Sends}
use Rattle.fst_lines.specs.Replies.{refusal, flight_text}
use Rattle.fst_player.specs.Script.{call_of, in_flight, after_call}
use Rattle.fst_player.specs.Kept.{IsKept, job_kept, jobs_kept}
use Rattle.fst_player.specs.Answering.{Obeyed}
use Rattle.fst_player.proofs.KeptLemmas.{refused_same, issue_out, issue_kept, retry_out, retry_kept}
use Rattle.fst_player.proofs.TellLemmas.{player_at, Obeyed-called, one_job_more}

-- what was answered to the call, and whether the job is among those that are kept
abbrev pub Gives : Result (JobView MemoryView) Fault → State → Event → State → Type 0
Gives given old e new = MatchResult given (λ job. Step old e (Job job.ticket job.block job.image) new) (λ fault. Step old e (Refused fault) new)

abbrev pub IsKeptAfter : Result (JobView MemoryView) Fault → List (JobView MemoryView) → List (JobView MemoryView) → Type 0
IsKeptAfter given jobs after = MatchResult given (λ job. after ≡ jobs ++ job ∷ []) (λ fault. after ≡ jobs)

abbrev pub IsTold : {T E : Type 0} → Result (JobView MemoryView) Fault → State → Option (List ℕ) → Option (List ℕ) → Result T E → Type 0
IsTold given s a b told =
    MatchResult given (λ job. Sends a b told (flight_text job.ticket job.block (in_flight s job.block) job.image ++ 10 ∷ [])) (λ fault. Sends a b told (refusal fault ++ 10 ∷ []))

-- a job that was given just now is out
pub issued_out : (given : Result (JobView MemoryView) Fault) (old new : State) (b : ℕ) → Gives given old (Issue b) new → IfOk given (λ job. IsOut new job.ticket job.block job.image)
issued_out (Ok job) old new b step = issue_out old new b job step
issued_out (Err f) old new b step = tt

pub retried_out : (given : Result (JobView MemoryView) Fault) (old new : State) (b : ℕ) → Gives given old (Retry b) new → IfOk given (λ job. IsOut new job.ticket job.block job.image)
retried_out (Ok job) old new b step = retry_out old new b job step
retried_out (Err f) old new b step = tt

pub issued_kept : (given : Result (JobView MemoryView) Fault) (shape : Shape) (share : ℕ) (old new : State) (jobs after : List (JobView MemoryView)) (made : List ChangeMade) (kept : List (List ℕ)) (b : ℕ)
    → IsKept shape share old jobs made kept → Gives given old (Issue b) new → IsKeptAfter given jobs after → IsKept shape share new after made kept
issued_kept (Ok job) shape share old new jobs after made kept b K step held = rw held (issue_kept shape share old new jobs made kept b job K step)
issued_kept (Err f) shape share old new jobs after made kept b K step held = rw (held, refused_same old new (Issue b) f step) K

pub retried_kept : (given : Result (JobView MemoryView) Fault) (shape : Shape) (share : ℕ) (old new : State) (jobs after : List (JobView MemoryView)) (made : List ChangeMade) (kept : List (List ℕ)) (b : ℕ)
    → IsKept shape share old jobs made kept → Gives given old (Retry b) new → IsKeptAfter given jobs after → IsKept shape share new after made kept
retried_kept (Ok job) shape share old new jobs after made kept b K step held = rw held (retry_kept shape share old new jobs made kept b job K step)
retried_kept (Err f) shape share old new jobs after made kept b K step held = rw (held, refused_same old new (Retry b) f step) K

pub Obeyed-given : {T E : Type 0} (given : Result (JobView MemoryView) Fault) (old new : State) (c : Command) (e : Event) (jobs after : List (JobView MemoryView)) (made : List ChangeMade) (a b : Option (List ℕ)) (told : Result T E)
    → call_of (player_at old jobs made) false c ≡ Some e → Gives given old e new → IsKeptAfter given jobs after → IsTold given new a b told
    → ((job : JobView MemoryView) → after_call (player_at old jobs made) e (Job job.ticket job.block job.image) new ≡ record (player_at new jobs made) { jobs = jobs_kept jobs ++ job_kept job ∷ [] })
    → ((fault : Fault) → after_call (player_at old jobs made) e (Refused fault) new ≡ player_at new jobs made)
    → Obeyed (player_at old jobs made) c a b told (player_at new after made)
Obeyed-given (Ok job) old new c e jobs after made a b told call step kept sent one none =
    rw kept (Obeyed-called (player_at old jobs made) (player_at new (jobs ++ job ∷ []) made) c false e (Job job.ticket job.block job.image) new a b told call step (one_job_more new jobs made job ∙ sym (one job)) sent)
Obeyed-given (Err f) old new c e jobs after made a b told call step kept sent one none =
    rw kept (Obeyed-called (player_at old jobs made) (player_at new jobs made) c false e (Refused f) new a b told call step (sym (none f)) sent)
