-- Writing one block after another, here and now.
use Rattle.std.specs.Prelude.{ℕ, Bool, List, Some, None}
use Rattle.fst_types.specs.declared.fault.Fault.{Fault}
use Rattle.fst_types.specs.declared.settled.Settled.{Settled as Outcome}
use Rattle.fst_types.specs.Events.{Event, Issue, Retry, Settle, Job, Refused}
use Rattle.fst_types.specs.Looks.{IsPick, IsStalledPick}
use Rattle.fst_types.specs.State.{State}
use Rattle.fst_types.specs.Step.{Step}
use Rattle.fst_cache.specs.Replies.{settled_reply}
use Rattle.journal_calls.specs.Exhausted.{IsDurable}

-- the next write: another try of the least block whose write failed and waits, or, where none waits, that of the least block that may be written
pub data IsNext (s : State) : Event → Type 0 where
  retries : {b : ℕ} → IsStalledPick s (Some b) → IsNext s (Retry b)
  issues : {b : ℕ} → IsStalledPick s None → IsPick s.heads (Some b) → IsNext s (Issue b)

-- the next write goes out, as this job
pub record SendsNext (old : State) (ticket block : ℕ) (image : List ℕ) (new : State) : Type 0 where
  pub event : Event
  pub next : IsNext old event
  pub step : Step old event (Job ticket block image) new

-- the next write can not go out, and nothing changes
pub record IsNextRefused (s : State) (why : Fault) : Type 0 where
  pub event : Event
  pub next : IsNext s event
  pub step : Step s event (Refused why) s

-- the next write goes out and is settled, and this comes of it
pub record WritesNext (old : State) (how : Outcome) (new : State) : Type 0 where
  pub ticket : ℕ
  pub block : ℕ
  pub image : List ℕ
  pub out : State
  pub sends : SendsNext old ticket block image out
  pub written : Bool
  pub settles : Step out (Settle ticket block image written) (settled_reply how) new

-- writes are made, each the next one, as long as patch n is not on disk
pub data WritesUntil (n : ℕ) : State → State → Type 0 where
  none : {s : State} → WritesUntil n s s
  more : {s t u : State} {how : Outcome} → WritesUntil n s t → (IsDurable t n → ⊥) → WritesNext t how u → WritesUntil n s u
