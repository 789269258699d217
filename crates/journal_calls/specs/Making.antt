-- What asking for a change until there is room for it comes to.
use Rattle.std.specs.Prelude.{◌≡◌, ◌⊎◌, ℕ, Bool, List}
use Rattle.fst_types.specs.declared.fault.Fault.{Fault}
use Rattle.fst_types.specs.declared.fault.Fault.TheVariants as fault
use Rattle.fst_types.specs.declared.fault.What.TheVariants as what
use Rattle.fst_types.specs.declared.grade.Grade.{Grade}
use Rattle.fst_types.specs.declared.settled.Settled.{Settled as Outcome}
use Rattle.fst_types.specs.State.{State}
use Rattle.fst_types.specs.Events.{Event, MakeChange, MadeChange, Forget, Forgot, Refused}
use Rattle.fst_types.specs.Step.{Step}
use Rattle.journal_calls.specs.Exhausted.{IsExhausted}
use Rattle.journal_calls.specs.Writing.{IsNextRefused, WritesNext}

-- a change of these bytes is asked for, after the patches that are named, whether or not the read of its block fails
abbrev pub change_of : (share block at : ℕ) (bytes after : List ℕ) → (faulted : Bool) → Event
change_of share block at bytes after faulted = MakeChange share block at bytes after faulted

-- there is no room for a change, which writing and forgetting may make
abbrev pub IsWantOfRoom : Fault → Type 0
IsWantOfRoom why = (why ≡ fault.Full what.Heads) ⊎ (why ≡ fault.Full what.Resident)

-- what is asked for is refused
abbrev pub IsRefusedHere : (ask : Bool → Event) → State → Fault → Type 0
IsRefusedHere ask s why = (faulted : Bool) × Step s (ask faulted) (Refused why) s

-- there was no room for what is asked for; so the next write was made, and what is on disk forgotten
pub record Round (ask : Bool → Event) (old : State) (why : Fault) (new : State) : Type 0 where
  pub room : IsWantOfRoom why
  pub refused : IsRefusedHere ask old why
  pub how : Outcome
  pub written : State
  pub writes : WritesNext old how written
  pub dropped : ℕ
  pub forgets : Step written Forget (Forgot dropped) new

-- one round after another
pub data Rounds (ask : Bool → Event) : State → State → Type 0 where
  none : {s : State} → Rounds ask s s
  more : {s t u : State} {why : Fault} → Rounds ask s t → Round ask t why u → Rounds ask s u

-- after some rounds the change is made, and has this number
abbrev pub MakesAtLast : (ask : Bool → Event) → State → (number : ℕ) → State → Type 0
MakesAtLast ask old number new = (s : State) × Rounds ask old s × (faulted : Bool) × (grade : Grade) × Step s (ask faulted) (MadeChange number grade) new

-- or it is not, for this reason
pub data FailsAtLast (ask : Bool → Event) (old : State) (why : Fault) : State → Type 0 where
  -- it is refused, for another reason than want of room, or nothing more can be written
  refused : {s : State} → Rounds ask old s → IsRefusedHere ask s why → (IsWantOfRoom why → IsExhausted s) → FailsAtLast ask old why s
  -- the next write could not go out
  unsent : {s : State} → Rounds ask old s → IsNextRefused s why → FailsAtLast ask old why s
  -- there was no room in the last round that is made
  spent : {s t : State} → Rounds ask old s → Round ask s why t → FailsAtLast ask old why t
