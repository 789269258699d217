-- How rounds of asking for a change add up.
use Rattle.std.proofs.Common.{◌≡◌, ◌⊎◌, ℕ, Bool, true, false, List, Option, Some, None, is_some, IfNone, refl, sym, ap, subst, ◌∙◌, inl, inr}
use Rattle.std.proofs.lemmas.Bool.{true≢false}
use Rattle.fst_types.specs.declared.fault.Fault.{Fault}
use Rattle.fst_types.specs.declared.settled.Settled.{Settled as Outcome}
use Rattle.fst_types.specs.State.{State}
use Rattle.fst_types.specs.Events.{Event, MakeChange, Refused}
use Rattle.fst_types.specs.Step.{Step, accepted, refused, group}
use Rattle.fst_cache.specs.Views.{CacheView}
use Rattle.journal_calls.specs.Exhausted.{IsExhausted}
use Rattle.journal_calls.specs.Making.{change_of, IsWantOfRoom, IsRefusedHere, Round, Rounds, FailsAtLast}
use Rattle.journal_calls.specs.Making as making
use Rattle.journal_calls.specs.Writing.{IsNextRefused}

-- nothing is said of what was not made
pub of_none : (o : Option Outcome) (P : Type 0) → is_some o ≡ false → IfNone o P → P
of_none None P e p = p
of_none (Some how) P e p = absurd (true≢false e)

-- a change that is refused leaves the state
same_state : (s t : State) (share b at : ℕ) (bytes after : List ℕ) (faulted : Bool) (why : Fault) → Step s (MakeChange share b at bytes after faulted) (Refused why) t → t ≡ s
same_state s t share b at bytes after faulted why (accepted n (group m)) = elim m [ ]
same_state s t share b at bytes after faulted why (refused refusal) = refl

module _ (share b at : ℕ) (bytes after : List ℕ) (start : State) where
  abbrev ask : Bool → Event
  ask = change_of share b at bytes after

  -- no round was made, or a last one
  abbrev pub SoFar : ℕ → Fault → State → Type 0
  SoFar n why s = ((n ≡ 0) × (s ≡ start)) ⊎ ((t : State) × Rounds ask start t × Round ask t why s)

  pub so_far : (n : ℕ) (why : Fault) (s : State) → SoFar n why s → Rounds ask start s
  so_far n why s (inl h) = subst (Rounds ask start) (sym h.1) making.none
  so_far n why s (inr h) = making.more h.1 h.2

  pub spent_at : (n : ℕ) (why : Fault) (s : State) → (n ≡ 0 → ⊥) → SoFar n why s → FailsAtLast ask start why s
  spent_at n why s some (inl h) = absurd (some h.0)
  spent_at n why s some (inr h) = making.spent h.1 h.2

  module _ (s t : State) (now : ℕ) (same : now ≡ share) (faulted : Bool) (why : Fault) (step : Step s (MakeChange now b at bytes after faulted) (Refused why) t) where
    still : t ≡ s
    still = same_state s t now b at bytes after faulted why step

    pub rounds_at : Rounds ask start s → Rounds ask start t
    rounds_at rounds = subst (Rounds ask start) (sym still) rounds

    pub refused_at : IsRefusedHere ask t why
    refused_at =
        (faulted, subst (λ (n : ℕ). Step t (MakeChange n b at bytes after faulted) (Refused why) t) same (subst (λ (u : State). Step u (MakeChange now b at bytes after faulted) (Refused why) t) (sym still) step))

  -- the next write can not go out from where the change was refused
  pub unsent_at : (old new : CacheView) (why : Fault) → new ≡ old → Rounds ask start old.state → IsNextRefused new.state why → FailsAtLast ask start why new.state
  unsent_at old new why same rounds next = making.unsent (subst (λ (v : CacheView). Rounds ask start v.state) (sym same) rounds) next

  -- nothing more can be written there
  pub stuck_at : (old new : CacheView) (why : Fault) → new ≡ old → Rounds ask start old.state → IsRefusedHere ask old.state why → IsExhausted new.state → FailsAtLast ask start why new.state
  stuck_at old new why same rounds here exhausted =
      making.refused (subst (λ (v : CacheView). Rounds ask start v.state) (sym same) rounds) (subst (λ (v : CacheView). IsRefusedHere ask v.state why) (sym same) here) (λ _. exhausted)
