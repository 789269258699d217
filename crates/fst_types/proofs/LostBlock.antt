-- A lost block, worked out over the definitions.
use Rattle.std.proofs.Common.{◌≡◌, ◌<◌, ℕ, Bool, true, false, [], ◌∷◌, Option, Some, None, refl, ap, inl, inr, arith}
use Rattle.fst_types.specs.declared.place.Place.TheVariants as place
use Rattle.fst_types.specs.declared.grade.Grade.TheVariants as grade
use Rattle.fst_types.specs.declared.fault.Fault.TheVariants as fault
use Rattle.fst_types.specs.Closure.{one}
use Rattle.fst_types.specs.Patches.{Change, Patch}
use Rattle.fst_types.specs.Refusals.{IsFirst}
use Rattle.fst_types.specs.Order.{order}
use Rattle.fst_types.specs.Events.{MakeChange, Issue, Settle, Retry, Evict, GroupPatch}
use Rattle.fst_types.specs.State.{State, Flight}
use Rattle.fst_types.specs.Flights.{IsLost}
use Rattle.fst_types.specs.Dead.{IsDead, lost, holds}
use Rattle.fst_types.specs.Crash.{crash}
use Rattle.fst_types.specs.Looks.{seen, stat_of}
use Rattle.fst_types.specs.Writing.{Stalls, Loses, Retries}

-- 1 on block 0 is in flight, and 2 on block 1 after 1 waits in memory
abbrev first : Patch
first = record { number = 1; kind = Change 0 0 1 grade.Hard; place = place.Flight; dependencies = [] }

abbrev second : Patch
second = record { number = 2; kind = Change 1 0 1 grade.Hard; place = place.Memory; dependencies = 1 ∷ [] }

-- the flight of block 0 under this ticket
abbrev with_try : (ticket : ℕ) (stalled : Bool) (failed : ℕ) → State
with_try ticket stalled failed = record {
  size = 4;
  resident = 2;
  numbers = 2;
  tickets = ticket;
  made = 2;
  heads = first ∷ second ∷ [];
  contents = (1, 65 ∷ []) ∷ (2, 66 ∷ []) ∷ [];
  blocks =
      record { committed = 0 ∷ 0 ∷ 0 ∷ 0 ∷ []; flight = Some (record { ticket = ticket; image = 65 ∷ 0 ∷ 0 ∷ 0 ∷ []; stalled = stalled; failed = failed }) }
      ∷ record { committed = 0 ∷ 0 ∷ 0 ∷ 0 ∷ []; flight = None } ∷ [];
  groups = [];
}

-- the tries: the first two that fail stall it, the third loses it
pub first_try : Stalls (with_try 1 false 0) 1 0 (65 ∷ 0 ∷ 0 ∷ 0 ∷ []) (with_try 1 true 1)
first_try = record { out = record { failed = 0; few = omega arith; flight = refl }; early = omega arith; state = refl }

pub again : Retries (with_try 1 true 1) 0 2 (65 ∷ 0 ∷ 0 ∷ 0 ∷ []) (with_try 2 false 1)
again = record { next = refl; last = 1; failed = 1; same_image = refl; state = refl }

pub second_try : Stalls (with_try 2 false 1) 2 0 (65 ∷ 0 ∷ 0 ∷ 0 ∷ []) (with_try 2 true 2)
second_try = record { out = record { failed = 1; few = omega arith; flight = refl }; early = omega arith; state = refl }

pub third_try : Loses (with_try 3 false 2) 3 0 (65 ∷ 0 ∷ 0 ∷ 0 ∷ []) (with_try 3 false 3)
third_try = record { out = record { failed = 2; few = omega arith; flight = refl }; last = refl; state = refl }

abbrev lost_state : State
lost_state = with_try 3 false 3

pub is_lost_there : IsLost lost_state 0
is_lost_there = record { flight = record { ticket = 3; image = 65 ∷ 0 ∷ 0 ∷ 0 ∷ []; stalled = false; failed = 3 }; there = refl; lost = omega arith }

-- a patch, one for a group too, and a retry are refused as lost, a write as busy, and giving the block up as dirty
pub patch_is_refused : IsFirst (order lost_state (MakeChange 0 0 1 (66 ∷ []) [] false)) fault.Lost
patch_is_refused = inr (λ h. omega (arith, h), inr (λ h. omega (arith, h), inl (is_lost_there, refl)))

pub group_patch_is_refused : IsFirst (order lost_state (GroupPatch 0 7 0 0 (66 ∷ []) false)) fault.Lost
group_patch_is_refused = inr (λ h. omega (arith, h), inr (λ h. omega (arith, h), inl (is_lost_there, refl)))

pub retry_is_refused : IsFirst (order lost_state (Retry 0)) fault.Lost
retry_is_refused = inr (λ h. omega (arith, h), inl (is_lost_there, refl))

pub write_is_refused : IsFirst (order lost_state (Issue 0)) fault.Busy
write_is_refused = inr (λ h. omega (arith, h), inl (refl, refl))

pub evict_is_refused : IsFirst (order lost_state (Evict 0)) fault.Dirty
evict_is_refused = inr (λ h. omega (arith, h), inl (refl, refl))

-- its completion is a stranger's
pub settle_is_refused : IsFirst (order lost_state (Settle 3 0 (65 ∷ 0 ∷ 0 ∷ 0 ∷ []) true)) fault.Stranger
settle_is_refused = inl (λ out. not_out out.failed (ap (λ o. failed_of o) out.flight) out.few, refl)
  where
    failed_of : Option Flight → ℕ
    failed_of None = 0
    failed_of (Some f) = f.failed

    not_out : (k : ℕ) → 3 ≡ k → k < 3 → ⊥
    not_out k e few = omega (arith, e, few)

-- what is told of it
pub told : seen lost_state 0 ≡ Some (record { ticket = 3; patches = 1 ∷ []; image = 65 ∷ 0 ∷ 0 ∷ 0 ∷ []; stalled = false; lost = true })
told = refl

pub counted : stat_of lost_state ≡ record { made = 2; live = 2; undo = 0; flights = 1 }
counted = refl

-- a crash may have finished its write, or not
pub crash_without : crash lost_state (λ b. false) 0 ≡ 0 ∷ 0 ∷ 0 ∷ 0 ∷ []
crash_without = refl

pub crash_with : crash lost_state (λ b. true) 0 ≡ 65 ∷ 0 ∷ 0 ∷ 0 ∷ []
crash_with = refl

-- block 1 is dead: its hard patch in memory needs the one that is lost
pub second_block_is_dead : IsDead lost_state 1
second_block_is_dead =
    holds {c = 0} {p = second} {q = first} (record { head = (1, omega arith, refl); change = refl; memory = refl }) refl
    (record { head = (0, omega arith, refl); change = refl; depends = one (record { patch = second; head = (1, omega arith, refl); numbered = refl; named = (0, omega arith, refl) }) })
    (λ e. cc) (lost is_lost_there)
