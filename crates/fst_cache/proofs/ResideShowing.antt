-- Why a block that has room is not shown: its load was refused.
use Rattle.std.proofs.Common.{◌≡◌, ◌⊎◌, ℕ, Bool, true, false, List, map, refl, sym, ap, ◌∙◌, subst, inl, inr, Result, Err, IsErr}
use Rattle.std.specs.Prelude.{IsErrOf}
use Rattle.std.proofs.lemmas.Bool.{both_ways}
use Rattle.fst_types.specs.declared.fault.Fault.{Fault}
use Rattle.fst_types.specs.declared.fault.Fault.TheVariants as fault
use Rattle.fst_types.specs.Counts.{is_dirty}
use Rattle.fst_types.specs.Residence.{faults_rose}
use Rattle.fst_types.specs.Events.{Show, Refused}
use Rattle.fst_types.specs.Order.{order, IsLoadFault}
use Rattle.fst_types.specs.Refusals.{NoneHolds}
use Rattle.fst_types.specs.Step.{Step, refused}
use Rattle.fst_seat.specs.Seats.{SeatView}
use Rattle.fst_seat.specs.Residing.{Loads}
use Rattle.fst_cache.specs.declared.cache.Cache.TheInside.{Inside}
use Rattle.fst_cache.specs.Kept.{IsKept, state_of}
use Rattle.fst_cache.proofs.ResideLoading.{loads_clean}

pub same_fault : {T : Type 0} {f g : Fault} → ◌≡◌ {A = Result T Fault} (Err f) (Err g) → f ≡ g
same_fault e = cc

-- a load is refused by the device, or for want of memory
pub load_kind : {T : Type 0} (r : Result T Fault) (f : Fault) → r ≡ Err f → (IsErr r → IsErrOf r fault.Device ⊎ IsErrOf r fault.Memory) → (f ≡ fault.Device) ⊎ (f ≡ fault.Memory)
load_kind r f is kinds =
    elim (kinds (subst IsErr (sym is) refl)) [
      | inl by_device ↦ inl (same_fault (sym is ∙ by_device))
      | inr memory ↦ inr (same_fault (sym is ∙ memory))
    ]

-- whose faults rose where it was the device
pub load_fault : {T : Type 0} (r : Result T Fault) (f : Fault) (rose : Bool) → r ≡ Err f → (IsErr r → IsErrOf r fault.Device ⊎ IsErrOf r fault.Memory) → (IsErrOf r fault.Device → rose ≡ true) → IsLoadFault rose f
load_fault r f rose is kinds device =
    elim (load_kind r f is kinds) [
      | inl by_device ↦ inr (by_device, device (is ∙ ap (λ (x : Fault). Err x) by_device))
      | inr memory ↦ inl memory
    ]

-- a call that answers with another's fault answers Device where that does
pub told : {T U : Type 0} (f g : Fault) → f ≡ g → ◌≡◌ {A = Result T Fault} (Err g) (Err fault.Device) → ◌≡◌ {A = Result U Fault} (Err f) (Err fault.Device)
told f g same e = ap (λ (x : Fault). Err x) (same ∙ same_fault e)

abbrev pub faults_of : List SeatView → List ℕ
faults_of seats = map (λ (t : SeatView). t.faults) seats

pub step_not_loaded : {Slot : Type 0} (i : Inside Slot) → IsKept i → (b : ℕ) (new : List SeatView) (f : Fault)
    → NoneHolds (order (state_of i) (Show b false)) → Loads i.seats.most i.seats.seats b new → IsLoadFault (faults_rose (faults_of i.seats.seats) (faults_of new) b) f
    → Step (state_of i) (Show b (faults_rose (faults_of i.seats.seats) (faults_of new) b)) (Refused f) (state_of i)
step_not_loaded i K b new f clear L load =
    refused {event = Show b (faults_rose (faults_of i.seats.seats) (faults_of new) b)} {fault = f}
    (inr (clear, ((λ d. both_ways (is_dirty i.graph.heads b) (loads_clean i K b new L) d), load)))
