-- Making a change from end to end: room in the graph, the block in memory, its patch, the change in the graph.
use Rattle.std.proofs.Common.{◌≡◌, ℕ, Bool, true, List, Option, refl, sym, subst, inl, inr, length}
use Rattle.fst_types.specs.declared.fault.Fault.{Fault}
use Rattle.fst_types.specs.declared.grade.Grade.{Grade}
use Rattle.fst_types.specs.Making.{MakesChange}
use Rattle.fst_types.specs.State.{State}
use Rattle.fst_types.specs.Events.{MakeChange, MadeChange, Refused}
use Rattle.fst_types.specs.Order.{make_order, IsLoadFault}
use Rattle.fst_types.specs.Refusals.{NoneHolds}
use Rattle.fst_types.specs.Step.{Step, accepted, refused, change}
use Rattle.fst_types.proofs.Bounds.{step_keeps_lawful}
use Rattle.fst_graph.specs.Known.{Known, Prepared, AddsChange}
use Rattle.fst_seat.specs.Seats.{SeatsView}
use Rattle.fst_seat.specs.Residing.{MayLoad}
use Rattle.fst_cache.specs.declared.cache.Cache.TheInside.{Inside}
use Rattle.fst_cache.specs.declared.contents.Contents.{Contents}
use Rattle.fst_cache.specs.Kept.{IsKept, state_of}
use Rattle.fst_cache.specs.Making.{MayHold}
use Rattle.fst_cache.proofs.MakeRefused.{none_refuses, refused_by_load}
use Rattle.fst_cache.proofs.MakeReady.{has_risen, read_clean, ready, same_state}
use Rattle.fst_cache.proofs.MakeChanged.{numbered, seat_put, same_else}
use Rattle.fst_cache.proofs.MakeStep.{IsPut, read, same_read, kept_read, same_blocks, made, kept_put}

module _ {Slot : Type 0} (i : Inside Slot) (K : IsKept i) {graph : Known} {prepared : Option Prepared} (same : graph ≡ record i.graph { prepared = prepared }) (share b at : ℕ) (bytes names : List ℕ)
    (may : MayHold (state_of i) share b at bytes) where
  -- where the block could not be read, or its patch could not be put, the state is as it was
  pub step_refused : (seats : SeatsView) (most : seats.most ≡ i.seats.most) (load : MayLoad i.seats.most i.seats.seats b seats.seats) → NoneHolds (make_order i.graph.heads i.graph.numbers names)
      → (fault : Fault) → IsLoadFault (has_risen i.seats.seats seats.seats b) fault
      → Step (state_of i) (MakeChange share b at bytes names (has_risen i.seats.seats seats.seats b)) (Refused fault) (state_of (ready i K same seats most load))
  step_refused seats most load none fault free =
      let risen = has_risen i.seats.seats seats.seats b in
      subst (λ (s : State). Step (state_of i) (MakeChange share b at bytes names risen) (Refused fault) s) (sym (same_state i K same seats most load))
      (refused (refused_by_load (state_of i) share b at bytes may names risen fault none (elim free [ inl memory ↦ inl memory | inr device ↦ inr (read_clean i K b seats.seats load device.1, inr device) ])))

  module _ {number : ℕ} {grade : Grade} {undo : ℕ} {contents : Contents} {seats : SeatsView} (P : IsPut i b at number bytes grade undo contents seats)
      {new : Known} (adds : AddsChange graph b at (length bytes) names number grade new) where
    abbrev old : State
    old = state_of (read i K same P)

    abbrev changed : State
    changed = state_of (made i K same P new)

    made_change : MakesChange old b at bytes names number grade changed
    made_change = record { row = adds.row; state = rw (adds.numbers, adds.groups, P.most, P.added, same_blocks i K same P) refl }

    pub step_made : (faulted : Bool) → Step (state_of i) (MakeChange share b at bytes names faulted) (MadeChange number grade) changed
    step_made faulted =
        subst (λ (s : State). Step s (MakeChange share b at bytes names faulted) (MadeChange number grade) changed) (same_read i K same P)
        (accepted (none_refuses old share b at bytes (subst (λ (s : State). MayHold s share b at bytes) (sym (same_read i K same P)) may) names faulted adds.clear) (change made_change))

    pub kept_made : IsKept (made i K same P new)
    kept_made =
        let given = numbered old (kept_read i K same P).lawful in
        kept_put i K same P new adds.blocks
        (step_keeps_lawful (state_of i) changed (MakeChange share b at bytes names true) (MadeChange number grade) K.lawful (step_made true))
        (λ k other. same_else old changed given b at number bytes adds.row.dependencies grade adds.row.next adds.row.added P.added (same_blocks i K same P) k other)
        (seat_put old changed given b at number bytes adds.row.dependencies grade adds.row.next adds.row.added P.added (same_blocks i K same P)
        P.puts.seat ((kept_read i K same P).seat b P.puts.seat P.puts.at) P.puts.view P.puts.there)
