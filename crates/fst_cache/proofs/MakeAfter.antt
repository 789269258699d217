-- Making a change, whatever it comes after: named patches, or the head of its group.
use Rattle.std.proofs.Common.{◌≡◌, ℕ, Bool, List, Option, length, inl}
use Rattle.fst_types.specs.declared.fault.Fault.{Fault}
use Rattle.fst_types.specs.declared.grade.Grade.{Grade}
use Rattle.fst_types.specs.State.{State}
use Rattle.fst_types.specs.Events.{MadeChange, Refused}
use Rattle.fst_types.specs.Order.{make_order, group_patch_order, IsLoadFault, IsRefusal}
use Rattle.fst_types.specs.Refusals.{IsFirst, NoneHolds}
use Rattle.fst_types.specs.Step.{Step}
use Rattle.fst_graph.specs.Known.{Known, Prepared, Refuses}
use Rattle.fst_seat.specs.Names.{numbers_of}
use Rattle.fst_seat.specs.Seats.{SeatsView}
use Rattle.fst_seat.specs.Residing.{MayLoad}
use Rattle.fst_cache.specs.declared.cache.Cache.TheInside.{Inside}
use Rattle.fst_cache.specs.declared.cache.change.After.{After}
use Rattle.fst_cache.specs.declared.cache.change.After.TheVariants.{Named, InGroup}
use Rattle.fst_cache.specs.declared.contents.Contents.{Contents}
use Rattle.fst_cache.specs.After.{adds_after, event_after, order_after}
use Rattle.fst_cache.specs.Kept.{IsKept, state_of}
use Rattle.fst_cache.specs.Making.{span_order, MayHold}
use Rattle.fst_cache.proofs.GroupWhole.{step_not_joined, step_joined, kept_joined}
use Rattle.fst_cache.proofs.MakeRefused.{first_append, refused_by_graph, member_refused_by_graph}
use Rattle.fst_cache.proofs.MakeReady.{has_risen, ready}
use Rattle.fst_cache.proofs.MakeStep.{IsPut, made}
use Rattle.fst_cache.proofs.MakeWhole.{step_refused, step_made, kept_made}

module _ (s : State) (share b at : ℕ) (bytes : List ℕ) where
  -- what refuses the bytes refuses the change
  pub span_refused : (after : After) (faulted : Bool) (fault : Fault) → IsFirst (span_order s share b at bytes) fault → IsRefusal s (event_after after share b at bytes faulted) fault
  span_refused (Named names) faulted fault first = inl (first_append (span_order s share b at bytes) (make_order s.heads s.numbers (numbers_of names.now)) fault first)
  span_refused (InGroup group) faulted fault first = inl (first_append (span_order s share b at bytes) (group_patch_order s.heads s.numbers s.groups group.0 b at (length bytes)) fault first)

  -- and so does what refuses it in the graph
  pub after_refused : MayHold s share b at bytes → (after : After) (faulted : Bool) (fault : Fault) → Refuses (order_after after s.heads s.numbers s.groups b at (length bytes)) fault → IsRefusal s (event_after after share b at bytes faulted) fault
  after_refused may (Named names) faulted fault = refused_by_graph s share b at bytes may (numbers_of names.now) faulted fault
  after_refused may (InGroup group) faulted fault = member_refused_by_graph s share b at bytes may group.0 faulted fault

module _ {Slot : Type 0} (i : Inside Slot) (K : IsKept i) {graph : Known} {prepared : Option Prepared} (same : graph ≡ record i.graph { prepared = prepared }) (share b at : ℕ) (bytes : List ℕ)
    (may : MayHold (state_of i) share b at bytes) where
  -- where the block could not be read, or its patch could not be put, the state is as it was
  pub after_left : (after : After) (seats : SeatsView) (most : seats.most ≡ i.seats.most) (load : MayLoad i.seats.most i.seats.seats b seats.seats)
      → NoneHolds (order_after after i.graph.heads i.graph.numbers i.graph.groups b at (length bytes)) → (fault : Fault) → IsLoadFault (has_risen i.seats.seats seats.seats b) fault
      → Step (state_of i) (event_after after share b at bytes (has_risen i.seats.seats seats.seats b)) (Refused fault) (state_of (ready i K same seats most load))
  after_left (Named names) = step_refused i K same share b at bytes (numbers_of names.now) may
  after_left (InGroup group) = step_not_joined i K same share group.0 b at bytes may

  -- else the change is made
  module _ (after : After) {number : ℕ} {grade : Grade} {undo : ℕ} {contents : Contents} {seats : SeatsView} (P : IsPut i b at number bytes grade undo contents seats)
      (new : Known) (adds : adds_after after graph b at (length bytes) number grade new) where
    pub after_changed : (faulted : Bool) → Step (state_of i) (event_after after share b at bytes faulted) (MadeChange number grade) (state_of (made i K same P new))
    after_changed = go after adds
      where
        go : (c : After) → adds_after c graph b at (length bytes) number grade new → (faulted : Bool) → Step (state_of i) (event_after c share b at bytes faulted) (MadeChange number grade) (state_of (made i K same P new))
        go (Named names) a = step_made i K same share b at bytes (numbers_of names.now) may P a
        go (InGroup group) a = step_joined i K same share group.0 b at bytes may P a

    pub after_kept : IsKept (made i K same P new)
    after_kept = go after adds
      where
        go : (c : After) → adds_after c graph b at (length bytes) number grade new → IsKept (made i K same P new)
        go (Named names) a = kept_made i K same share b at bytes (numbers_of names.now) may P a
        go (InGroup group) a = kept_joined i K same share group.0 b at bytes may P a
