-- Making a change for a group from end to end: room in the graph, the block in memory, its patch, the change in the graph.
use Rattle.std.proofs.Common.{◌≡◌, ℕ, Bool, true, List, Option, refl, sym, ap, subst, ◌∙◌, inl, inr, length}
use Rattle.std.specs.Prelude.{Result, Ok, Err, IfOk, MatchResult}
use Rattle.fst_types.specs.declared.number.PatchNo.{PatchNo}
use Rattle.fst_types.specs.declared.fault.Fault.{Fault}
use Rattle.fst_types.specs.declared.grade.Grade.{Grade}
use Rattle.fst_types.specs.State.{State}
use Rattle.fst_types.specs.Grouping.{MakesMember}
use Rattle.fst_types.specs.Events.{GroupPatch, MadeChange, Refused}
use Rattle.fst_types.specs.Order.{group_patch_order, IsLoadFault}
use Rattle.fst_types.specs.Refusals.{NoneHolds}
use Rattle.fst_types.specs.Step.{Step, accepted, refused, group, group_patch}
use Rattle.fst_types.proofs.Bounds.{step_keeps_lawful}
use Rattle.fst_graph.specs.Known.{Known, unprepared, Prepared}
use Rattle.fst_graph.specs.Grouping.{AddsMember}
use Rattle.fst_seat.specs.Seats.{SeatsView}
use Rattle.fst_seat.specs.Residing.{MayLoad}
use Rattle.fst_cache.specs.declared.cache.Cache.TheInside.{Inside}
use Rattle.fst_cache.specs.declared.contents.Contents.{Contents}
use Rattle.fst_cache.specs.Kept.{IsKept, state_of}
use Rattle.fst_cache.specs.Making.{MayHold}
use Rattle.fst_cache.proofs.MakeRefused.{none_refuses_member, member_refused_by_load}
use Rattle.fst_cache.proofs.MakeReady.{has_risen, read_clean, ready, same_state}
use Rattle.fst_cache.proofs.MakeStep.{IsPut, read, same_read, kept_read, same_blocks, made, kept_put}
use Rattle.fst_cache.proofs.GroupMember.{same_other, seat_joined}

module _ {Slot : Type 0} (i : Inside Slot) (K : IsKept i) {graph : Known} {prepared : Option Prepared} (same : graph ≡ record i.graph { prepared = prepared }) (share n b at : ℕ) (bytes : List ℕ)
    (may : MayHold (state_of i) share b at bytes) where
  -- where the block could not be read, or its patch could not be put, the state is as it was
  pub step_not_joined : (seats : SeatsView) (most : seats.most ≡ i.seats.most) (load : MayLoad i.seats.most i.seats.seats b seats.seats)
      → NoneHolds (group_patch_order i.graph.heads i.graph.numbers i.graph.groups n b at (length bytes)) → (fault : Fault) → IsLoadFault (has_risen i.seats.seats seats.seats b) fault
      → Step (state_of i) (GroupPatch share n b at bytes (has_risen i.seats.seats seats.seats b)) (Refused fault) (state_of (ready i K same seats most load))
  step_not_joined seats most load none fault free =
      let risen = has_risen i.seats.seats seats.seats b in
      subst (λ (s : State). Step (state_of i) (GroupPatch share n b at bytes risen) (Refused fault) s) (sym (same_state i K same seats most load))
      (refused (member_refused_by_load (state_of i) share b at bytes may n risen fault none (elim free [ inl memory ↦ inl memory | inr device ↦ inr (read_clean i K b seats.seats load device.1, inr device) ])))

  module _ {number : ℕ} {grade : Grade} {undo : ℕ} {contents : Contents} {seats : SeatsView} (P : IsPut i b at number bytes grade undo contents seats)
      {new : Known} (adds : AddsMember graph n b at (length bytes) number grade new) where
    abbrev old : State
    old = state_of (read i K same P)

    abbrev joined : State
    joined = state_of (made i K same P new)

    -- what the graph makes of it is a row of the state
    row : MakesMember old n b at bytes number grade joined
    row = record {
      group = adds.group;
      named = adds.named;
      row = adds.row;
      state = ap (λ (k : Known). state_of (made i K same P k)) adds.state ∙ rw (P.most, P.added, same_blocks i K same P) refl;
    }

    pub step_joined : (faulted : Bool) → Step (state_of i) (GroupPatch share n b at bytes faulted) (MadeChange number grade) joined
    step_joined faulted =
        subst (λ (s : State). Step s (GroupPatch share n b at bytes faulted) (MadeChange number grade) joined) (same_read i K same P)
        (accepted (none_refuses_member old share b at bytes (subst (λ (s : State). MayHold s share b at bytes) (sym (same_read i K same P)) may) n faulted adds.clear) (group (group_patch row)))

    pub kept_joined : IsKept (made i K same P new)
    kept_joined =
        let lawful = (kept_read i K same P).lawful in
        kept_put i K same P new (ap (λ (k : Known). k.blocks) adds.state)
        (step_keeps_lawful (state_of i) joined (GroupPatch share n b at bytes true) (MadeChange number grade) K.lawful (step_joined true))
        (λ k other. same_other old joined lawful n b at number bytes grade row k other)
        (seat_joined old joined lawful n b at number bytes grade row P.puts.seat ((kept_read i K same P).seat b P.puts.seat P.puts.at) P.puts.view P.puts.there)

-- the graph makes what it prepared, and what is prepared does not matter to what a member adds
pub member_prepared : {old : Known} {n b at len number : ℕ} {grade : Grade} {new : Known} (r : Result (PatchNo × Grade) Fault)
    → MatchResult r (λ made. (made.0.0 ≡ number) × (made.1 ≡ grade)) (λ f. ⊥) → IfOk r (λ made. AddsMember (unprepared old) n b at len made.0.0 made.1 new) → AddsMember old n b at len number grade new
member_prepared {old} {n} {b} {at} {len} {number} {grade} {new} (Ok made) same adds =
    subst (λ (m : ℕ). AddsMember old n b at len m grade new) same.0 (subst (λ (g : Grade). AddsMember old n b at len made.0.0 g new) same.1
    (record { clear = adds.clear; group = adds.group; named = adds.named; row = adds.row; state = adds.state }))
member_prepared (Err f) same adds = absurd same
