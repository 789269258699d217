-- What `choose`, `pick` and `issue` answer before anything goes out.
use Rattle.std.proofs.Common.{◌≡◌, ◌≤◌, ℕ, true, false, List, length, Option, Some, None, IsSome, is_some, refl, sym, ap, subst, ◌∙◌, inl, inr, arith, slice_get, MatchResult, IfNone, IfOk, IfErr, OnOk, option_map, Result, Ok, Err}
use Rattle.std.proofs.lemmas.List.{length-map}
use Rattle.fst_types.specs.declared.fault.Fault.{Fault}
use Rattle.fst_types.specs.declared.fault.Fault.TheVariants as fault
use Rattle.fst_types.specs.Writable.{HasReady, IsWritableSet}
use Rattle.fst_types.specs.State.{State, Flight, BlockState, flight_of}
use Rattle.fst_types.specs.Facts.{IsLawful}
use Rattle.fst_types.specs.Events.{Choose, Chosen, Issue, Refused}
use Rattle.fst_types.specs.Order.{order, IsRefusal}
use Rattle.fst_types.specs.Refusals.{IsFirst, NoneHolds}
use Rattle.fst_types.specs.Step.{Step, accepted, refused, choose}
use Rattle.fst_types.specs.Looks.{IsPick}
use Rattle.fst_types.proofs.Stuck.{never_stuck_state}
use Rattle.fst_graph.specs.Known.{Known, NoneFlies, unprepared}
use Rattle.fst_seat.specs.Seats.{SeatView, blocks}
use Rattle.fst_cache.specs.declared.cache.Cache.TheInside.{Inside}
use Rattle.fst_cache.specs.Kept.{state_of}
use Rattle.fst_cache.proofs.Kept.{with_graph}
use Rattle.fst_cache.specs.Sending.{sending_order}
use Rattle.fst_cache.specs.Replies.{IsStuck}
use Rattle.fst_seat.proofs.Seated.{block_here, within}

-- what may be written, or no memory for it
pub step_choose : {V : Type 0} (names : V → List ℕ) (s : State) (b : ℕ) (r : Result V Fault) → (length s.blocks ≤ b → ⊥)
    → IfOk r (λ v. IsWritableSet s.heads b (names v)) → IfErr r (λ f. HasReady s.heads b × (f ≡ fault.Memory))
    → MatchResult r (λ v. Step s (Choose b) (Chosen (names v)) s) (λ f. Step s (Choose b) (Refused f) s)
step_choose names s b (Ok v) there ok err = accepted (there, tt) (choose ok)
step_choose names s b (Err f) there ok err = refused (inr ((there, tt), err))

-- where there is no pick, each change in memory is held up
pub never_stuck : {X : Type 0} (number : X → ℕ) (s : State) (r : Option X) → IsLawful s → IsPick s.heads (option_map number r) → IfNone r (IsStuck s)
never_stuck number s None law none = never_stuck_state s law none
never_stuck number s (Some b) law least = tt

pub not_there : (seats : List SeatView) (b : ℕ) (seat : SeatView) → slice_get seats b ≡ Some seat → length (blocks seats) ≤ b → ⊥
not_there seats b seat at_b past = let lt = within seats b seat at_b in let few : length seats ≤ b = rw length-map at past in omega (arith, few, lt)

-- a block with this seat that is busy
pub busy_refused : {Slot : Type 0} (i : Inside Slot) (b : ℕ) (seat : SeatView) → slice_get i.seats.seats b ≡ Some seat → is_some seat.block.flight ≡ true → IsRefusal (state_of i) (Issue b) fault.Busy
busy_refused i b seat at_b busy =
    inl (inr (not_there i.seats.seats b seat at_b, inl (ap (λ (v : BlockState). is_some v.flight) (block_here i.seats.seats b seat at_b) ∙ busy, refl)))

-- no memory for what may be written
pub refused_memory : {V : Type 0} (s : State) (b : ℕ) (r : Result V Fault) → NoneHolds (order s (Issue b)) → IfErr r (λ f. HasReady s.heads b × (f ≡ fault.Memory)) → IfErr r (λ f. IsRefusal s (Issue b) f)
refused_memory s b (Ok v) clear err = err
refused_memory s b (Err f) clear err = inr (clear, err.1)

pub on_ok : {V E : Type 0} (r : Result V E) (P : Type 0) → P → OnOk r P
on_ok (Ok v) P p = p
on_ok (Err e) P p = tt

-- why a write of a block that is not busy cannot go out
module _ {Slot : Type 0} (i : Inside Slot) (b : ℕ) (seat : SeatView) (at_b : slice_get i.seats.seats b ≡ Some seat) (idle : is_some seat.block.flight ≡ false) where
  abbrev s : State
  s = state_of i

  busy : IsSome (flight_of s b) → ⊥
  busy flies = none_flies (flight_of s b) seat.block.flight (ap (λ (v : BlockState). v.flight) (block_here i.seats.seats b seat at_b)) idle flies
    where
      none_flies : (o p : Option Flight) → o ≡ p → is_some p ≡ false → IsSome o → ⊥
      none_flies o p e f h = cc

  pub at_rest : IsLawful s → NoneFlies i.graph.heads b
  at_rest law p h on flies = let f = law.flights_have_changes.kept b p (record { head = h; change = on; flight = flies }) in busy (subst IsSome (sym f.1) refl)

  pub nothing_ready : (HasReady i.graph.heads b → ⊥) → IsRefusal s (Issue b) fault.NothingReady
  nothing_ready none = inl (inr (not_there i.seats.seats b seat at_b, inr (busy, inl (none, refl))))

  -- the graph was asked, and has nothing prepared any more
  module _ (ready : HasReady i.graph.heads b) (asked : Known) (same : asked ≡ unprepared i.graph) where
    pub sending_refused : (f : Fault) → IsFirst (sending_order (state_of (with_graph i asked)) b) f → IsRefusal s (Issue b) f
    sending_refused f first =
        let decides : IsFirst (sending_order s b) f = rw same at first in
        inl (inr (not_there i.seats.seats b seat at_b, inr (busy, inr ((λ none. none ready), decides))))

    pub sending_clear : NoneHolds (sending_order (state_of (with_graph i asked)) b) → NoneHolds (order s (Issue b))
    sending_clear clear =
        let free : NoneHolds (sending_order s b) = rw same at clear in
        (not_there i.seats.seats b seat at_b, (busy, ((λ none. none ready), free)))
