-- Which blocks are in memory after a block was wanted there, as callers see it.
use Rattle.std.proofs.Common.{◌≡◌, ◌⊎◌, ℕ, zero, suc, Bool, true, false, List, [], ◌∷◌, map, Option, Some, None, is_some, refl, sym, ap, ◌∙◌, inl, inr, subst, arith, nat_lt, slice_get, slice_set, Result, Ok, Err, IsSome, ◌+◌}
use Rattle.std.specs.Prelude.{IsErrOf, slice_index}
use Rattle.std.proofs.lemmas.Bool.{false≢true, true≢false, ltb-true}
use Rattle.std.proofs.lemmas.Option.{same_Some}
use Rattle.fst_types.specs.declared.fault.Fault.{Fault}
use Rattle.fst_types.specs.declared.fault.Fault.TheVariants as fault
use Rattle.fst_types.specs.Residence.{IsResident, MakesRoom, MakesRoomFor, Brings, FailsToBring, faults_rose, IsOneFaultMore}
use Rattle.fst_types.specs.Events.{Show}
use Rattle.fst_types.specs.Order.{order, make_order, group_patch_order}
use Rattle.fst_types.specs.Refusals.{Rule, IsFirst}
use Rattle.fst_types.specs.State.{State}
use Rattle.fst_block.specs.BlockView.{BlockPatch, BlockView}
use Rattle.fst_graph.specs.Known.{Refuses}
use Rattle.fst_seat.specs.Names.{numbers_of}
use Rattle.fst_seat.specs.Seats.{SeatView}
use Rattle.fst_seat.specs.Residing.{are_loaded, IsAwayAt, IsLoadedAt, MakesPlace, Loads, MayLoad, Puts}
use Rattle.fst_seat.proofs.Counts.{count_mapped}
use Rattle.fst_seat.proofs.Loading.{away_read}
use Rattle.fst_seat.proofs.Seated.{listed, listed_set, same_listed, set_here}
use Rattle.fst_cache.specs.declared.cache.Cache.TheInside.{Inside}
use Rattle.fst_cache.specs.declared.cache.change.After.{After}
use Rattle.fst_cache.specs.declared.cache.change.After.TheVariants.{Named, InGroup}
use Rattle.fst_cache.specs.After.{order_after}
use Rattle.fst_cache.specs.Kept.{IsKept, state_of, view_of}
use Rattle.fst_cache.specs.Making.{span_order}
use Rattle.fst_cache.specs.Views.{CacheView, NeedsBlock}
use Rattle.fst_seat.proofs.Putting.{not_failed}
use Rattle.fst_cache.proofs.ResideLoading.{Loaded}
use Rattle.fst_cache.proofs.ResideSeats.{dirty_is}
use Rattle.fst_cache.proofs.ResideShowing.{faults_of, same_fault, told}

-- no rule answers that the read failed
abbrev NeverDevice : List Rule → Type 0
NeverDevice [] = Unit {0}
NeverDevice (r ∷ rs) = (r.allows fault.Device → ⊥) × NeverDevice rs

never_first : (rules : List Rule) (f : Fault) → NeverDevice rules → IsFirst rules f → f ≡ fault.Device → ⊥
never_first [] f never first is = first
never_first (r ∷ rs) f never first is = elim first [ inl h ↦ never.0 (subst r.allows is h.1) | inr h ↦ never_first rs f never.1 h.1 is ]

pub span_not_device : (s : State) (share b at : ℕ) (bytes : List ℕ) (f : Fault) → IsFirst (span_order s share b at bytes) f → f ≡ fault.Device → ⊥
span_not_device s share b at bytes f = never_first (span_order s share b at bytes) f ((λ e. cc), ((λ e. cc), ((λ e. cc), ((λ e. cc), ((λ e. cc), tt)))))

pub show_not_device : (s : State) (b : ℕ) (faulted : Bool) (f : Fault) → IsFirst (order s (Show b faulted)) f → f ≡ fault.Device → ⊥
show_not_device s b faulted f = never_first (order s (Show b faulted)) f ((λ e. cc), ((λ e. cc), tt))

memory_device : fault.Memory ≡ fault.Device → ⊥
memory_device e = cc

pub after_not_device : (after : After) (s : State) (b at len : ℕ) (f : Fault) → Refuses (order_after after s.heads s.numbers s.groups b at len) f → f ≡ fault.Device → ⊥
after_not_device after s b at len f (inr memory) is = memory_device (sym memory.1 ∙ is)
after_not_device (Named names) s b at len f (inl first) is = never_first (make_order s.heads s.numbers (numbers_of names.now)) f ((λ e. cc), ((λ e. cc), ((λ e. cc), ((λ e. cc), tt)))) first is
after_not_device (InGroup group) s b at len f (inl first) is = never_first (group_patch_order s.heads s.numbers s.groups group.0 b at len) f ((λ e. cc), ((λ e. cc), ((λ e. cc), ((λ e. cc), ((λ e. cc), tt))))) first is

-- a refusal by a rule leaves all as it was
pub refused_beside : {T : Type 0} (old new : CacheView) (b : ℕ) (f : Fault) → (f ≡ fault.Device → ⊥) → new.resident ≡ old.resident → new.faults ≡ old.faults → new.homes ≡ old.homes → new.back ≡ old.back → NeedsBlock {T = T} old b (Err f) new
refused_beside old new b f other resident faults homes back = record {
  counted = λ device. absurd (other (same_fault device));
  uncounted = λ _. faults;
  away = λ device. absurd (other (same_fault device));
  brought = tt;
  left = inl resident;
  homes = homes;
  back = back;
}

-- a count that rose, by one at most, is one more
one_more : (before : List ℕ) (b : ℕ) (after : List ℕ) → faults_rose before after b ≡ true → IsOneFaultMore before b after → after ≡ slice_set before b (slice_index before b + 1)
one_more before b after rose (inl same) = absurd (not_below (slice_index before b) (sym (ap (λ (xs : List ℕ). nat_lt (slice_index before b) (slice_index xs b)) same) ∙ rose))
  where
    not_below : (n : ℕ) → nat_lt n n ≡ true → ⊥
    not_below n e = omega (arith, ltb-true n n e)
one_more before b after rose (inr one) = one

some_none : {o : Option BlockView} → IsSome o → o ≡ None → ⊥
some_none there none = false≢true (sym (ap (λ (p : Option BlockView). is_some p) none) ∙ there)

-- a block that is away is not in memory
not_resident : (seats : List SeatView) (b : ℕ) → IsAwayAt seats b → IsResident (are_loaded seats) b → ⊥
not_resident [] b away there = false≢true there
not_resident (x ∷ xs) zero away there = false≢true (sym (ap (λ (o : Option BlockView). is_some o) (away x refl)) ∙ there)
not_resident (x ∷ xs) (suc b) away there = not_resident xs b away there

module _ {Slot : Type 0} (i : Inside Slot) (K : IsKept i) where
  abbrev s : State
  s = state_of i

  abbrev seats : List SeatView
  seats = i.seats.seats

  room_made : (placed : List SeatView) → MakesPlace i.seats.most seats placed → MakesRoom s (are_loaded seats) (are_loaded placed)
  room_made placed (inl h) = inl (rw (count_mapped (λ (r : Bool). r) (λ (t : SeatView). is_some t.loaded) seats) h.0, ap are_loaded h.1)
  room_made placed (inr h) =
      let c = h.1.0 in
      let seat = h.1.1 in
      let found = h.1.2 in
      inr (
        rw (count_mapped (λ (r : Bool). r) (λ (t : SeatView). is_some t.loaded) seats) h.0,
        (
          c,
          record {
            there = listed seats c seat found.at (λ (t : SeatView). is_some t.loaded) false ∙ found.block.there;
            clean = λ d. true≢false (sym d ∙ (sym (dirty_is i K c seat found.at) ∙ found.block.clean));
          },
          ap are_loaded h.1.3 ∙ listed_set seats c seat found.at (λ (t : SeatView). is_some t.loaded) (record seat { loaded = None }),
        ),
      )

  module _ {b : ℕ} {new : List SeatView} where
    room_for : (L : Loads i.seats.most seats b new) → MakesRoomFor s (are_loaded seats) b (are_loaded L.placed)
    room_for L = record { away = not_resident seats b L.away; room = room_made L.placed L.place }

    stays_away : (L : Loads i.seats.most seats b new) → L.loaded ≡ None → are_loaded new ≡ are_loaded L.placed
    stays_away L none =
        ap are_loaded L.seats
        ∙ same_listed L.placed b L.seat L.at (λ (t : SeatView). is_some t.loaded) (record L.seat { loaded = L.loaded; faults = L.faults }) (ap (λ (o : Option BlockView). is_some o) (none ∙ sym (away_read L)))

    comes : (L : Loads i.seats.most seats b new) → is_some L.loaded ≡ true → Brings s (are_loaded seats) b (are_loaded new)
    comes L some =
        inr (
          are_loaded L.placed,
          room_for L,
          ap are_loaded L.seats
              ∙ (listed_set L.placed b L.seat L.at (λ (t : SeatView). is_some t.loaded) (record L.seat { loaded = L.loaded; faults = L.faults })
              ∙ ap (slice_set (are_loaded L.placed) b) some),
        )

    -- what stands there now
    now : (L : Loads i.seats.most seats b new) → slice_get new b ≡ Some (record L.seat { loaded = L.loaded; faults = L.faults })
    now L = ap (λ (xs : List SeatView). slice_get xs b) L.seats ∙ set_here L.placed b L.seat L.at (record L.seat { loaded = L.loaded; faults = L.faults })

    -- it was brought
    pub brings : MayLoad i.seats.most seats b new → IsLoadedAt new b → Brings s (are_loaded seats) b (are_loaded new)
    brings (inl h) there = inl (listed seats b h.0.seat h.0.at (λ (t : SeatView). is_some t.loaded) false ∙ h.0.there, ap are_loaded h.1)
    brings (inr L) there = comes L (ap (λ (t : SeatView). is_some t.loaded) (same_Some _ there.seat (sym (now L) ∙ there.at)) ∙ there.there)

    -- a call that wanted it was refused: it could not be read, and is away
    pub fails_away : (why : Fault) → MayLoad i.seats.most seats b new → IsAwayAt new b → (why ≡ fault.Device) ⊎ (why ≡ fault.Memory) → FailsToBring s (are_loaded seats) b why (are_loaded new)
    fails_away why (inl h) away is = inl (ap are_loaded h.1)
    fails_away why (inr L) away is =
        let same = stays_away L (away _ (now L)) in
        inr (inl (is, rw same (room_for L)))

    -- or there was no memory, for its bytes or for the rest
    pub fails_memory : (why : Fault) → MayLoad i.seats.most seats b new → why ≡ fault.Memory → FailsToBring s (are_loaded seats) b why (are_loaded new)
    fails_memory why (inl h) is = inl (ap are_loaded h.1)
    fails_memory why (inr L) is = elim L.read [
      | inl none ↦ inr (inl (inr is, rw (stays_away L none) (room_for L)))
      | inr some ↦ inr (inr (is, comes L (ap (λ (o : Option BlockView). is_some o) some)))
    ]

    -- where it could not be read, a place was made for it
    pub room_where_away : MayLoad i.seats.most seats b new → IsAwayAt new b → MakesRoomFor s (are_loaded seats) b (are_loaded new)
    room_where_away (inl h) away = absurd (some_none h.0.there (away h.0.seat (ap (λ (xs : List SeatView). slice_get xs b) h.1 ∙ h.0.at)))
    room_where_away (inr L) away = rw (stays_away L (away _ (now L))) (room_for L)

    -- by the fault it is told which
    pub fails_either : {T : Type 0} (r : Result T Fault) (why : Fault) → r ≡ Err why → MayLoad i.seats.most seats b new → (IsErrOf r fault.Device → IsAwayAt new b) → (why ≡ fault.Device) ⊎ (why ≡ fault.Memory)
        → FailsToBring s (are_loaded seats) b why (are_loaded new)
    fails_either r why is load away (inl device) = fails_away why load (away (is ∙ ap (λ (x : Fault). Err x) device)) (inl device)
    fails_either r why is load away (inr memory) = fails_memory why load memory

    -- so a call leaves beside the state what it says
    pub left_beside : {T U : Type 0} (f : Fault) (r : Result T Fault) (v : CacheView) → r ≡ Err f → v.resident ≡ are_loaded new → v.faults ≡ faults_of new → v.homes ≡ map (λ (t : SeatView). t.home) new → v.back ≡ map (λ (t : SeatView). t.back) new
        → Loaded i b new → MayLoad i.seats.most seats b new → (f ≡ fault.Device) ⊎ (f ≡ fault.Memory) → (IsErrOf r fault.Device → IsAwayAt new b) → (IsErrOf r fault.Device → faults_rose (faults_of seats) (faults_of new) b ≡ true)
        → IsOneFaultMore (faults_of seats) b (faults_of new) → ((IsErrOf r fault.Device → ⊥) → faults_of new ≡ faults_of seats) → NeedsBlock {T = U} (view_of i) b (Err f) v
    left_beside f r v is residents faults homes back L load kind away rose one quiet = record {
      counted = λ device. faults ∙ one_more (faults_of seats) b (faults_of new) (rose (is ∙ told f f refl device)) one;
      uncounted = λ fine. faults ∙ quiet (λ device. fine (told f f refl (sym is ∙ device)));
      away = λ device. rw residents (room_where_away load (away (is ∙ told f f refl device)));
      brought = tt;
      left = rw residents (fails_either r f is load away kind);
      homes = homes ∙ L.homes;
      back = back ∙ L.back;
    }

  -- the block was brought, and read without a fault
  pub brought_beside : {T : Type 0} {b : ℕ} (new : List SeatView) (x : T) (v : CacheView) → v.resident ≡ are_loaded new → v.faults ≡ faults_of new → v.homes ≡ map (λ (t : SeatView). t.home) new → v.back ≡ map (λ (t : SeatView). t.back) new
      → Brings s (are_loaded seats) b (are_loaded new) → faults_of new ≡ faults_of seats → map (λ (t : SeatView). t.home) new ≡ map (λ (t : SeatView). t.home) seats → map (λ (t : SeatView). t.back) new ≡ map (λ (t : SeatView). t.back) seats
      → NeedsBlock {T = T} (view_of i) b (Ok x) v
  brought_beside new x v residents faults homes back brings quiet home came = record {
    counted = λ device. absurd (not_failed device);
    uncounted = λ _. faults ∙ quiet;
    away = λ device. absurd (not_failed device);
    brought = rw residents brings;
    left = tt;
    homes = homes ∙ home;
    back = back ∙ came;
  }

  -- a patch was put into the block that was brought
  pub brings_put : {b : ℕ} {patch : BlockPatch} {new : List SeatView} → Puts i.seats.most seats b patch new → Brings s (are_loaded seats) b (are_loaded new)
  brings_put {b} {patch} {new} puts =
      let there : is_some puts.seat.loaded ≡ true = ap (λ (o : Option BlockView). is_some o) puts.there in
      let same : are_loaded new ≡ are_loaded puts.read = ap are_loaded puts.seats ∙ same_listed puts.read b puts.seat puts.at (λ (t : SeatView). is_some t.loaded) _ (sym there) in
      rw same (brings puts.load (record { seat = puts.seat; at = puts.at; there = there }))
