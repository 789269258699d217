-- The seat of a block that was read where it was not in memory, and that then has one patch more.
use Rattle.std.proofs.Common.{◌≡◌, ◌⊎◌, ◌<◌, ◌≤◌, ℕ, List, [], ◌∷◌, ◌++◌, Option, Some, None, IsSome, All, refl, sym, ap, subst, ◌∙◌, inl, inr, length, slice_get, slice_set}
use Rattle.std.specs.Prelude.{IfSome, Result, IsErr, IsErrOf, IfErr, OnOk, OnErr, Ok, Err}
use Rattle.std.proofs.lemmas.Bool.{false≢true}
use Rattle.std.proofs.lemmas.List.Elements.{All-nil}
use Rattle.fst_types.specs.declared.fault.Fault.{Fault}
use Rattle.fst_types.specs.declared.fault.Fault.TheVariants as fault
use Rattle.fst_types.specs.Residence.{IsOneFaultMore}
use Rattle.fst_types.specs.State.{BlockState}
use Rattle.fst_block.specs.BlockView.{BlockPatch, BlockView}
use Rattle.fst_seat.specs.Seats.{SeatView}
use Rattle.fst_seat.specs.Residing.{IsReadOf, MakesPlace, MayLoad, Puts}
use Rattle.fst_seat.proofs.Seated.{get-set, same_seat}

-- what a call did that refused
pub on_refusal : {T E P : Type 0} (r : Result T E) → IsErr r → OnErr r P → P
on_refusal (Ok x) e p = absurd (false≢true e)
on_refusal (Err x) e p = p

-- want of memory is one of a load's faults
pub memory_kind : {T : Type 0} (r : Result T Fault) → IfErr r (λ f. f ≡ fault.Memory) → IsErr r → IsErrOf r fault.Device ⊎ IsErrOf r fault.Memory
memory_kind (Ok x) only e = absurd (false≢true e)
memory_kind (Err f) only e = inr (ap (λ (x : Fault). Err x) only)

-- what answers Ok has no fault
pub not_failed : {T : Type 0} {x : T} {f : Fault} → ◌≡◌ {A = Result T Fault} (Ok x) (Err f) → ⊥
not_failed e = cc

-- a fault that is want of memory alone is not the device's
pub not_device : {T : Type 0} (r : Result T Fault) → IfErr r (λ f. f ≡ fault.Memory) → IsErrOf r fault.Device → ⊥
not_device (Ok x) only e = not_failed e
not_device (Err f) only e = another (same_error e) only
  where
    same_error : {T : Type 0} {g h : Fault} → ◌≡◌ {A = Result T Fault} (Err g) (Err h) → g ≡ h
    same_error e = cc

    another : {g : Fault} → g ≡ fault.Device → g ≡ fault.Memory → ⊥
    another a b = cc

-- the same block, with the patches that it had or none
record IsOfSeat (old new : SeatView) : Type 0 where
  block : new.block ≡ old.block
  loaded : (new.loaded ≡ old.loaded) ⊎ ((l : BlockView) → new.loaded ≡ Some l → l.patches ≡ [])

same_of : (seat : SeatView) → IsOfSeat seat seat
same_of seat = record { block = refl; loaded = inl refl }

some_same : {l m : BlockView} → Some l ≡ Some m → l ≡ m
some_same e = cc

none_some : {l : BlockView} → None ≡ Some l → ⊥
none_some e = cc

-- what stood at b before a place was made
placed_of : (resident : ℕ) (old placed : List SeatView) (b : ℕ) (seat : SeatView) → MakesPlace resident old placed → slice_get placed b ≡ Some seat
    → (was : SeatView) × (slice_get old b ≡ Some was) × (seat.block ≡ was.block)
placed_of resident old placed b seat (inl h) at_b = (seat, ap (λ xs. slice_get xs b) (sym h.1) ∙ at_b, refl)
placed_of resident old placed b seat (inr h) at_b =
    let left = record h.1.1 { loaded = None } in
    let here : slice_get (slice_set old h.1.0 left) b ≡ Some seat = ap (λ xs. slice_get xs b) (sym h.1.3) ∙ at_b in
    elim (get-set old h.1.0 b left seat here) [
      | inl it ↦ (h.1.1, ap (slice_get old) it.0 ∙ h.1.2.at, ap (λ (t : SeatView). t.block) (sym it.1))
      | inr other ↦ (seat, other.1, refl)
    ]

module _ (resident : ℕ) (old new : List SeatView) (b : ℕ) (seat : SeatView) (at_b : slice_get new b ≡ Some seat) where
  -- what stood there before the load
  before_load : MayLoad resident old b new → (was : SeatView) × (slice_get old b ≡ Some was) × IsOfSeat was seat
  before_load (inl h) = (seat, ap (λ xs. slice_get xs b) (sym h.1) ∙ at_b, same_of seat)
  before_load (inr L) =
      let read = record L.seat { loaded = L.loaded; faults = L.faults } in
      let r = placed_of resident old L.placed b L.seat L.place L.at in
      let here : slice_get (slice_set L.placed b read) b ≡ Some seat = ap (λ xs. slice_get xs b) (sym L.seats) ∙ at_b in
      elim (get-set L.placed b b read seat here) [
        | inl it ↦ (
          r.0,
          r.1,
          record {
            block = ap (λ (t : SeatView). t.block) (sym it.1) ∙ r.2;
            loaded = inr (λ l e. bare L.seat L.loaded L.read l (ap (λ (t : SeatView). t.loaded) it.1 ∙ e));
          },
        )
        | inr other ↦ absurd (other.0 refl)
      ]
    where
      bare : (s : SeatView) (o : Option BlockView) → IsReadOf s o → (l : BlockView) → o ≡ Some l → l.patches ≡ []
      bare s o (inl none) l e = absurd (none_some (sym none ∙ e))
      bare s o (inr is) l e = ap (λ (v : BlockView). v.patches) (some_same (sym e ∙ is))

  pub inside_of : (n : ℕ) → MayLoad resident old b new → ((was : SeatView) → slice_get old b ≡ Some was → n ≤ length was.block.committed) → n ≤ length seat.block.committed
  inside_of n load each =
      let r = before_load load in
      subst (λ (v : BlockState). n ≤ length v.committed) (sym r.2.block) (each r.0 r.1)

  pub newest_of : (n : ℕ) → MayLoad resident old b new → ((was : SeatView) → slice_get old b ≡ Some was → IfSome was.loaded (λ (l : BlockView). All (λ (p : BlockPatch). p.number < n) l.patches))
      → IfSome seat.loaded (λ (l : BlockView). All (λ (p : BlockPatch). p.number < n) l.patches)
  newest_of n load each =
      let r = before_load load in
      elim r.2.loaded [
        | inl same ↦ subst (λ (o : Option BlockView). IfSome o (λ (l : BlockView). All (λ (p : BlockPatch). p.number < n) l.patches)) (sym same) (each r.0 r.1)
        | inr none ↦ bare seat.loaded none
      ]
    where
      bare : (o : Option BlockView) → ((l : BlockView) → o ≡ Some l → l.patches ≡ []) → IfSome o (λ (l : BlockView). All (λ (p : BlockPatch). p.number < n) l.patches)
      bare None none = tt
      bare (Some l) none = subst (λ (ps : List BlockPatch). All (λ (p : BlockPatch). p.number < n) ps) (sym (none l refl)) (All-nil (λ (p : BlockPatch). p.number < n))

  -- the seat with one patch more
  pub puts_of : (patch : BlockPatch) (put : SeatView) → MayLoad resident old b new → IsSome seat.loaded
      → IfSome seat.loaded (λ l. put ≡ record seat { loaded = Some (record l { patches = l.patches ++ patch ∷ [] }) })
      → Puts resident old b patch (slice_set new b put)
  puts_of patch put load there is = by_view seat.loaded refl there is
    where
      by_view : (o : Option BlockView) → seat.loaded ≡ o → IsSome o → IfSome o (λ l. put ≡ record seat { loaded = Some (record l { patches = l.patches ++ patch ∷ [] }) }) → Puts resident old b patch (slice_set new b put)
      by_view None e there is = absurd (false≢true there)
      by_view (Some l) e there is = record { read = new; load = load; seat = seat; at = at_b; view = l; there = e; seats = ap (slice_set new b) is }

  -- a seat that is as it was
  pub same_load : (put : SeatView) → MayLoad resident old b new → put ≡ seat → MayLoad resident old b (slice_set new b put)
  same_load put load same = subst (λ (xs : List SeatView). MayLoad resident old b xs) (sym (ap (slice_set new b) same ∙ same_seat new b seat at_b)) load

-- whether the patch was put or refused, the block is in memory and nothing else of the seat changes
pub seat_after : (seat : SeatView) {T E : Type 0} (r : Result T E) (patch : BlockPatch) (put : SeatView) → IsSome seat.loaded
    → OnOk r (IfSome seat.loaded (λ l. put ≡ record seat { loaded = Some (record l { patches = l.patches ++ patch ∷ [] }) }))
    → OnErr r (put ≡ seat)
    → (view : BlockView) × (put ≡ record seat { loaded = Some view })
seat_after seat r patch put there applied unchanged = by_loaded r seat.loaded refl there applied unchanged
  where
    by_loaded : {T E : Type 0} (r : Result T E) (o : Option BlockView) → seat.loaded ≡ o → IsSome o
        → OnOk r (IfSome o (λ l. put ≡ record seat { loaded = Some (record l { patches = l.patches ++ patch ∷ [] }) })) → OnErr r (put ≡ seat) → (view : BlockView) × (put ≡ record seat { loaded = Some view })
    by_loaded r None e there applied unchanged = absurd (false≢true there)
    by_loaded (Ok x) (Some l) e there applied unchanged = (record l { patches = l.patches ++ patch ∷ [] }, applied)
    by_loaded (Err x) (Some l) e there applied unchanged = (l, unchanged ∙ ap (λ (o : Option BlockView). record seat { loaded = o }) e)

-- what was said of the counts after the load is said of them after the patch
pub counts_after : (old new now : List ℕ) (b : ℕ) → now ≡ new → IsOneFaultMore old b new → IsOneFaultMore old b now
counts_after old new now b same (inl e) = inl (same ∙ e)
counts_after old new now b same (inr e) = inr (same ∙ e)
