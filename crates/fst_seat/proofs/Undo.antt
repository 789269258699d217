-- How many undo bytes all blocks keep, as seats change.
use Rattle.std.proofs.Common.{◌≡◌, ◌≤◌, ◌+◌, ℕ, not, false, List, [], ◌∷◌, ◌++◌, Option, Some, None, refl, sym, ap, ◌∙◌, inl, inr, arith, slice_get, slice_set, sum_by}
use Rattle.std.specs.Option.{option_map_or}
use Rattle.std.proofs.lemmas.Bool.{true≢false}
use Rattle.std.proofs.lemmas.List.Sums.{sum_by-set, sum_by-append}
use Rattle.std.proofs.lemmas.List.Filters.{sum_by-filter_both}
use Rattle.std.proofs.lemmas.Option.{get_or_from_slice_get, slice_get_within}
use Rattle.fst_types.specs.State.{Flight}
use Rattle.fst_types.specs.declared.number.PatchNo.{PatchNo}
use Rattle.fst_block.specs.BlockView.{BlockPatch, BlockView, len_if_soft, soft_lengths}
use Rattle.fst_block.specs.Choices.{is_chosen, others_of}
use Rattle.fst_seat.specs.Seats.{SeatView, undo_of, has_patches, is_dirty_with, is_dirty_seat, seats_of}
use Rattle.fst_seat.proofs.Loading.{away_read}
use Rattle.fst_seat.specs.Residing.{IsReadOf, MakesPlace}
use Rattle.fst_seat.specs.Residing.{MayLoad, Puts}

abbrev undo_with : Option BlockView → ℕ
undo_with loaded = option_map_or (λ (l : BlockView). soft_lengths l.patches) loaded 0

module _ (seats : List SeatView) (b : ℕ) (seat new : SeatView) (at_b : slice_get seats b ≡ Some seat) where
  -- the seat of block b changes
  pub undo_put : sum_by undo_of (slice_set seats b new) + undo_of seat ≡ sum_by undo_of seats + undo_of new
  undo_put = rw (get_or_from_slice_get seats b seat seat at_b) at (sum_by-set undo_of seats b new seat (slice_get_within seats b seat at_b))

  pub undo_same : (n : ℕ) → undo_of new ≡ undo_of seat → n ≡ sum_by undo_of seats → n ≡ sum_by undo_of (slice_set seats b new)
  undo_same n same known = let r = undo_put in omega (arith, r, same, known)

  -- it keeps no more than all do
  pub undo_within : undo_of seat ≤ sum_by undo_of seats + undo_of new
  undo_within = let r = undo_put in omega (arith, r)

-- a block that is not dirty keeps none
pub undo_clean : (seat : SeatView) → is_dirty_seat seat ≡ false → undo_of seat ≡ 0
undo_clean seat still = by_flight seat.block.flight seat.loaded still
  where
    by_patches : (ps : List BlockPatch) → has_patches ps ≡ false → soft_lengths ps ≡ 0
    by_patches [] still = refl
    by_patches (p ∷ ps) still = absurd (true≢false still)

    by_flight : (f : Option Flight) (o : Option BlockView) → is_dirty_with f o ≡ false → undo_with o ≡ 0
    by_flight (Some f) o still = absurd (true≢false still)
    by_flight None None still = refl
    by_flight None (Some l) still = by_patches l.patches still

undo_placed : (resident : ℕ) (old new : List SeatView) → MakesPlace resident old new → sum_by undo_of new ≡ sum_by undo_of old
undo_placed resident old new (inl h) = ap (sum_by undo_of) h.1
undo_placed resident old new (inr h) =
    let none = undo_clean h.1.1 h.1.2.block.clean in
    ap (sum_by undo_of) h.1.3 ∙ sym (undo_same old h.1.0 h.1.1 (record h.1.1 { loaded = None }) h.1.2.at (sum_by undo_of old) (sym none) refl)

undo_read : (seat : SeatView) (o : Option BlockView) → IsReadOf seat o → undo_with o ≡ 0
undo_read seat o (inl none) = ap undo_with none
undo_read seat o (inr is) = ap undo_with is

-- a load changes nothing of it
pub undo_load : (resident : ℕ) (old : List SeatView) (b : ℕ) (new : List SeatView) → MayLoad resident old b new → sum_by undo_of new ≡ sum_by undo_of old
undo_load resident old b new (inl h) = ap (sum_by undo_of) h.1
undo_load resident old b new (inr L) =
    let read = undo_read L.seat L.loaded L.read in
    let away = ap undo_with (away_read L) in
    ap (sum_by undo_of) L.seats
    ∙ (sym (undo_same L.placed b L.seat (record L.seat { loaded = L.loaded; faults = L.faults }) L.at (sum_by undo_of L.placed) (read ∙ sym away) refl)
    ∙ undo_placed resident old L.placed L.place)

-- a change takes as many as it has bytes where it is soft
pub undo_puts : (resident : ℕ) (old : List SeatView) (b : ℕ) (patch : BlockPatch) (new : List SeatView) → Puts resident old b patch new
    → sum_by undo_of new ≡ sum_by undo_of old + len_if_soft patch.grade patch.span.len
undo_puts resident old b patch new P =
    let put = record P.seat { loaded = Some (record P.view { patches = P.view.patches ++ patch ∷ [] }) } in
    let r = undo_put P.read b P.seat put P.at in
    let was : undo_of P.seat ≡ soft_lengths P.view.patches = ap undo_with P.there in
    let is : undo_of put ≡ soft_lengths P.view.patches + (0 + len_if_soft patch.grade patch.span.len) = sum_by-append (λ (p : BlockPatch). len_if_soft p.grade p.span.len) P.view.patches (patch ∷ []) in
    let loaded = undo_load resident old b P.read P.load in
    ap (sum_by undo_of) P.seats ∙ omega (arith, r, was, is, loaded)

-- a write of some changes leaves the others
pub undo_left : (names : List PatchNo) (seat new : SeatView) (l : BlockView) (base : List ℕ) → seat.loaded ≡ Some l
    → new.loaded ≡ Some (record { base = base; patches = others_of names l.patches }) → undo_of new ≤ undo_of seat
undo_left names seat new l base there left =
    let was : undo_of seat ≡ soft_lengths l.patches = ap undo_with there in
    let is : undo_of new ≡ soft_lengths (others_of names l.patches) = ap undo_with left in
    let both = sum_by-filter_both (is_chosen names) (λ (p : BlockPatch). not (is_chosen names p)) (λ p. refl) (λ (p : BlockPatch). len_if_soft p.grade p.span.len) l.patches in
    omega (arith, was, is, both)

pub none_undo : {X : Type 0} (held : X → List ℕ) (index faults : X → ℕ) (slots : List X) → 0 ≡ sum_by undo_of (seats_of held index faults slots)
none_undo held index faults [] = refl
none_undo held index faults (x ∷ xs) = none_undo held index faults xs
