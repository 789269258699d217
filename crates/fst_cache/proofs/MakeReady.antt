-- The cache with room for a change in its graph and the block in memory: the same state, and what the block's seat needs.
use Rattle.std.proofs.Common.{◌≡◌, ◌<◌, ◌+◌, ℕ, Bool, true, List, [], ◌∷◌, map, filter, Option, Some, None, All, refl, sym, ap, subst, ◌∙◌, inl, inr, arith, length, slice_get}
use Rattle.std.specs.Prelude.{IfSome, nat_lt, slice_index}
use Rattle.std.proofs.lemmas.Bool.{cases_Bool, both_ways}
use Rattle.std.proofs.lemmas.List.{length-map}
use Rattle.std.proofs.lemmas.List.Elements.{All-cons, All-nil}
use Rattle.std.proofs.lemmas.Option.{slice_get_within}
use Rattle.fst_types.specs.declared.place.Place.TheVariants as place
use Rattle.fst_types.specs.Patches.{Patch}
use Rattle.fst_types.specs.Tests.{is_change_at}
use Rattle.fst_types.specs.State.{BlockState}
use Rattle.fst_types.specs.Counts.{is_dirty, IsDirty}
use Rattle.fst_types.specs.Residence.{faults_rose}
use Rattle.fst_types.proofs.Finite.{In, Contains-from_In}
use Rattle.fst_block.specs.BlockView.{BlockPatch, BlockView}
use Rattle.fst_graph.specs.Known.{Known, Prepared}
use Rattle.fst_seat.specs.Seats.{SeatView, SeatsView, blocks}
use Rattle.fst_seat.specs.Residing.{MayLoad}
use Rattle.fst_cache.specs.declared.cache.Cache.TheInside.{Inside}
use Rattle.fst_cache.specs.Kept.{IsKept, state_of, block_patch, block_view}
use Rattle.fst_cache.proofs.Kept.{kept_prepared, kept_seats}
use Rattle.fst_cache.proofs.ResideSeats.{block_is}
use Rattle.fst_cache.proofs.ResideLoading.{Loaded, load_keeps, loads_clean}

all_older : (contents : List (ℕ × List ℕ)) (n : ℕ) (t : Patch → Bool) (xs : List Patch) → ((x : Patch) → In xs x → x.number < n) → All (λ (p : BlockPatch). p.number < n) (map (block_patch contents) (filter t xs))
all_older contents n t [] each = All-nil (λ (p : BlockPatch). p.number < n)
all_older contents n t (x ∷ xs) each =
    let rest = all_older contents n t xs (λ y h. each y (inr h)) in
    elim (cases_Bool (t x)) [
      | inl yes_x ↦ rw yes_x (All-cons (λ (p : BlockPatch). p.number < n) (block_patch contents x) (map (block_patch contents) (filter t xs)) (each x (inl refl)) rest)
      | inr no_x ↦ rw no_x rest
    ]

-- the slot's count of faults rose
abbrev pub has_risen : List SeatView → List SeatView → ℕ → Bool
has_risen old new b = faults_rose (map (λ (t : SeatView). t.faults) old) (map (λ (t : SeatView). t.faults) new) b

-- then the block was read, so it was not dirty
pub read_clean : {Slot : Type 0} (i : Inside Slot) → IsKept i → (b : ℕ) (new : List SeatView) → MayLoad i.seats.most i.seats.seats b new → has_risen i.seats.seats new b ≡ true → IsDirty (state_of i) b → ⊥
read_clean i K b new (inl here) up dirty = not_above (slice_index (map (λ (t : SeatView). t.faults) i.seats.seats) b) (subst (λ (xs : List SeatView). has_risen i.seats.seats xs b ≡ true) here.1 up)
  where
    not_above : (n : ℕ) → nat_lt n n ≡ true → ⊥
    not_above n up = grind (arith, up)
read_clean i K b new (inr L) up dirty = both_ways (is_dirty i.graph.heads b) (loads_clean i K b new L) dirty

module _ {Slot : Type 0} (i : Inside Slot) (K : IsKept i) {graph : Known} {prepared : Option Prepared} (same : graph ≡ record i.graph { prepared = prepared })
    (seats : SeatsView) (most : seats.most ≡ i.seats.most) {b : ℕ} (load : MayLoad i.seats.most i.seats.seats b seats.seats) where
  abbrev pub ready : Inside Slot
  ready = record i { graph = graph; seats = seats }

  loaded : Loaded i b seats.seats
  loaded = load_keeps i K b seats.seats load

  pub same_state : state_of ready ≡ state_of i
  same_state = rw (same, most, loaded.blocks) refl

  pub kept_ready : IsKept ready
  kept_ready = kept_prepared (record i { seats = seats }) (kept_seats i seats most loaded.kept) graph prepared same

module _ {Slot : Type 0} (i : Inside Slot) (K : IsKept i) (b : ℕ) (seat : SeatView) (at_b : slice_get i.seats.seats b ≡ Some seat) where
  -- a block has the size
  pub as_long : length seat.block.committed ≡ i.size
  as_long =
      let within = slice_get_within i.seats.seats b seat at_b in
      let many : length (blocks i.seats.seats) ≡ length i.seats.seats = length-map i.seats.seats (λ (t : SeatView). t.block) in
      let long = K.lawful.changes_fit.sized b (omega (arith, within, many)) in
      ap (λ (v : BlockState). length v.committed) (sym (block_is i K b seat at_b)) ∙ long

  -- a number above all that were given is above those of the block's patches
  pub newest : (n : ℕ) → n ≡ i.graph.numbers + 1 → IfSome seat.loaded (λ (l : BlockView). All (λ (p : BlockPatch). p.number < n) l.patches)
  newest n next = of_view seat.loaded (λ l e. (K.seat b seat at_b).loaded l e)
    where
      older : (x : Patch) → In i.graph.heads x → x.number < n
      older x h = let k = (K.lawful.heads.one_place_each.numbered x (Contains-from_In i.graph.heads x h)).1 in omega (arith, k, next)

      of_view : (o : Option BlockView) → ((l : BlockView) → o ≡ Some l → l ≡ block_view (state_of i) b) → IfSome o (λ (l : BlockView). All (λ (p : BlockPatch). p.number < n) l.patches)
      of_view None is = tt
      of_view (Some l) is =
          subst (λ (v : BlockView). All (λ (p : BlockPatch). p.number < n) v.patches) (sym (is l refl))
          (all_older i.contents.items n (is_change_at place.Memory b) i.graph.heads older)
