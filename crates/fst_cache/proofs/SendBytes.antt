-- The image of a write: what is committed, with the chosen changes of the block over it.
use Rattle.std.specs.Prelude.{◌&&◌, not}
use Rattle.std.proofs.Common.{◌≡◌, ℕ, Bool, true, false, List, [], ◌∷◌, map, Option, Some, IsSome, None, refl, sym, ap, subst, ◌∙◌, arith, length, slice_get, IfSome}
use Rattle.std.proofs.lemmas.List.Folds.{list_any_at}
use Rattle.fst_types.specs.declared.number.PatchNo.{PatchNo}
use Rattle.fst_types.specs.declared.place.Place.{Place}
use Rattle.fst_types.specs.declared.place.Place.TheVariants as place
use Rattle.fst_types.specs.Patches.{Patch}
use Rattle.fst_types.specs.Tests.{is_at, is_live, is_on, is_among}
use Rattle.fst_types.specs.Fold.{Write, fold}
use Rattle.fst_types.specs.State.{State, BlockState, Flight, block_of, committed}
use Rattle.fst_types.specs.Bytes.{write_of, base_under, image_of, patches_of}
use Rattle.fst_types.specs.Counts.{IsDirty}
use Rattle.fst_types.specs.Facts.{IsLawful}
use Rattle.fst_types.specs.Writable.{IsInMemoryOn, IsWritableSet}
use Rattle.fst_types.specs.Events.{Issue}
use Rattle.fst_types.specs.Order.{order}
use Rattle.fst_types.specs.Refusals.{NoneHolds}
use Rattle.fst_types.proofs.Finite.{Contains-from_In}
use Rattle.fst_types.proofs.Fits.{fold_length, all_fit}
use Rattle.fst_types.proofs.Landing.{at_change}
use Rattle.fst_types.proofs.Numbers.{both}
use Rattle.fst_block.specs.BlockView.{BlockView, fold_of, write_of as block_write}
use Rattle.fst_block.specs.Choices.{IsChoice, chosen_of}
use Rattle.fst_seat.specs.Names.{numbers_of}
use Rattle.fst_cache.specs.Views.{CacheView}
use Rattle.fst_seat.specs.Seats.{SeatView, is_dirty_seat}
use Rattle.fst_seat.specs.Writing.{MayGoOut}
use Rattle.fst_cache.specs.declared.cache.Cache.TheInside.{Inside}
use Rattle.fst_cache.specs.Kept.{IsKept, state_of, view_of, block_patch, block_patches, block_view}
use Rattle.fst_seat.proofs.Seated.{block_here}
use Rattle.fst_cache.proofs.ResideSeats.{dirty_is}
use Rattle.fst_cache.proofs.SendSet.{early_in_set, chosen_part, at_home, there, ready, is_choice}

-- the block's writes are those of its changes
same_writes : (s : State) (ps : List Patch) → map block_write (map (block_patch s.contents) ps) ≡ map (write_of s) ps
same_writes s [] = refl
same_writes s (p ∷ ps) = ap (λ (ws : List Write). write_of s p ∷ ws) (same_writes s ps)

-- a change in memory makes its block dirty
dirty_with : (s : State) (b : ℕ) (p : Patch) → IsInMemoryOn s.heads b p → IsDirty s b
dirty_with s b p m =
    let k = both (is_at p.place place.Memory) (is_on b p.kind) (at_change place.Memory b p m.change m.memory) in
    list_any_at (λ q. is_live q && is_on b q.kind) s.heads m.head.0 p m.head.1 (subst (λ (q : Patch). (is_live q && is_on b q.kind) ≡ true) (sym m.head.2) (live p.place (is_on b p.kind) m.memory k.1))
  where
    live : (q : Place) (x : Bool) → q ≡ place.Memory → x ≡ true → (not (is_at q place.Disk) && x) ≡ true
    live place.Memory x e f = f
    live place.Flight x e f = cc
    live place.Disk x e f = cc

-- a write of the chosen may go out of the block with this seat
pub record MaySend {Slot : Type 0} (i : Inside Slot) (b : ℕ) (seat : SeatView) (names : List PatchNo) : Type 0 where
  pub kept : IsKept i
  pub at_b : slice_get i.seats.seats b ≡ Some seat
  pub choice : IsWritableSet i.graph.heads b (numbers_of names)
  pub clear : NoneHolds (order (state_of i) (Issue b))

pub may_send : {Slot : Type 0} (i : Inside Slot) (now : CacheView) → view_of i ≡ now → IsKept i
    → {b : ℕ} {seat : SeatView} {names : List PatchNo} → NoneHolds (order now.state (Issue b)) → IsWritableSet now.state.heads b (numbers_of names) → slice_get i.seats.seats b ≡ Some seat
    → MaySend i b seat names
may_send i now view K clear choice at_b = record {
  kept = K;
  at_b = at_b;
  choice = rw (← view) at choice;
  clear = rw (← view) at clear;
}

module _ {Slot : Type 0} (i : Inside Slot) {b : ℕ} {seat : SeatView} {names : List PatchNo} (S : MaySend i b seat names) where
  abbrev s : State
  s = state_of i

  abbrev law : IsLawful s
  law = S.kept.lawful

  -- a block with a change that may be written is in memory, as the state says
  pub loaded_is : seat.loaded ≡ Some (block_view s b)
  loaded_is =
      let r = ready s law b names S.choice S.clear in
      let k = S.kept.seat b seat S.at_b in
      of_some seat.loaded (k.dirty (dirty_with s b r.0 r.1.in_memory)) k.loaded
    where
      of_some : (o : Option BlockView) → IsSome o → ((l : BlockView) → o ≡ Some l → l ≡ block_view s b) → o ≡ Some (block_view s b)
      of_some None some is = absurd (wrong some)
        where
          wrong : false ≡ true → ⊥
          wrong e = cc
      of_some (Some l) some is = ap Some (is l refl)

  pub block_is : block_of s b ≡ seat.block
  block_is = block_here i.seats.seats b seat S.at_b

  idle : seat.block.flight ≡ None
  idle = ap (λ (v : BlockState). v.flight) (sym block_is) ∙ at_home s law b names S.choice S.clear

  pub chosen_here : IfSome seat.loaded (λ l. IsChoice l.patches names)
  chosen_here = rw loaded_is (is_choice s law b names S.choice S.clear)

  -- the image is what the block makes of the chosen
  pub image_is : fold_of (block_view s b).base (chosen_of names (block_patches s b)) ≡ image_of s b (numbers_of names)
  image_is =
      ap (λ (f : Option Flight). fold_of (base_under (committed s b) f) (chosen_of names (block_patches s b))) (at_home s law b names S.choice S.clear)
      ∙ (ap (fold_of (committed s b)) (chosen_part s law b names S.choice) ∙ ap (fold (committed s b)) (same_writes s (patches_of s (numbers_of names))))

  -- it was dirty
  was_dirty : is_dirty_seat seat ≡ true
  was_dirty =
      let r = ready s law b names S.choice S.clear in
      dirty_is i S.kept b seat S.at_b ∙ dirty_with s b r.0 r.1.in_memory

  -- and has the block's size
  image_sized : length (image_of s b (numbers_of names)) ≡ length seat.block.committed
  image_sized =
      let sized = law.changes_fit.sized b (there s law b names S.choice S.clear) in
      fold_length (committed s b) (map (write_of s) (patches_of s (numbers_of names)))
      (all_fit (length (committed s b)) (λ p. is_among (numbers_of names) p.number) (write_of s) s.heads (λ p h e.
      let head = Contains-from_In s.heads p h in
      let on = (early_in_set s law b names S.choice p head e).in_memory.change in
      let i = law.changes_fit.inside p b head on in
      let w = law.changes_fit.whole p b head on in
      omega (arith, i.2, w, sized)))
      ∙ ap (λ (v : BlockState). length v.committed) block_is

  -- so it may go out
  pub may_go_out : {image : List ℕ} → image ≡ image_of s b (numbers_of names) → MayGoOut seat names image
  may_go_out is = record {
    home = idle;
    view = block_view s b;
    there = loaded_is;
    dirty = was_dirty;
    choice = is_choice s law b names S.choice S.clear;
    folded = is ∙ sym image_is;
    sized = ap length is ∙ image_sized;
  }
