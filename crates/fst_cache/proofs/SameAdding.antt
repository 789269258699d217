-- What a new patch that is no change leaves of each block.
use Rattle.std.proofs.Common.{◌≡◌, ℕ, Bool, true, false, [], ◌∷◌, ◌++◌, filter, refl, sym, ◌∙◌}
use Rattle.std.specs.Prelude.{◌&&◌, ◌||◌}
use Rattle.std.proofs.lemmas.List.Folds.{list_any-append}
use Rattle.fst_types.specs.declared.place.Place.{Place}
use Rattle.fst_types.specs.declared.place.Place.TheVariants as place
use Rattle.fst_types.specs.Patches.{Patch}
use Rattle.fst_types.specs.Tests.{is_at, is_on, is_live, is_change_at}
use Rattle.fst_types.specs.Counts.{is_dirty}
use Rattle.fst_types.specs.State.{State, block_of}
use Rattle.fst_types.proofs.Writes.{filter_pushed}
use Rattle.fst_cache.specs.Kept.{IsSameAt}
use Rattle.fst_cache.proofs.SameCascade.{lives_on, IsUnmoved, changes_unmoved, dirty_unmoved}

no_change : (x y : Bool) → y ≡ false → (x && y) ≡ false
no_change true y e = e
no_change false y e = refl

or_none : (x y : Bool) → y ≡ false → (x || (y || false)) ≡ x
or_none true y e = refl
or_none false y e = rw e refl

module _ (s t : State) (b : ℕ) (p : Patch) (other : is_on b p.kind ≡ false) (unmoved : IsUnmoved (s.heads ++ p ∷ []) t.heads) where
  changes_added : (at : Place) → filter (is_change_at at b) t.heads ≡ filter (is_change_at at b) s.heads
  changes_added at = changes_unmoved (s.heads ++ p ∷ []) t.heads unmoved at b ∙ filter_pushed (is_change_at at b) s.heads p (no_change (is_at p.place at) (is_on b p.kind) other)

  dirty_added : is_dirty t.heads b ≡ is_dirty s.heads b
  dirty_added =
      dirty_unmoved (s.heads ++ p ∷ []) t.heads unmoved b
      ∙ (list_any-append (lives_on b) s.heads (p ∷ []) ∙ or_none (is_dirty s.heads b) (lives_on b p) (no_change (is_live p) (is_on b p.kind) other))

  -- block b is the same with one more patch that is no change of it
  pub same_added : block_of t b ≡ block_of s b → t.contents ≡ s.contents → IsSameAt s t b
  same_added block contents = record {
    block = block;
    patches = rw (contents, changes_added place.Memory) refl;
    flying = rw (changes_added place.Flight) refl;
    dirty = λ e. sym dirty_added ∙ e;
  }
