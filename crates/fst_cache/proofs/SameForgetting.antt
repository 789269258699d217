-- Forgetting is one step, and the cache keeps what it keeps: what is forgotten was on disk, and no block asks for that.
use Rattle.std.proofs.Common.{◌≡◌, ℕ, Bool, true, not, List, [], ◌∷◌, map, filter, refl, sym, ap, ◌∙◌, inl, inr}
use Rattle.std.specs.List.{list_any}
use Rattle.std.proofs.lemmas.Bool.{cases_Bool}
use Rattle.fst_types.specs.declared.place.Place.{Place}
use Rattle.fst_types.specs.declared.place.Place.TheVariants as place
use Rattle.fst_types.specs.Patches.{Patch}
use Rattle.fst_types.specs.Tests.{is_at, is_live, is_change_at, has_number}
use Rattle.fst_types.specs.Counts.{is_dirty}
use Rattle.fst_types.specs.Events.{Forget, Forgot}
use Rattle.fst_types.specs.Step.{Step, accepted, forget}
use Rattle.fst_types.proofs.Bounds.{step_keeps_lawful}
use Rattle.fst_types.proofs.Dropping.{filter_in, flight_live}
use Rattle.fst_types.proofs.Finite.{In}
use Rattle.fst_types.proofs.Contents.{content_kept, has_in}
use Rattle.fst_types.proofs.Landing.{change_at}
use Rattle.fst_types.proofs.Writes.{filter_twice}
use Rattle.fst_graph.specs.Known.{Known, Forgets}
use Rattle.fst_cache.specs.declared.cache.Cache.TheInside.{Inside}
use Rattle.fst_cache.specs.declared.contents.Contents.{Contents}
use Rattle.fst_cache.specs.Kept.{IsSameAt, IsKept, block_patch, state_of}
use Rattle.fst_cache.proofs.Kept.{all_moved}
use Rattle.fst_cache.proofs.SameCascade.{lives_on}

map_same : {Y : Type 0} (v w : Patch → Y) (xs : List Patch) → ((p : Patch) → In xs p → v p ≡ w p) → map v xs ≡ map w xs
map_same v w [] same = refl
map_same v w (x ∷ xs) same = rw (same x (inl refl), map_same v w xs (λ p h. same p (inr h))) refl

any_kept : (t kept : Patch → Bool) (xs : List Patch) → list_any t (filter kept xs) ≡ true → list_any t xs ≡ true
any_kept t kept [] e = e
any_kept t kept (x ∷ xs) e =
    elim (cases_Bool (t x)) [
      | inl yes_x ↦ rw yes_x refl
      | inr no_x ↦ rw no_x (any_kept t kept xs (elim (cases_Bool (kept x)) [ inl stays ↦ rw (stays, no_x) at e | inr goes ↦ rw goes at e ]))
    ]

memory_lives : (p : Place) → p ≡ place.Memory → not (is_at p place.Disk) ≡ true
memory_lives place.Memory e = refl
memory_lives place.Flight e = refl
memory_lives place.Disk e = cc

module _ {Slot : Type 0} (i : Inside Slot) (K : IsKept i) {dropped : ℕ} {graph : Known} (contents : Contents)
    (f : Forgets i.graph dropped graph) (left : contents.items ≡ filter (λ e. has_number graph.heads e.0) i.contents.items) where
  abbrev less : Inside Slot
  less = record i { graph = graph; contents = contents }

  abbrev kept_heads : List Patch
  kept_heads = filter is_live i.graph.heads

  abbrev kept_contents : List (ℕ × List ℕ)
  kept_contents = filter (λ e. has_number kept_heads e.0) i.contents.items

  contents_are : contents.items ≡ kept_contents
  contents_are = left ∙ ap (λ (hs : List Patch). filter (λ (e : ℕ × List ℕ). has_number hs e.0) i.contents.items) f.row.kept

  same_block_patch : (p : Patch) → In kept_heads p → block_patch kept_contents p ≡ block_patch i.contents.items p
  same_block_patch p h = rw (content_kept (has_number kept_heads) i.contents.items p.number (has_in kept_heads p h)) refl

  patches_left : (b : ℕ) → map (block_patch contents.items) (filter (is_change_at place.Memory b) graph.heads) ≡ map (block_patch i.contents.items) (filter (is_change_at place.Memory b) i.graph.heads)
  patches_left b =
      rw (contents_are, f.row.kept) (
      map_same (block_patch kept_contents) (block_patch i.contents.items) (filter (is_change_at place.Memory b) kept_heads) (λ p h. same_block_patch p (filter_in (is_change_at place.Memory b) kept_heads p h).0)
      ∙ ap (map (block_patch i.contents.items)) (filter_twice (is_change_at place.Memory b) is_live i.graph.heads (λ p e. memory_lives p.place (change_at place.Memory b p e).1)))

  flying_left : (b : ℕ) → map (λ (p : Patch). p.number) (filter (is_change_at place.Flight b) graph.heads) ≡ map (λ (p : Patch). p.number) (filter (is_change_at place.Flight b) i.graph.heads)
  flying_left b = rw f.row.kept (ap (map (λ (p : Patch). p.number)) (filter_twice (is_change_at place.Flight b) is_live i.graph.heads (λ p e. flight_live p.place (change_at place.Flight b p e).1)))

  same_left : (b : ℕ) → IsSameAt (state_of i) (state_of less) b
  same_left b = record {
    block = refl;
    patches = patches_left b;
    flying = flying_left b;
    dirty = λ e. any_kept (lives_on b) is_live i.graph.heads (ap (λ (hs : List Patch). is_dirty hs b) (sym f.row.kept) ∙ e);
  }

  pub step_forget : Step (state_of i) Forget (Forgot dropped) (state_of less)
  step_forget = accepted tt (forget (record { row = f.row; state = rw (left, f.numbers, f.groups) refl }))

  pub kept_forget : IsKept less
  kept_forget = all_moved i i.made graph contents K (step_keeps_lawful (state_of i) (state_of less) Forget (Forgot dropped) K.lawful step_forget) f.blocks same_left
