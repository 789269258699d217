-- What a new change makes of the changes of each block.
use Rattle.std.proofs.Common.{◌≡◌, ◌≢◌, ◌+◌, ℕ, Bool, true, false, List, [], ◌∷◌, ◌++◌, map, filter, Contains, length, Some, ◌≤◌, refl, sym, ap, ◌∙◌, inl, inr, arith}
use Rattle.std.specs.Prelude.{◌==◌, ◌&&◌}
use Rattle.std.specs.List.{list_any}
use Rattle.std.proofs.lemmas.Bool.{cases_Bool}
use Rattle.fst_types.specs.declared.place.Place.TheVariants as place
use Rattle.fst_types.specs.declared.grade.Grade.{Grade}
use Rattle.fst_types.specs.Patches.{Patch, Change}
use Rattle.fst_types.specs.Tests.{is_live, is_on, is_change_at}
use Rattle.fst_types.specs.Making.{fresh}
use Rattle.fst_types.specs.State.{State}
use Rattle.fst_types.specs.Facts.{IsLawful}
use Rattle.fst_types.proofs.Finite.{In, Contains-from_In}
use Rattle.fst_types.proofs.Writes.{filter_pushed}
use Rattle.fst_types.proofs.Contents.{content_more}
use Rattle.fst_types.proofs.Fits.{content_end}
use Rattle.fst_block.specs.BlockView.{BlockPatch, BlockView}
use Rattle.fst_seat.specs.Seats.{SeatView}
use Rattle.fst_cache.specs.Kept.{IsKeptSeat, IsSameAt, block_patch, block_patches, block_view, in_flight, span_of}

-- a patch that passes comes at the end
filter_last : (t : Patch → Bool) (xs : List Patch) (p : Patch) → t p ≡ true → filter t (xs ++ p ∷ []) ≡ filter t xs ++ p ∷ []
filter_last t [] p e = rw e refl
filter_last t (x ∷ xs) p e =
    let rest = filter_last t xs p e in
    elim (cases_Bool (t x)) [ inl yes_x ↦ rw (yes_x, rest) refl | inr no_x ↦ rw no_x rest ]

map_last : {X Y : Type 0} (f : X → Y) (xs : List X) (x : X) → map f (xs ++ x ∷ []) ≡ map f xs ++ f x ∷ []
map_last f [] x = refl
map_last f (y ∷ ys) x = ap (λ (r : List _). f y ∷ r) (map_last f ys x)

map_agree : {Y : Type 0} (t : Patch → Bool) (f g : Patch → Y) (xs : List Patch) → ((x : Patch) → In xs x → f x ≡ g x) → map f (filter t xs) ≡ map g (filter t xs)
map_agree t f g [] same = refl
map_agree t f g (x ∷ xs) same =
    let rest = map_agree t f g xs (λ y h. same y (inr h)) in
    elim (cases_Bool (t x)) [ inl yes_x ↦ rw (yes_x, same x (inl refl), rest) refl | inr no_x ↦ rw no_x rest ]

any_last : (t : Patch → Bool) (xs : List Patch) (p : Patch) → t p ≡ false → list_any t (xs ++ p ∷ []) ≡ true → list_any t xs ≡ true
any_last t [] p e h = grind (arith, e, h)
any_last t (x ∷ xs) p e h =
    elim (cases_Bool (t x)) [
      | inl yes_x ↦ rw yes_x refl
      | inr no_x ↦ rw no_x (any_last t xs p e (rw no_x at h))
    ]

differ : (b j : ℕ) → j ≢ b → (b == j) ≡ false
differ b j h = grind (arith, h)

same_block : (b : ℕ) → (b == b) ≡ true
same_block b = grind arith

-- patches and bytes stand under numbers that were given
pub record IsNumbered (s : State) : Type 0 where
  pub heads : (p : Patch) → Contains s.heads p → p.number ≤ s.numbers
  pub contents : (e : ℕ × List ℕ) → Contains s.contents e → e.0 ≤ s.numbers

pub numbered : (s : State) → IsLawful s → IsNumbered s
numbered s law = record { heads = λ p h. (law.heads.one_place_each.numbered p h).1; contents = law.changes_fit.given }

-- the changed block has one patch more, and every other is the same
module _ (s t : State) (given : IsNumbered s) (b at number : ℕ) (bytes dependencies : List ℕ) (grade : Grade) (next : number ≡ s.numbers + 1)
    (heads : t.heads ≡ s.heads ++ fresh number (Change b at (length bytes) grade) dependencies ∷ []) (contents : t.contents ≡ s.contents ++ (number, bytes) ∷ []) (blocks : t.blocks ≡ s.blocks) where
  abbrev p : Patch
  p = fresh number (Change b at (length bytes) grade) dependencies

  abbrev pub put : BlockPatch
  put = record { number = number; span = span_of at (length bytes); grade = grade; bytes = bytes }

  older : (x : Patch) → In s.heads x → block_patch (s.contents ++ (number, bytes) ∷ []) x ≡ block_patch s.contents x
  older x h =
      let k = given.heads x (Contains-from_In s.heads x h) in
      let other : number ≢ x.number = λ e. omega (arith, k, e, next) in
      ap (λ (bs : List ℕ). record (block_patch s.contents x) { bytes = bs }) (content_more s.contents number x.number bytes other)

  newest : block_patch (s.contents ++ (number, bytes) ∷ []) p ≡ put
  newest =
      ap (λ (bs : List ℕ). record put { bytes = bs })
      (content_end s.contents number bytes (λ e h same. let k = given.contents e (Contains-from_In s.contents e h) in omega (arith, k, same, next)))

  pub patches_here : block_patches t b ≡ block_patches s b ++ put ∷ []
  patches_here =
      rw (
        heads,
        contents,
        filter_last (is_change_at place.Memory b) s.heads p (same_block b),
        map_last (block_patch (s.contents ++ (number, bytes) ∷ [])) (filter (is_change_at place.Memory b) s.heads) p,
        newest,
        map_agree (is_change_at place.Memory b) (block_patch (s.contents ++ (number, bytes) ∷ [])) (block_patch s.contents) s.heads older,
      ) refl

  pub flying_each : (j : ℕ) → in_flight t j ≡ in_flight s j
  flying_each j = rw (heads, filter_pushed (is_change_at place.Flight j) s.heads p refl) refl

  pub same_else : (j : ℕ) → j ≢ b → IsSameAt s t j
  same_else j other = record {
    block = rw blocks refl;
    patches =
        rw (heads, contents, filter_pushed (is_change_at place.Memory j) s.heads p (differ b j other))
        (map_agree (is_change_at place.Memory j) (block_patch (s.contents ++ (number, bytes) ∷ [])) (block_patch s.contents) s.heads older);
    flying = flying_each j;
    dirty = λ e. any_last (λ q. is_live q && is_on j q.kind) s.heads p (differ b j other) (rw heads at e);
  }

  -- the seat of the changed block, with the patch
  pub seat_put : (seat : SeatView) → IsKeptSeat s b seat → (view : BlockView) → seat.loaded ≡ Some view → IsKeptSeat t b (record seat { loaded = Some (record view { patches = view.patches ++ put ∷ [] }) })
  seat_put seat k view there = record {
    loaded = λ l e. some_same (sym e) ∙ view_is;
    dirty = λ d. refl;
    home = k.home;
    patches = λ f e. k.patches f e ∙ sym (flying_each b);
  }
    where
      some_same : {l m : BlockView} → Some l ≡ Some m → l ≡ m
      some_same e = cc

      view_is : record view { patches = view.patches ++ put ∷ [] } ≡ block_view t b
      view_is = ap (λ (v : BlockView). record v { patches = v.patches ++ put ∷ [] }) (k.loaded view there) ∙ rw (patches_here, blocks) refl
