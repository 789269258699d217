-- What a step that moves patches leaves of a block's changes. Followers are no changes, so a cascade leaves them all.
use Rattle.std.proofs.Common.{◌≡◌, ℕ, Bool, true, false, List, [], ◌∷◌, map, filter, refl, sym, ap, ◌∙◌, inl, inr}
use Rattle.std.specs.Prelude.{◌&&◌, ◌||◌}
use Rattle.std.proofs.lemmas.Bool.{cases_Bool}
use Rattle.fst_types.specs.declared.place.Place.{Place}
use Rattle.fst_types.specs.declared.place.Place.TheVariants as place
use Rattle.fst_types.specs.Patches.{Kind, Change, Empty, OpenGate, SealedGate, Patch}
use Rattle.fst_types.specs.Tests.{is_at, is_on, is_live, is_change_at}
use Rattle.fst_types.specs.Counts.{is_dirty}
use Rattle.fst_types.specs.Cascade.{placed_as, unsettled}
use Rattle.fst_types.specs.State.{State, block_of}
use Rattle.fst_types.proofs.Finite.{In}
use Rattle.fst_cache.specs.Kept.{IsSameAt, block_patch}
use Rattle.fst_types.proofs.Cascades.{unsettled_kind}

never : (x : Bool) → (x && false) ≡ false
never true = refl
never false = refl

right_true : (x y : Bool) → (x && y) ≡ true → y ≡ true
right_true true y e = e
right_true false y e = cc

-- a cascade asks nothing of a change, and what it asks of others is no change
change_kept : (b : ℕ) (k : Kind) (p : Patch) → is_on b k ≡ true → placed_as k p ≡ p
change_kept b (Change block at len grade) p e = refl
change_kept b Empty p e = cc
change_kept b OpenGate p e = cc
change_kept b SealedGate p e = cc

test_kept : (mark : Place → Bool) (b : ℕ) (k : Kind) (p : Patch) → (mark (placed_as k p).place && is_on b k) ≡ (mark p.place && is_on b k)
test_kept mark b (Change block at len grade) p = refl
test_kept mark b Empty p = never (mark place.Memory) ∙ sym (never (mark p.place))
test_kept mark b OpenGate p = refl
test_kept mark b SealedGate p = never (mark place.Memory) ∙ sym (never (mark p.place))

same_mark : (mark : Place → Bool) (b : ℕ) (p : Patch) → (mark (unsettled p).place && is_on b (unsettled p).kind) ≡ (mark p.place && is_on b p.kind)
same_mark mark b p = ap (λ (k : Kind). mark (unsettled p).place && is_on b k) (unsettled_kind p.kind p) ∙ test_kept mark b p.kind p

changes_unsettled : (at : Place) (b : ℕ) (xs : List Patch) → filter (is_change_at at b) (map unsettled xs) ≡ filter (is_change_at at b) xs
changes_unsettled at b [] = refl
changes_unsettled at b (x ∷ xs) =
    let rest = changes_unsettled at b xs in
    let same = same_mark (λ (q : Place). is_at q at) b x in
    elim (cases_Bool (is_change_at at b x)) [
      | inl yes_x ↦ rw (same, yes_x, change_kept b x.kind x (right_true (is_at x.place at) (is_on b x.kind) yes_x), rest) refl
      | inr no_x ↦ rw (same, no_x) rest
    ]

dirty_unsettled : (b : ℕ) (xs : List Patch) → is_dirty (map unsettled xs) b ≡ is_dirty xs b
dirty_unsettled b [] = refl
dirty_unsettled b (x ∷ xs) = rw (same_mark (λ (q : Place). is_live (record x { place = q })) b x, dirty_unsettled b xs) refl

-- the same patches but for where followers are
abbrev pub IsUnmoved : List Patch → List Patch → Type 0
IsUnmoved old new = map unsettled new ≡ map unsettled old

-- the changes of a block are then what they were
pub changes_unmoved : (old new : List Patch) → IsUnmoved old new → (at : Place) (b : ℕ) → filter (is_change_at at b) new ≡ filter (is_change_at at b) old
changes_unmoved old new same at b = sym (changes_unsettled at b new) ∙ (ap (filter (is_change_at at b)) same ∙ changes_unsettled at b old)

pub dirty_unmoved : (old new : List Patch) → IsUnmoved old new → (b : ℕ) → is_dirty new b ≡ is_dirty old b
dirty_unmoved old new same b = sym (dirty_unsettled b new) ∙ (ap (λ (xs : List Patch). is_dirty xs b) same ∙ dirty_unsettled b old)

-- what a test of mapped patches leaves, where the test and the value are known of each before
pub filter_mapped : {Y : Type 0} (f : Patch → Patch) (t u : Patch → Bool) (v w : Patch → Y) (xs : List Patch)
    → ((p : Patch) → In xs p → t (f p) ≡ u p) → ((p : Patch) → In xs p → v (f p) ≡ w p) → map v (filter t (map f xs)) ≡ map w (filter u xs)
filter_mapped f t u v w [] a b = refl
filter_mapped f t u v w (x ∷ xs) a b =
    let rest = filter_mapped f t u v w xs (λ p h. a p (inr h)) (λ p h. b p (inr h)) in
    elim (cases_Bool (u x)) [
      | inl yes_x ↦ rw (a x (inl refl), yes_x, b x (inl refl), rest) refl
      | inr no_x ↦ rw (a x (inl refl), no_x) rest
    ]

-- a live change of block b
abbrev pub lives_on : ℕ → Patch → Bool
lives_on b p = is_live p && is_on b p.kind

or_first : (x y : Bool) → x ≡ true → (x || y) ≡ true
or_first x y e = rw e refl

or_last : (x y : Bool) → y ≡ true → (x || y) ≡ true
or_last true y e = refl
or_last false y e = e

-- a block is dirty after a change of the patches only where it was
pub dirty_mapped : (f : Patch → Patch) (b : ℕ) (xs : List Patch) → ((p : Patch) → In xs p → lives_on b (f p) ≡ true → lives_on b p ≡ true) → is_dirty (map f xs) b ≡ true → is_dirty xs b ≡ true
dirty_mapped f b [] a e = e
dirty_mapped f b (x ∷ xs) a e =
    let rest = dirty_mapped f b xs (λ p h. a p (inr h)) in
    elim (cases_Bool (lives_on b (f x))) [
      | inl yes_x ↦ or_first (lives_on b x) (is_dirty xs b) (a x (inl refl) yes_x)
      | inr no_x ↦ or_last (lives_on b x) (is_dirty xs b) (rest (ap (λ (k : Bool). k || is_dirty (map f xs) b) (sym no_x) ∙ e))
    ]

-- what a block asks of a patch is the same of both
pub record IsStill (b : ℕ) (o p : Patch) : Type 0 where
  pub number : p.number ≡ o.number
  pub memory : is_change_at place.Memory b p ≡ is_change_at place.Memory b o
  pub flight : is_change_at place.Flight b p ≡ is_change_at place.Flight b o
  pub live : lives_on b p ≡ true → lives_on b o ≡ true
  pub patch : (contents : List (ℕ × List ℕ)) → block_patch contents p ≡ block_patch contents o

pub still_self : (b : ℕ) (p : Patch) → IsStill b p p
still_self b p = record { number = refl; memory = refl; flight = refl; live = λ e. e; patch = λ contents. refl }

-- a block is the same where what it asks of each patch is, whatever followers do (of a cascade: its field `same`)
pub same_moved : (s t : State) (b : ℕ) (f : Patch → Patch) → block_of t b ≡ block_of s b → t.contents ≡ s.contents → IsUnmoved (map f s.heads) t.heads
    → ((p : Patch) → In s.heads p → IsStill b p (f p)) → IsSameAt s t b
same_moved s t b f block contents same still = record {
  block = block;
  patches = rw (contents, changes_unmoved (map f s.heads) t.heads same place.Memory b)
      (filter_mapped f (is_change_at place.Memory b) (is_change_at place.Memory b) (block_patch s.contents) (block_patch s.contents) s.heads (λ p h. (still p h).memory) (λ p h. (still p h).patch s.contents));
  flying = rw (changes_unmoved (map f s.heads) t.heads same place.Flight b)
      (filter_mapped f (is_change_at place.Flight b) (is_change_at place.Flight b) (λ (p : Patch). p.number) (λ (p : Patch). p.number) s.heads (λ p h. (still p h).flight) (λ p h. (still p h).number));
  dirty = λ e. dirty_mapped f b s.heads (λ p h. (still p h).live) (sym (dirty_unmoved (map f s.heads) t.heads same b) ∙ e);
}
