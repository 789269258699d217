-- A head that was changed but for its number and its rows.
use Rattle.fst_heads.proofs.Basics.{◌≡◌, ◌≢◌, ◌++◌, ℕ, zero, suc, ◌<◌, List, [], ◌∷◌, length, get_or, set, AllPairs, Contains, refl, sym, ap, subst, ◌∙◌, inl, inr, arith, Contains-push_cases, HasRoomFor, rules}
use Rattle.fst_heads.proofs.{Patches.{In, In-from_Contains, Contains-from_In}, Words.{Head, frame_of, frames_of, HasRoomBelow, IsRising, HasIndex, HasRoomAbove}}
use Rattle.fst_heads.proofs.{Linking.set_cases, Indices.{any_default, index_unique, rising_back, rising_map}}

pub frames_set : (heads : List Head) (s : ℕ) (y d : Head) → s < length heads → frame_of y ≡ frame_of (get_or heads s d) → frames_of (set heads s y) ≡ frames_of heads
frames_set [] s y d lt e = absurd (omega (arith, lt))
frames_set (h ∷ hs) zero y d lt e = ap (λ x. x ∷ frames_of hs) e
frames_set (h ∷ hs) (suc s) y d lt e = ap (λ xs. frame_of h ∷ xs) (frames_set hs s y d (omega (arith, lt)) e)

-- so numbers rise as they did
pub rising_framed : (new old : List Head) → frames_of new ≡ frames_of old → IsRising old → IsRising new
rising_framed new old same rising =
    rising_back frame_of new (λ h. h.number) (λ f. f.0) (λ h. refl) (subst (λ fs. AllPairs (λ x y. x.0 < y.0) fs) (sym same) (rising_map frame_of old (λ h. h.number) (λ f. f.0) (λ h. refl) rising))

-- each of the new heads has the number and the rows of an old one
framed : (new old : List Head) → frames_of new ≡ frames_of old → (h : Head) → In new h → (k : Head) × In old k × (frame_of h ≡ frame_of k)
framed [] old e h i = absurd i
framed (x ∷ xs) [] e h i = grind arith
framed (x ∷ xs) (y ∷ ys) e h i =
    let first : frame_of x ≡ frame_of y = cc in
    let rest : frames_of xs ≡ frames_of ys = cc in
    elim i [ inl same ↦ (y, inl refl, ap frame_of (sym same) ∙ first) | inr there ↦ let r = framed xs ys rest h there in (r.0, inr r.1, r.2) ]

-- so there is room where there was
pub room_above : (new old : List Head) → frames_of new ≡ frames_of old → (row : List ℕ) → HasRoomAbove old row → HasRoomAbove new row
room_above new old e row room h c named =
    let k = framed new old e h (In-from_Contains new h c) in
    subst (λ v. HasRoomFor v 1) (sym (ap (λ f. f.2) k.2)) (room k.0 (Contains-from_In old k.0 k.1) (subst (Contains row) (ap (λ f. f.0) k.2) named))

pub room_below : (new old : List Head) → frames_of new ≡ frames_of old → (n : ℕ) → HasRoomBelow old n → HasRoomBelow new n
room_below new old e n room h c named =
    let k = framed new old e h (In-from_Contains new h c) in
    subst (λ v. HasRoomFor v 1) (sym (ap (λ f. f.1) k.2)) (room k.0 (Contains-from_In old k.0 k.1) (sym (ap (λ f. f.0) k.2) ∙ named))

-- with more room for the direct dependencies of the head at one index
module _ (heads : List Head) (n s : ℕ) (y : Head) (rising : IsRising heads) (index : HasIndex heads n s) where
  pub below_set : HasRoomFor y.dependencies 1 → HasRoomBelow (set heads s y) n
  below_set room h c named = elim (set_cases heads s y h index.0 c) [
    | inl same ↦ subst (λ (k : Head). HasRoomFor k.dependencies 1) same room
    | inr other ↦ absurd (other.2 (index_unique heads n other.0 s rising (other.1, λ d. ap (λ k. k.number) (any_default heads other.0 d h other.1 ∙ other.3) ∙ named) index))
  ]

-- the direct dependencies of all heads have the room that they had
pub still_below : (heads : List Head) (s : ℕ) (y d : Head) → s < length heads → y.number ≡ (get_or heads s d).number → y.dependencies ≡ (get_or heads s d).dependencies → (n : ℕ) → HasRoomBelow heads n → HasRoomBelow (set heads s y) n
still_below heads s y d lt number dependencies n room h c named = search (rules, set_cases, any_default)

-- with one head more
pub pushed_below : (heads : List Head) (y : Head) (n : ℕ) → y.number ≢ n → HasRoomBelow heads n → HasRoomBelow (heads ++ y ∷ []) n
pushed_below heads y n other room h c named = elim (Contains-push_cases heads y h c) [ inl o ↦ room h o named | inr same ↦ absurd (other (ap (λ (x : Head). x.number) same ∙ named)) ]

pub pushed_above : (heads : List Head) (y : Head) (n : ℕ) → ((h : Head) → Contains heads h → h.number ≢ n) → HasRoomFor y.dependants 1 → HasRoomAbove (heads ++ y ∷ []) (n ∷ [])
pushed_above heads y n none room h c named = elim (Contains-push_cases heads y h c) [
  | inl o ↦ absurd (none h o (elim (In-from_Contains (n ∷ []) h.number named) [ inl same ↦ sym same | inr i ↦ absurd i ]))
  | inr same ↦ subst (λ (x : Head). HasRoomFor x.dependants 1) same room
]
