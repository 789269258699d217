-- Indices, numbers and marks.
use Rattle.fst_heads.proofs.Basics.{◌==◌, cond, find, All, AllPairs, ◌≡◌, ◌≢◌, ℕ, zero, suc, ◌<◌, ◌≤◌, ◌-◌, true, List, [], ◌∷◌, length, get_or, Contains, Some, None, Result, Ok, Err, refl, sym, ap, subst, ◌∙◌, inl, inr, arith, IsSearchInRange, IsBinarySearchResult, IsNonDecreasingBy, map, nat_cmp}
use Rattle.fst_heads.proofs.Basics.{common_steps, ordering_index, cases_order, cases_lt, eq-eqb, ne_eqb, nat_tests, length-map, get_or-map}
use Rattle.std.proofs.lemmas.Cmp.{ranked}
use Rattle.fst_heads.proofs.Patches.{Patch, Rising, DirectlyOn, IsLiveNumber, Place, In, In-from_Contains, Contains-from_In, In-map}
use Rattle.fst_heads.proofs.Patches.place
use Rattle.fst_heads.proofs.Words.{is_live_place, Head, IsRising, patch_of, patches_of, HasIndex, HasNone}
pub use Rattle.std.proofs.lemmas.List.{get_or_default as any_default}

-- an element to stand for the default
pub some_element : {X : Type 0} (xs : List X) (k : ℕ) → k < length xs → X
some_element [] k h = absurd (omega (arith, h))
some_element (y ∷ ys) k h = y

-- a list rises by a key as its image does
module _ {X Y : Type 0} (f : X → Y) (xs : List X) (low : X → ℕ) (high : Y → ℕ) (same : (x : X) → high (f x) ≡ low x) where
  pub rising_map : AllPairs (λ a b. low a < low b) xs → AllPairs (λ a b. high a < high b) (map f xs)
  rising_map rising i j e lt inside =
      let long = length-map xs f in
      let d = some_element xs j (omega (arith, inside, long)) in
      let first = ap high (get_or-map f xs i d e (omega (arith, lt, inside, long))) ∙ same (get_or xs i d) in
      let other = ap high (get_or-map f xs j d e (omega (arith, inside, long))) ∙ same (get_or xs j d) in
      omega (arith, first, other, rising i j d lt (omega (arith, inside, long)))

  pub rising_back : AllPairs (λ a b. high a < high b) (map f xs) → AllPairs (λ a b. low a < low b) xs
  rising_back rising i j d lt inside =
      let first = ap high (get_or-map f xs i d (f d) (omega (arith, lt, inside))) ∙ same (get_or xs i d) in
      omega (arith, first, ap high (get_or-map f xs j d (f d) inside) ∙ same (get_or xs j d), rising i j (f d) lt (omega (arith, inside, length-map xs f)))

-- a search among keys that rise
module _ {X : Type 0} (key : X → ℕ) (xs : List X) (rising : AllPairs (λ x y. key x < key y) xs) (n : ℕ) where
  compared : (e : X) → IsNonDecreasingBy (λ h. ordering_index (nat_cmp (key h) n)) xs
  compared e = grind (arith, nat_tests)

  pub searched_by : (r : Result ℕ ℕ) → IsSearchInRange r (length xs) → IsBinarySearchResult (λ h. nat_cmp (key h) n) xs r
      → record { found : (index : ℕ) → r ≡ Ok index → (index < length xs) × ((d : X) → key (get_or xs index d) ≡ n); none : (index : ℕ) → r ≡ Err index → All (λ h. key h ≢ n) xs }
  searched_by (Ok at) in_range equal = record { found = λ index e. let same : at ≡ index = cc in subst (λ k. (k < length xs) × ((d : X) → key (get_or xs k d) ≡ n)) same (in_range, λ d. ranked _ n _ (sym (equal d))); none = λ index e. cc }
  searched_by (Err at) in_range parted = record {
    found = λ index e. cc;
    none = λ index e k d lt same. elim (cases_lt k at) [
      | inl before ↦ let r = ranked _ n _ (sym ((parted (compared d)).0 k d (omega arith) before)) in omega (arith, r, same)
      | inr after ↦ let r = ranked _ n _ (sym ((parted (compared d)).1 k d after lt)) in omega (arith, r, same)
    ];
  }

-- a number that lies between the keys of two that follow one another is that of none
module _ {X : Type 0} (key : X → ℕ) (xs : List X) (rising : AllPairs (λ x y. key x < key y) xs) (n : ℕ) where
  there : (k : ℕ) (d e : X) → k < length xs → e ≡ get_or xs k e → key (get_or xs k d) ≡ key e
  there k d e inside is = ap key (any_default xs k d e inside ∙ sym is)

  pub none_between : (k : ℕ) → k ≤ length xs → (0 < k → (e : X) × (e ≡ get_or xs (k - 1) e) × (key e < n)) → (k < length xs → (e : X) × (e ≡ get_or xs k e) × (n < key e)) → All (λ x. key x ≢ n) xs
  none_between k within before after j d lt same = elim (cases_lt j k) [
    | inl low ↦
        let b = before (omega (arith, low)) in
        let last = there (k - 1) d b.0 (omega (arith, low, within)) b.1 in
        elim (cases_lt j (k - 1)) [
          | inl lower ↦ let less = rising j (k - 1) d lower (omega (arith, low, within)) in omega (arith, less, last, b.2, same)
          | inr at ↦ let e : j ≡ k - 1 = omega (arith, at, low) in let here = subst (λ m. key (get_or xs m d) ≡ n) e same in omega (arith, here, last, b.2)
        ]
    | inr high ↦
        let a = after (omega (arith, high, lt)) in
        let next = there k d a.0 (omega (arith, high, lt)) a.1 in
        elim (cases_lt k j) [
          | inl higher ↦ let less = rising k j d higher lt in omega (arith, less, next, a.2, same)
          | inr at ↦ let e : j ≡ k = omega (arith, at, high) in let here = subst (λ m. key (get_or xs m d) ≡ n) e same in omega (arith, here, next, a.2)
        ]
  ]

pub index_unique : (heads : List Head) (q s t : ℕ) → IsRising heads → HasIndex heads q s → HasIndex heads q t → s ≡ t
index_unique [] q s t rising a b = absurd (omega (arith, a.0))
index_unique (h ∷ hs) q s t rising a b =
    elim (cases_order s t) [
      | inl e ↦ e
      | inr o ↦ elim o [
        | inl lt ↦ let r = rising s t h lt b.0 in absurd (omega (arith, r, a.1 h, b.1 h))
        | inr lt ↦ let r = rising t s h lt a.0 in absurd (omega (arith, r, a.1 h, b.1 h))
      ]
    ]

pub none_index : (heads : List Head) (q s : ℕ) → HasNone heads q → HasIndex heads q s → ⊥
none_index heads q s none h = let d = some_element heads s h.0 in none s d h.0 (h.1 d)

pub index_here : (heads : List Head) (s : ℕ) (d : Head) → s < length heads → HasIndex heads (get_or heads s d).number s
index_here heads s d lt = (lt, λ e. ap (λ y. y.number) (any_default heads s e d lt))

-- the index of a patch
pub index_in : (heads : List Head) (x : Patch) → Contains (patches_of heads) x → (s : ℕ) × (s < length heads) × ((d : Head) → patch_of (get_or heads s d) ≡ x)
index_in heads x c = grind (arith, common_steps)

pub patch_index : (heads : List Head) (x : Patch) (s : ℕ) → s < length heads → ((d : Head) → patch_of (get_or heads s d) ≡ x) → HasIndex heads x.number s
patch_index heads x s lt same = (lt, λ d. ap (λ p. p.number) (same d))

pub index_head : (heads : List Head) (s : ℕ) (d : Head) → s < length heads → In heads (get_or heads s d)
index_head [] s d h = absurd (omega (arith, h))
index_head (y ∷ ys) zero d h = inl refl
index_head (y ∷ ys) (suc s) d h = inr (index_head ys s d (omega (arith, h)))

-- the patch at an index
pub patch_at : (heads : List Head) (s : ℕ) (d : Head) → s < length heads → Contains (patches_of heads) (patch_of (get_or heads s d))
patch_at heads s d lt = Contains-from_In (patches_of heads) _ (In-map patch_of heads (get_or heads s d) _ (index_head heads s d lt) refl)

-- the patch with the number of an index stands there
pub patch_is : (heads : List Head) (x : Patch) (s : ℕ) (d : Head) → IsRising heads → Contains (patches_of heads) x → HasIndex heads x.number s → patch_of (get_or heads s d) ≡ x
patch_is heads x s d rising c index =
    let t = index_in heads x c in
    subst (λ k. patch_of (get_or heads k d) ≡ x) (index_unique heads x.number t.0 s rising (patch_index heads x t.0 t.1 t.2) index) (t.2 d)

-- what the head at an index names is a direct dependency
pub direct_at : (heads : List Head) (q r s : ℕ) (d : Head) → HasIndex heads q s → Contains (get_or heads s d).dependencies.items r → DirectlyOn (patches_of heads) q r
direct_at heads q r s d index named = record { patch = patch_of (get_or heads s d); head = patch_at heads s d index.0; numbered = index.1 d; named = named }

-- and the head names each direct dependency
pub named_at : (heads : List Head) (q r s : ℕ) (d : Head) → IsRising heads → HasIndex heads q s → DirectlyOn (patches_of heads) q r → Contains (get_or heads s d).dependencies.items r
named_at heads q r s d rising index e =
    subst (λ p. Contains p.dependencies r) (sym (patch_is heads e.patch s d rising e.head (subst (λ n. HasIndex heads n s) (sym e.numbered) index))) e.named

-- a number of a direct dependency belongs to a head
pub direct_index : (heads : List Head) (q r : ℕ) → DirectlyOn (patches_of heads) q r → (s : ℕ) × HasIndex heads q s
direct_index heads q r e = let t = index_in heads e.patch e.head in (t.0, subst (λ n. HasIndex heads n t.0) e.numbered (patch_index heads e.patch t.0 t.1 t.2))

-- heads rise as their patches do
pub rising_heads : (heads : List Head) → Rising (patches_of heads) → IsRising heads
rising_heads heads rising = rising_back patch_of heads (λ h. h.number) (λ p. p.number) (λ h. refl) rising

pub live_place : (p : Place) → is_live_place p ≡ true → p ≡ place.Disk → ⊥
live_place place.Memory e d = cc
live_place p e d = cc

pub place_live : (p : Place) → (p ≡ place.Disk → ⊥) → is_live_place p ≡ true
place_live place.Disk n = absurd (n refl)
place_live p n = refl

-- a number is live as the head at its index is
pub live_at : (heads : List Head) (n s : ℕ) (d : Head) → IsRising heads → HasIndex heads n s → record { 0 : is_live_place (get_or heads s d).place ≡ true → IsLiveNumber (patches_of heads) n; 1 : IsLiveNumber (patches_of heads) n → is_live_place (get_or heads s d).place ≡ true }
live_at heads n s d rising index = record {
  0 = λ e. record { patch = patch_of (get_or heads s d); head = patch_at heads s d index.0; numbered = index.1 d; live = live_place (get_or heads s d).place e };
  1 = λ l.
      let same = patch_is heads l.patch s d rising l.head (subst (λ m. HasIndex heads m s) (sym l.numbered) index) in
      place_live (get_or heads s d).place (λ e. l.live (sym (ap (λ p. p.place) same) ∙ e));
}

pub not_live_none : (heads : List Head) (n : ℕ) → HasNone heads n → IsLiveNumber (patches_of heads) n → ⊥
not_live_none heads n none l =
    let t = index_in heads l.patch l.head in none_index heads n t.0 none (subst (λ m. HasIndex heads m t.0) l.numbered (patch_index heads l.patch t.0 t.1 t.2))

-- the one patch with a number is found
pub find_patch : (heads : List Patch) (p : Patch) → Rising heads → Contains heads p → find (λ x. x.number == p.number) heads ≡ Some p
find_patch heads p rising c = go heads (λ i j d lt h. rising i j d lt h) (In-from_Contains heads p c)
  where
    go : (xs : List Patch) → AllPairs (λ x y. x.number < y.number) xs → In xs p → find (λ x. x.number == p.number) xs ≡ Some p
    go [] r h = absurd h
    go (y ∷ ys) r (inl e) = subst (λ z. cond (z.number == p.number) (Some z) (find (λ x. x.number == p.number) ys) ≡ Some p) (sym e) (rw (eq-eqb p.number p.number refl) refl)
    go (y ∷ ys) r (inr h) =
        let k = Contains-from_In ys p h in
        let lt = r 0 (suc k.0) p (omega arith) (omega (arith, k.1)) in
        let below : (k : Contains ys p) → y.number < (get_or ys k.0 p).number → y.number < p.number = λ k lt. subst {A = Patch} (λ z. y.number < z.number) k.2 lt in
        let differs : y.number ≢ p.number = λ e. omega (arith, e, below k lt) in
        rw (ne_eqb y.number p.number differs) (go ys (λ i j d l b. r (suc i) (suc j) d (omega (arith, l)) (omega (arith, b))) h)

pub find_none : (heads : List Patch) (n : ℕ) → ((p : Patch) → Contains heads p → p.number ≡ n → ⊥) → find (λ x. x.number == n) heads ≡ None
find_none [] n none = refl
find_none (y ∷ ys) n none =
    rw (ne_eqb y.number n (none y (0, omega arith, refl))) (find_none ys n (λ p c e. none p (Contains-from_In (y ∷ ys) p (inr (In-from_Contains ys p c))) e))
