-- The runs of a cover: which number they tell over a byte.
use Rattle.fst_heads.proofs.Basics.{◌≡◌, ◌⊎◌, ◌<◌, ◌≤◌, ◌+◌, ◌-◌, ◌++◌, ◌∷◌, ◌∙◌, [], ℕ, zero, suc, List, All, true, false, cond, map, get_or, take, drop, length, Contains, refl, sym, ap, subst, inl, inr, arith, nat_lt, nat_tests, cond_both, cases_lt, take-append-drop, AllPairs-cons, Contains-append_right, Result, Ok, Err, IsSearchInRange, IsBinarySearchResult, IsNonDecreasingBy, ordering_index, nat_cmp}
use Rattle.std.proofs.Common.{get_or-take, get_or-drop, length-take-le, length-drop}
use Rattle.std.proofs.lemmas.List.Elements.{All-append, All-cons, All-head, All-tail}
use Rattle.std.specs.Prelude.{min}
use Rattle.std.proofs.lemmas.Cmp.{ranked}
use Rattle.fst_heads.proofs.Indices.{some_element}
use Rattle.fst_heads.proofs.Words.{Run, AreRising, AreParted}
use Rattle.fst_heads.specs.Covers.{last_in, newest_in}

abbrev pub numbers_in : List Run → List ℕ
numbers_in = map (λ r. r.number)

lt_true : (a b : ℕ) → a < b → nat_lt a b ≡ true
lt_true a b lt = grind (arith, nat_tests)

lt_false : (a b : ℕ) → b ≤ a → nat_lt a b ≡ false
lt_false a b le = grind (arith, nat_tests)

-- runs that begin at the byte or before it are passed
pub newest_past : (xs ys : List Run) (so x : ℕ) → All (λ r. r.from ≤ x) xs → newest_in so (xs ++ ys) x ≡ newest_in (last_in so xs) ys x
unfolding newest_in last_in
newest_past [] ys so x h = refl
newest_past (r ∷ rs) ys so x h =
    ap (λ b. cond b so (newest_in r.number (rs ++ ys) x)) (lt_false x r.from (All-head (λ r. r.from ≤ x) r rs h))
    ∙ newest_past rs ys r.number x (All-tail (λ r. r.from ≤ x) r rs h)

-- and those that begin after it tell nothing of it
pub newest_stops : (ys : List Run) (so x : ℕ) → All (λ r. x < r.from) ys → newest_in so ys x ≡ so
unfolding newest_in last_in
newest_stops [] so x h = refl
newest_stops (r ∷ rs) so x h = ap (λ b. cond b so (newest_in r.number rs x)) (lt_true x r.from (All-head (λ r. x < r.from) r rs h))

pub newest_before : (xs ys : List Run) (so x : ℕ) → All (λ r. x < r.from) ys → newest_in so (xs ++ ys) x ≡ newest_in so xs x
unfolding newest_in last_in
newest_before [] ys so x h = newest_stops ys so x h
newest_before (r ∷ rs) ys so x h = ap (λ k. cond (nat_lt x r.from) so k) (newest_before rs ys r.number x h)

in_more : (n : ℕ) (ns : List ℕ) (m : ℕ) → Contains ns m → Contains (n ∷ ns) m
in_more n ns m c = Contains-append_right (n ∷ []) ns m c

-- the number is that of one of the runs, or the one before them
pub newest_of : (ys : List Run) (so x : ℕ) → (newest_in so ys x ≡ so) ⊎ Contains (map (λ r. r.number) ys) (newest_in so ys x)
unfolding newest_in last_in
newest_of [] so x = inl refl
newest_of (r ∷ rs) so x =
    cond_both (nat_lt x r.from) so (newest_in r.number rs x) (λ n. (n ≡ so) ⊎ Contains (map (λ r. r.number) (r ∷ rs)) n)
    (λ before. inl refl)
    (λ after. elim (newest_of rs r.number x) [
      | inl e ↦ inr (0, omega arith, sym e)
      | inr c ↦ inr (in_more r.number (map (λ r. r.number) rs) _ c)
    ])

-- and where the first of them begins at the byte or before it, of one of them
pub newest_among : (ys : List Run) (so x : ℕ) (d : Run) → 1 ≤ length ys → (get_or ys 0 d).from ≤ x → Contains (map (λ r. r.number) ys) (newest_in so ys x)
unfolding newest_in last_in
newest_among [] so x d some le = absurd (omega (arith, some))
newest_among (r ∷ rs) so x d some le =
    let passed : newest_in so (r ∷ rs) x ≡ newest_in r.number rs x = ap (λ b. cond b so (newest_in r.number rs x)) (lt_false x r.from le) in
    subst (Contains (map (λ r. r.number) (r ∷ rs))) (sym passed) (elim (newest_of rs r.number x) [
      | inl e ↦ (0, omega arith, sym e)
      | inr c ↦ in_more r.number (map (λ r. r.number) rs) _ c
    ])

nought : (f : ℕ) → f ≤ 0 → f ≡ 0
nought f le = omega (arith, le)

plus-zero : (n : ℕ) → n + 0 ≡ n
plus-zero n = omega arith

apart : {a b x y z : ℕ} → x < a → b ≤ y → x ≡ z → y ≡ z → a ≤ b → ⊥
apart lo hi e f le = omega (arith, lo, hi, e, f, le)

module _ (xs : List Run) where
  -- what begins before one byte begins before a later one
  pub parts_rise : (a b m n : ℕ) → a ≤ b → AreParted xs a m → AreParted xs b n → m ≤ n
  parts_rise a b m n le M N = elim (cases_lt n m) [
    | inl less ↦
        let d = some_element xs n (let f = M.few in omega (arith, f, less)) in
        let early = M.before n d (let l = length-take-le m xs M.few in omega (arith, l, less)) in
        let late = N.from 0 d (let l = length-drop n xs in let f = M.few in omega (arith, l, f, less)) in
        let one = get_or-take m xs n d less in
        let other = get_or-drop n xs 0 d in
        absurd (apart early late (ap (λ (r : Run). r.from) one) (ap (λ (r : Run). r.from) other ∙ ap (λ (k : ℕ). (get_or xs k d).from) (plus-zero n)) le)
    | inr more ↦ omega (arith, more)
  ]

-- the number that the last of so many runs tells
pub last_of : (xs : List Run) (n so : ℕ) (d : Run) → n < length xs → last_in so (take (suc n) xs) ≡ (get_or xs n d).number
unfolding newest_in last_in
last_of [] n so d lt = absurd (omega (arith, lt))
last_of (r ∷ rs) zero so d lt = refl
last_of (r ∷ rs) (suc n) so d lt = last_of rs n r.number d (omega (arith, lt))

-- and of some
pub last_of_some : (xs : List Run) (n so : ℕ) (d : Run) → 1 ≤ n → n ≤ length xs → last_in so (take n xs) ≡ (get_or xs (n - 1) d).number
last_of_some xs n so d some few =
    let back : suc (n - 1) ≡ n = omega (arith, some) in
    ap (λ k. last_in so (take k xs)) (sym back) ∙ last_of xs (n - 1) so d (omega (arith, some, few))

-- two lists in a row rise where each does and the first lies before the other
rise_joined : (xs ys : List Run) → AreRising xs → AreRising ys → All (λ a. All (λ b. a.from < b.from) ys) xs → AreRising (xs ++ ys)
rise_joined [] ys first other across = other
rise_joined (x ∷ xs) ys first other across =
    AllPairs-cons (λ a b. a.from < b.from) x (xs ++ ys)
    (All-append (λ b. x.from < b.from) xs ys (λ k d lt. first 0 (suc k) d (omega arith) (omega (arith, lt))) (All-head (λ a. All (λ b. a.from < b.from) ys) x xs across))
    (rise_joined xs ys (λ i j d lt within. first (suc i) (suc j) d (omega (arith, lt)) (omega (arith, within))) other (All-tail (λ a. All (λ b. a.from < b.from) ys) x xs across))

-- the runs after one more change of len bytes from at on, whose number is n
module _ (xs : List Run) (at len n first past : ℕ) (rising : AreRising xs) (some : 1 ≤ len) (M : AreParted xs at first) (N : AreParted xs (at + len + 1) past) where
  abbrev own_run : Run
  own_run = record { from = at; number = n }

  abbrev end_run : Run
  end_run = record { from = at + len; number = last_in 0 (take past xs) }

  abbrev pub put_in : List Run
  put_in = take first xs ++ own_run ∷ end_run ∷ drop past xs

  early : AreRising (take first xs)
  early i j d lt within =
      let l = length-take-le first xs M.few in
      let one = get_or-take first xs i d (omega (arith, lt, within, l)) in
      let other = get_or-take first xs j d (omega (arith, within, l)) in
      let r = rising i j d lt (omega (arith, within, l, M.few)) in
      omega (arith, r, ap (λ (r : Run). r.from) one, ap (λ (r : Run). r.from) other)

  late : AreRising (drop past xs)
  late i j d lt within =
      let l = length-drop past xs in
      let one = get_or-drop past xs i d in
      let other = get_or-drop past xs j d in
      let r = rising (past + i) (past + j) d (omega (arith, lt)) (omega (arith, within, l, N.few)) in
      omega (arith, r, ap (λ (r : Run). r.from) one, ap (λ (r : Run). r.from) other)

  pub put_rises : AreRising put_in
  put_rises =
      rise_joined (take first xs) (own_run ∷ end_run ∷ drop past xs) early
      (AllPairs-cons (λ a b. a.from < b.from) own_run (end_run ∷ drop past xs)
      (All-cons (λ b. at < b.from) end_run (drop past xs) (omega (arith, some)) (λ k d lt. let h = N.from k d lt in omega (arith, h)))
      (AllPairs-cons (λ a b. a.from < b.from) end_run (drop past xs) (λ k d lt. let h = N.from k d lt in omega (arith, h)) late))
      (λ k d lt. let b = M.before k d lt in
      All-cons (λ r. (get_or (take first xs) k d).from < r.from) own_run (end_run ∷ drop past xs) b
      (All-cons (λ r. (get_or (take first xs) k d).from < r.from) end_run (drop past xs) (omega (arith, b)) (λ i e within. let h = N.from i e within in omega (arith, b, h))))

  pub put_own : (x : ℕ) → at ≤ x → x < at + len → newest_in 0 put_in x ≡ n
  unfolding newest_in last_in
  put_own x lo hi =
      newest_past (take first xs) (own_run ∷ end_run ∷ drop past xs) 0 x (λ k d lt. let b = M.before k d lt in omega (arith, b, lo))
      ∙ newest_past (own_run ∷ []) (end_run ∷ drop past xs) (last_in 0 (take first xs)) x (All-cons (λ r. r.from ≤ x) own_run [] lo (λ k d lt. absurd (omega (arith, lt))))
      ∙ newest_stops (end_run ∷ drop past xs) n x (All-cons (λ r. x < r.from) end_run (drop past xs) hi (λ k d lt. let h = N.from k d lt in omega (arith, h, hi)))

  whole_at : (m : ℕ) → xs ≡ take m xs ++ drop m xs
  whole_at m = sym (take-append-drop m xs)

  pub put_beside : (x : ℕ) → (x < at) ⊎ (at + len ≤ x) → newest_in 0 put_in x ≡ newest_in 0 xs x
  unfolding newest_in last_in
  put_beside x (inl lo) =
      newest_before (take first xs) (own_run ∷ end_run ∷ drop past xs) 0 x
      (All-cons (λ r. x < r.from) own_run (end_run ∷ drop past xs) lo
      (All-cons (λ r. x < r.from) end_run (drop past xs) (omega (arith, lo)) (λ k d lt. let h = N.from k d lt in omega (arith, h, lo))))
      ∙ sym (ap (λ rs. newest_in 0 rs x) (whole_at first) ∙ newest_before (take first xs) (drop first xs) 0 x (λ k d lt. let h = M.from k d lt in omega (arith, h, lo)))
  put_beside x (inr hi) =
      newest_past (take first xs) (own_run ∷ end_run ∷ drop past xs) 0 x (λ k d lt. let b = M.before k d lt in omega (arith, b, hi))
      ∙ newest_past (own_run ∷ end_run ∷ []) (drop past xs) (last_in 0 (take first xs)) x
      (All-cons (λ r. r.from ≤ x) own_run (end_run ∷ []) (omega (arith, hi)) (All-cons (λ r. r.from ≤ x) end_run [] hi (λ k d lt. absurd (omega (arith, lt)))))
      ∙ sym (ap (λ rs. newest_in 0 rs x) (whole_at past) ∙ newest_past (take past xs) (drop past xs) 0 x (λ k d lt. let b = N.before k d lt in omega (arith, b, hi)))

-- a search among the runs by what they begin at
module _ (xs : List Run) (rising : AreRising xs) (n : ℕ) where
  compared : (e : Run) → IsNonDecreasingBy (λ r. ordering_index (nat_cmp r.from n)) xs
  compared e = grind (arith, nat_tests)

  parted_at : (m : ℕ) → m ≤ length xs → ((k : ℕ) (d : Run) → k < m → (get_or xs k d).from < n) → ((k : ℕ) (d : Run) → m ≤ k → k < length xs → n ≤ (get_or xs k d).from) → AreParted xs n m
  parted_at m few low high = record {
    few = few;
    before = λ k d lt.
        let l = length-take-le m xs few in
        let r = low k d (omega (arith, lt, l)) in
        omega (arith, r, ap (λ (r : Run). r.from) (get_or-take m xs k d (omega (arith, lt, l))));
    from = λ k d lt.
        let l = length-drop m xs in
        let r = high (m + k) d (omega arith) (omega (arith, lt, l, few)) in
        omega (arith, r, ap (λ (r : Run). r.from) (get_or-drop m xs k d));
  }

  pub searched_parts : (r : Result ℕ ℕ) → IsSearchInRange r (length xs) → IsBinarySearchResult (λ h. nat_cmp h.from n) xs r
      → record { found : (m : ℕ) → r ≡ Ok m → AreParted xs n m; none : (m : ℕ) → r ≡ Err m → AreParted xs n m }
  searched_parts (Ok at) in_range equal = record {
    found = λ m e.
        let same : at ≡ m = cc in
        let here : (d : Run) → (get_or xs at d).from ≡ n = λ d. ranked _ n _ (sym (equal d)) in
        subst (AreParted xs n) same (parted_at at (omega (arith, in_range))
        (λ k d lt. let r = rising k at d lt in_range in omega (arith, r, here d))
        (λ k d le lt. elim (cases_lt at k) [
          | inl above ↦ let r = rising at k d above lt in omega (arith, r, here d)
          | inr not ↦ let e : k ≡ at = omega (arith, le, not) in omega (arith, here d, ap (λ (j : ℕ). (get_or xs j d).from) e)
        ]));
    none = λ m e. cc;
  }
  searched_parts (Err at) in_range parted = record {
    found = λ m e. cc;
    none = λ m e.
        let same : at ≡ m = cc in
        subst (AreParted xs n) same (parted_at at (omega (arith, in_range))
        (λ k d lt. let r = ranked _ n _ (sym ((parted (compared d)).0 k d (omega (arith, in_range, lt)) lt)) in omega (arith, r))
        (λ k d le lt. let r = ranked _ n _ (sym ((parted (compared d)).1 k d le lt)) in omega (arith, r)));
  }

-- as a slice of them
pub parted_by_search : (xs ys : List Run) → ys ≡ xs → AreRising xs → (n : ℕ) (r : Result ℕ ℕ) → IsSearchInRange r (length ys) → IsBinarySearchResult (λ h. nat_cmp h.from n) ys r
    → record { found : (m : ℕ) → r ≡ Ok m → AreParted xs n m; none : (m : ℕ) → r ≡ Err m → AreParted xs n m }
parted_by_search xs ys same rising n r in_range result =
    searched_parts xs rising n r (subst (λ zs. IsSearchInRange r (length zs)) same in_range) (subst (λ zs. IsBinarySearchResult (λ h. nat_cmp h.from n) zs r) same result)

-- the first f runs, which begin at the byte or before it, are passed
skip_early : (xs : List Run) (f so x : ℕ) → All (λ r. r.from ≤ x) (take f xs) → newest_in so xs x ≡ newest_in (last_in so (take f xs)) (drop f xs) x
skip_early xs f so x h = subst (λ rs. newest_in so rs x ≡ newest_in (last_in so (take f xs)) (drop f xs) x) (take-append-drop f xs) (newest_past (take f xs) (drop f xs) so x h)

-- and those from the n-th on, which begin after it, tell nothing of it
leave_late : (xs : List Run) (n so x : ℕ) → All (λ r. x < r.from) (drop n xs) → newest_in so xs x ≡ newest_in so (take n xs) x
leave_late xs n so x h = subst (λ rs. newest_in so rs x ≡ newest_in so (take n xs) x) (take-append-drop n xs) (newest_before (take n xs) (drop n xs) so x h)

-- what is over a byte of a span is told by one of the runs from the one that it begins in to the last that begins in it
module _ (xs : List Run) (at len m n x : ℕ) (M : AreParted xs (at + 1) m) (N : AreParted xs (at + len) n) (lo : at ≤ x) (hi : x < at + len) (f : ℕ) (least : f ≡ min (m - 1) n) where
  abbrev spanned : List Run
  spanned = take (n - f) (drop f xs)

  abbrev told_before : ℕ
  told_before = last_in 0 (take f xs)

  ordered : m ≤ n
  ordered = parts_rise xs (at + 1) (at + len) m n (omega (arith, lo, hi)) M N

  one_before : f ≡ m - 1
  one_before = let o = ordered in omega (arith, o, least)

  within : f ≤ length xs
  within = let e = one_before in omega (arith, M.few, e)

  early_ones : All (λ r. r.from ≤ x) (take f xs)
  early_ones k d lt =
      let e = one_before in
      let long = length-take-le f xs within in
      let b = M.before k d (let l = length-take-le m xs M.few in omega (arith, l, lt, long, e)) in
      let one = ap (λ (r : Run). r.from) (get_or-take f xs k d (omega (arith, lt, long))) in
      let other = ap (λ (r : Run). r.from) (get_or-take m xs k d (omega (arith, lt, long, e))) in
      omega (arith, b, one, other, lo)

  late_ones : All (λ r. x < r.from) (drop (n - f) (drop f xs))
  late_ones k d lt =
      let e = one_before in
      let o = ordered in
      let one = ap (λ (r : Run). r.from) (get_or-drop (n - f) (drop f xs) k d ∙ get_or-drop f xs ((n - f) + k) d) in
      let other = ap (λ (r : Run). r.from) (get_or-drop n xs k d) in
      let place : f + ((n - f) + k) ≡ n + k = omega (arith, e, o) in
      let there = ap (λ (j : ℕ). (get_or xs j d).from) place in
      let h = N.from k d (let a = length-drop (n - f) (drop f xs) in let b = length-drop f xs in let l = length-drop n xs in omega (arith, a, b, l, lt, e, o)) in
      omega (arith, one, other, there, h, hi)

  told_there : newest_in 0 xs x ≡ newest_in told_before spanned x
  told_there = skip_early xs f 0 x early_ones ∙ leave_late (drop f xs) (n - f) told_before x late_ones

  -- where it begins in a run
  begun : 1 ≤ m → Contains (numbers_in spanned) (newest_in told_before spanned x)
  begun has =
      let e = one_before in
      let o = ordered in
      let d = some_element xs f (omega (arith, e, has, M.few)) in
      let b = M.before f d (let l = length-take-le m xs M.few in omega (arith, l, e, has)) in
      let one = ap (λ (r : Run). r.from) (get_or-take m xs f d (omega (arith, e, has))) in
      let other = ap (λ (r : Run). r.from) (get_or-take (n - f) (drop f xs) 0 d (omega (arith, e, has, o)) ∙ get_or-drop f xs 0 d ∙ ap (λ k. get_or xs k d) (plus-zero f)) in
      let long = length-take-le (n - f) (drop f xs) (let l = length-drop f xs in omega (arith, l, N.few)) in
      newest_among spanned told_before x d (omega (arith, long, e, has, o)) (omega (arith, b, one, other, lo))

  -- and where it begins before all
  unbegun : m ≤ 0 → told_before ≡ 0
  unfolding last_in
  unbegun none = let e = one_before in ap (λ k. last_in 0 (take k xs)) (nought f (omega (arith, e, none)))

  pub newest_over_span : 1 ≤ newest_in 0 xs x → Contains (numbers_in spanned) (newest_in 0 xs x)
  newest_over_span some = subst (Contains (numbers_in spanned)) (sym told_there) (elim (cases_lt 0 m) [
    | inl has ↦ begun has
    | inr none ↦ elim (newest_of spanned told_before x) [
      | inl e ↦ let z = unbegun (omega (arith, none)) in let t = told_there in absurd (omega (arith, some, t, e, z))
      | inr c ↦ c
    ]
  ])
