-- Rising rows, and names as calls give them.
use Rattle.fst_heads.proofs.Basics.{◌≡◌, ℕ, ◌+◌, ◌-◌, ◌<◌, ◌≤◌, List, ◌∷◌, length, get_or, Contains, Result, Ok, Err, is_ok, refl, sym, subst, ◌∙◌, inl, inr, arith, insert, IsStrictlyIncreasing, IsBinarySearchResult, nat_cmp, rules, common_steps, cases_Bool, cases_lt, cases_eq, AllPairs-from_increasing, searched}
use Rattle.fst_heads.proofs.Basics.{IsPermutation-insert, IsPermutation-sym, Contains-permutation, length-insert, get_or-insert_below, get_or-insert_at, get_or-insert_above, true}
use Rattle.fst_heads.proofs.Patches.{is_among, among_in, in_among, PatchNo, Lists, IsGiven, In, In-get_or, In-from_Contains, Contains-from_In, In-map, DirectlyOn, IsLiveNumber, Patch}
use Rattle.fst_heads.proofs.{Words.{numbers_of, Gains, Head, IsRising, patches_of, HasIndex, IsMissing}, Indices.{any_default, some_element, direct_at, named_at}}
use Rattle.fst_types.specs.Order.{NamesUnknown}

-- what a gate does not have yet

-- what the row of the head at an index has is what the patch directly depends on
module _ (heads : List Head) (rising : IsRising heads) (p s : ℕ) (d : Head) (index : HasIndex heads p s) (q : ℕ) where
  pub direct_from : is_among (get_or heads s d).dependencies.items q ≡ true → DirectlyOn (patches_of heads) p q
  direct_from e = let row = (get_or heads s d).dependencies.items in direct_at heads p q s d index (Contains-from_In row q (among_in row q e))

  pub direct_to : DirectlyOn (patches_of heads) p q → is_among (get_or heads s d).dependencies.items q ≡ true
  direct_to e = let row = (get_or heads s d).dependencies.items in in_among row q (In-from_Contains row q (named_at heads p q s d rising index e))

-- the same, the facts in the order of the definition
pub missing_list : (heads : List Patch) (gate : ℕ) (names row : List ℕ) → Lists (λ n. IsMissing heads gate n × Contains names n) row → Lists (λ n. IsLiveNumber heads n × Contains names n × (DirectlyOn heads gate n → ⊥)) row
missing_list heads gate names row l = record {
  rising = l.rising;
  only = λ n c. let k = l.only n c in (k.0.0, k.1, k.0.1);
  each = λ n k. l.each n ((k.0, k.2), k.1);
}

module _ (xs : List ℕ) (rising : IsStrictlyIncreasing xs) where
  pub ordered : (i j : ℕ) → i < j → j < length xs → get_or xs i 0 < get_or xs j 0
  ordered i j lt inside = AllPairs-from_increasing xs rising i j 0 lt inside

  not_falling : (i j : ℕ) → i ≤ j → j < length xs → get_or xs i 0 ≤ get_or xs j 0
  not_falling i j le lt = grind (arith, cases_lt, ordered)

  module _ (x at : ℕ) (small : at ≤ length xs) (before : (k : ℕ) → k < at → get_or xs k 0 < x) (after : (k : ℕ) → at ≤ k → k < length xs → x < get_or xs k 0) where
    rises : IsStrictlyIncreasing (insert xs at x)
    rises k lt =
        let len = length-insert xs at x small in
        let here = get_or-insert_at xs at x 0 small in
        elim (cases_lt (k + 1) at) [
          | inl low ↦ rw (get_or-insert_below xs at x 0 k (omega (arith, low)) small, get_or-insert_below xs at x 0 (k + 1) low small) (rising k (omega (arith, low, small)))
          | inr rest ↦ elim (cases_eq (k + 1) at) [
            | inl e ↦ rw (get_or-insert_below xs at x 0 k (omega (arith, e)) small) (subst (λ m. get_or xs k 0 < get_or (insert xs at x) m 0) (sym e) (rw here (before k (omega (arith, e)))))
            | inr ne ↦
                elim (cases_eq k at) [
                  | inl e ↦ rw (get_or-insert_above xs at x 0 k (omega (arith, e)) small) (subst (λ m. get_or (insert xs at x) m 0 < get_or xs k 0) (sym e) (rw here (after k (omega (arith, e)) (omega (arith, lt, len)))))
                  | inr ne' ↦
                      let back : k - 1 + 1 ≡ k = omega (arith, rest, ne, ne') in
                      let a : get_or (insert xs at x) k 0 ≡ get_or xs (k - 1) 0 = subst (λ m. get_or (insert xs at x) m 0 ≡ get_or xs (k - 1) 0) back (get_or-insert_above xs at x 0 (k - 1) (omega (arith, rest, ne, ne')) small) in
                      rw (a, get_or-insert_above xs at x 0 k (omega (arith, rest, ne, ne')) small) (ordered (k - 1) k (omega (arith, back)) (omega (arith, lt, len)))
                ]
          ]
        ]

    pub gains_at : Gains xs x (insert xs at x)
    gains_at = record {
      rising = rises;
      only = λ n c.
          elim (In-from_Contains (x ∷ xs) n (Contains-permutation (insert xs at x) (x ∷ xs) n (IsPermutation-sym (x ∷ xs) (insert xs at x) (IsPermutation-insert xs at x)) c)) [
            | inl e ↦ inr (sym e)
            | inr i ↦ inl (Contains-from_In xs n i)
          ];
      kept = λ n c. Contains-permutation (x ∷ xs) (insert xs at x) n (IsPermutation-insert xs at x) (Contains-from_In (x ∷ xs) n (inr (In-from_Contains xs n c)));
      gained = Contains-permutation (x ∷ xs) (insert xs at x) x (IsPermutation-insert xs at x) (Contains-from_In (x ∷ xs) x (inl refl));
    }

  pub gains_new : (x at : ℕ) → (r : Result ℕ ℕ) → r ≡ Err at → IsBinarySearchResult (λ y. nat_cmp y x) xs r → Gains xs x (insert xs at x)
  gains_new x at (Ok k) e found = cc
  gains_new x at (Err k) e found =
      let s = searched xs x (Err k) found not_falling in
      let same : k ≡ at = cc in
      subst (λ m. Gains xs x (insert xs m x)) same (gains_at x k s.0 s.1 s.2)

  -- the search tells whether the row has the number
  pub row_found : (x : ℕ) (r : Result ℕ ℕ) → IsBinarySearchResult (λ y. nat_cmp y x) xs r → is_ok r ≡ is_among xs x
  row_found x (Ok k) found =
      let s = searched xs x (Ok k) found not_falling in
      sym (in_among xs x (subst (In xs) s.1 (In-get_or xs k 0 s.0)))
  row_found x (Err k) found =
      let s = searched xs x (Err k) found not_falling in
      elim (cases_Bool (is_among xs x)) [
        | inr none ↦ sym none
        | inl some ↦
            let c = Contains-from_In xs x (among_in xs x some) in
            let here : get_or xs c.0 0 ≡ x = any_default xs c.0 0 x c.1 ∙ c.2 in
            absurd (elim (cases_lt c.0 k) [
              | inl before ↦ let r = s.1 c.0 before in omega (arith, r, here)
              | inr after ↦ let r = s.2 c.0 after c.1 in omega (arith, r, here)
            ])
      ]

-- names
pub name_in : (names : List PatchNo) (k : ℕ) (d : PatchNo) → k < length names → Contains (numbers_of names) (get_or names k d).0
name_in names k d lt = Contains-from_In _ _ (In-map (λ n. n.0) names (get_or names k d) _ (In-get_or names k d lt) refl)

pub name_of : (names : List PatchNo) (n : ℕ) → Contains (numbers_of names) n → (k : ℕ) × (k < length names) × ((d : PatchNo) → (get_or names k d).0 ≡ n)
name_of names n c = grind (arith, common_steps)

-- every name up to i was given
abbrev pub AreGiven : ℕ → List PatchNo → ℕ → Type 0
AreGiven numbers names i = (k : ℕ) (d : PatchNo) → k < i → IsGiven numbers (get_or names k d).0

pub none_unknown : (numbers : ℕ) (names : List PatchNo) (i : ℕ) → length names ≤ i → AreGiven numbers names i → NamesUnknown numbers (numbers_of names) → ⊥
none_unknown numbers names i past all u =
    let k = name_of names u.0 u.1 in
    let d = some_element names k.0 k.1 in
    u.2 (subst (IsGiven numbers) (k.2 d) (all k.0 d (omega (arith, k.1, past))))

-- the names with P, as far as they were looked at
pub record Gathers (P : ℕ → Type 0) (names : List PatchNo) (i : ℕ) (row : List ℕ) : Type 0 where
  pub rising : IsStrictlyIncreasing row
  pub only : (n : ℕ) → Contains row n → P n × Contains (numbers_of names) n
  pub each : (k : ℕ) (d : PatchNo) → k < i → k < length names → P (get_or names k d).0 → Contains row (get_or names k d).0

module _ (P : ℕ → Type 0) (names : List PatchNo) (i : ℕ) (row : List ℕ) (e : PatchNo) (lt : i < length names) (x : Gathers P names i row) where
  here : (k : ℕ) (d : PatchNo) → (k < i → ⊥) → k < i + 1 → get_or names i e ≡ get_or names k d
  here k d past up = let same : i ≡ k = omega (arith, up, past) in subst (λ j. get_or names i e ≡ get_or names j d) same (any_default names i e d lt)

  pub gathers_more : (new : List ℕ) → P (get_or names i e).0 → Gains row (get_or names i e).0 new → Gathers P names (i + 1) new
  gathers_more new p g = record {
    rising = g.rising;
    only = λ n c. elim (g.only n c) [ inl o ↦ x.only n o | inr same ↦ subst (λ m. P m × Contains (numbers_of names) m) (sym same) (p, name_in names i e lt) ];
    each = grind (arith, cases_lt, here);
  }

  pub gathers_skip : (P (get_or names i e).0 → ⊥) → Gathers P names (i + 1) row
  gathers_skip no_p = search (rules, cases_lt, here)

pub gathers_all : (P : ℕ → Type 0) (names : List PatchNo) (i : ℕ) (row : List ℕ) → length names ≤ i → Gathers P names i row → Lists (λ n. P n × Contains (numbers_of names) n) row
gathers_all P names i row past x = record {
  rising = x.rising;
  only = x.only;
  each = λ n p.
      let k = name_of names n p.1 in
      let d = some_element names k.0 k.1 in
      subst (Contains row) (k.2 d) (x.each k.0 d (omega (arith, k.1, past)) k.1 (subst P (sym (k.2 d)) p.0));
}
