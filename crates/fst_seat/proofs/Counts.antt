-- Counts and sums over a list, by the places of its items.
use Rattle.std.proofs.Common.{◌≡◌, ◌<◌, ◌≤◌, ◌+◌, ℕ, zero, suc, Bool, true, false, cond, List, [], ◌∷◌, map, Some, refl, sym, ap, subst, ◌∙◌, inl, inr, arith, length, slice_get, count_by, sum_by}
use Rattle.std.proofs.lemmas.Bool.{cases_Bool, cases_eq}
use Rattle.std.proofs.lemmas.List.Sums.{sum_by-cons}
use Rattle.std.proofs.lemmas.Option.{same_Some}
use Rattle.fst_types.specs.Counts.{count_below}

abbrev ones : {X : Type 0} → (X → Bool) → X → ℕ
ones f x = cond (f x) 1 0

counted : {X : Type 0} (f : X → Bool) (x : X) (xs : List X) → count_by f (x ∷ xs) ≡ cond (f x) 1 0 + count_by f xs
counted f x xs = sum_by-cons (ones f) x xs

-- items that stand for others
pub count_mapped : {X Y : Type 0} (f : Y → Bool) (h : X → Y) (xs : List X) → count_by f (map h xs) ≡ count_by (λ (x : X). f (h x)) xs
count_mapped f h [] = refl
count_mapped f h (x ∷ xs) =
    sum_by-cons (λ y. cond (f y) 1 0) (h x) (map h xs)
    ∙ (ap (λ (n : ℕ). cond (f (h x)) 1 0 + n) (count_mapped f h xs) ∙ sym (sum_by-cons (λ y. cond (f (h y)) 1 0) x xs))

-- the numbers below n, each by its worth
abbrev pub sum_below : (ℕ → ℕ) → ℕ → ℕ
sum_below g zero = 0
sum_below g (suc n) = sum_below g n + g n

below_first : (g : ℕ → ℕ) (n : ℕ) → sum_below g (suc n) ≡ g 0 + sum_below (λ k. g (suc k)) n
below_first g zero = omega arith
below_first g (suc n) = let rest = below_first g n in omega arith

-- a sum over a list is that over its places
pub sum_by_places : {X : Type 0} (f : X → ℕ) (g : ℕ → ℕ) (xs : List X) → ((k : ℕ) (x : X) → slice_get xs k ≡ Some x → f x ≡ g k) → sum_by f xs ≡ sum_below g (length xs)
sum_by_places f g [] same = refl
sum_by_places f g (x ∷ xs) same =
    let rest = sum_by_places f (λ k. g (suc k)) xs (λ k y e. same (suc k) y e) in
    let head = same 0 x refl in
    let first = below_first g (length xs) in
    sum_by-cons f x xs ∙ omega (arith, rest, head, first)

count_is_sum : (t : ℕ → Bool) (n : ℕ) → count_below t n ≡ sum_below (λ k. cond (t k) 1 0) n
count_is_sum t zero = refl
count_is_sum t (suc n) = ap (λ m. m + cond (t n) 1 0) (count_is_sum t n)

pub count_by_places : {X : Type 0} (f : X → Bool) (t : ℕ → Bool) (xs : List X) → ((k : ℕ) (x : X) → slice_get xs k ≡ Some x → f x ≡ t k) → count_by f xs ≡ count_below t (length xs)
count_by_places f t xs same = sum_by_places (ones f) (λ k. cond (t k) 1 0) xs (λ k x e. ap (λ b. cond b 1 0) (same k x e)) ∙ sym (count_is_sum t (length xs))

-- what passes one test passes the other
pub count_le : {X : Type 0} (f g : X → Bool) (xs : List X) → ((k : ℕ) (x : X) → slice_get xs k ≡ Some x → f x ≡ true → g x ≡ true) → count_by f xs ≤ count_by g xs
count_le f g [] each = omega arith
count_le f g (x ∷ xs) each =
    let rest = count_le f g xs (λ k y e. each (suc k) y e) in
    rw (counted f x xs, counted g x xs)
    (elim (cases_Bool (f x)) [
      | inl passes ↦ rw (passes, each 0 x refl passes) (omega arith)
      | inr fails ↦ rw fails (omega arith)
    ])

-- and one item passes the other alone
pub count_lt : {X : Type 0} (f g : X → Bool) (xs : List X) (i : ℕ) (y : X) → ((k : ℕ) (x : X) → slice_get xs k ≡ Some x → f x ≡ true → g x ≡ true)
    → slice_get xs i ≡ Some y → f y ≡ false → g y ≡ true → count_by f xs < count_by g xs
count_lt f g [] i y each e fails passes = grind (arith, e)
count_lt f g (x ∷ xs) zero y each e fails passes =
    let rest = count_le f g xs (λ k z h. each (suc k) z h) in
    rw (counted f x xs, counted g x xs, ap f (same e) ∙ fails, ap g (same e) ∙ passes) (omega arith)
  where
    same : {X : Type 0} {x y : X} → Some x ≡ Some y → x ≡ y
    same e = cc
count_lt f g (x ∷ xs) (suc i) y each e fails passes =
    let rest = count_lt f g xs i y (λ k z h. each (suc k) z h) e fails passes in
    rw (counted f x xs, counted g x xs)
    (elim (cases_Bool (f x)) [
      | inl does ↦ rw (does, each 0 x refl does) (omega arith)
      | inr not ↦ rw not (omega arith)
    ])

-- a sum of sums
pub below_add : (g h : ℕ → ℕ) (n : ℕ) → sum_below (λ k. g k + h k) n ≡ sum_below g n + sum_below h n
below_add g h zero = refl
below_add g h (suc n) = let rest = below_add g h n in omega arith

pub below_none : (g : ℕ → ℕ) (n : ℕ) → ((k : ℕ) → k < n → g k ≡ 0) → sum_below g n ≡ 0
below_none g zero none = refl
below_none g (suc n) none =
    let rest = below_none g n (λ k lt. none k (omega (arith, lt))) in
    let last = none n (omega arith) in
    omega (arith, rest, last)

pub below_same : (g h : ℕ → ℕ) (n : ℕ) → ((k : ℕ) → g k ≡ h k) → sum_below g n ≡ sum_below h n
below_same g h zero same = refl
below_same g h (suc n) same = let rest = below_same g h n same in let last = same n in omega (arith, rest, last)

-- one number alone has a worth
pub below_one : (g : ℕ → ℕ) (n b : ℕ) → b < n → ((k : ℕ) → k < n → (k ≡ b → ⊥) → g k ≡ 0) → sum_below g n ≡ g b
below_one g zero b lt others = absurd (omega (arith, lt))
below_one g (suc n) b lt others =
    elim (cases_eq n b) [
      | inl last ↦
          let none = below_none g n (λ k below. others k (omega (arith, below)) (λ e. omega (arith, e, last, below))) in
          omega (arith, none, ap g last)
      | inr before ↦
          let rest = below_one g n b (omega (arith, lt, before)) (λ k below. others k (omega (arith, below))) in
          let last = others n (omega arith) before in
          omega (arith, rest, last)
    ]

-- what is of none before n, and not of the item at n, is of none before the next
pub one_more : {X : Type 0} (P : X → Type 0) (xs : List X) (n : ℕ) (x : X) → slice_get xs n ≡ Some x → (P x → ⊥)
    → ((k : ℕ) (y : X) → k < n → slice_get xs k ≡ Some y → P y → ⊥)
    → (k : ℕ) (y : X) → k < n + 1 → slice_get xs k ≡ Some y → P y → ⊥
one_more P xs n x at_n not_x before k y lt at_k holds =
    elim (cases_eq k n) [
      | inl here ↦ not_x (subst P (same_Some y x (sym at_k ∙ (ap (slice_get xs) here ∙ at_n))) holds)
      | inr else_where ↦ before k y (omega (arith, lt, else_where)) at_k holds
    ]
