-- Lists in order of number, and their parts.
use Rattle.std.proofs.Common.{◌≡◌, ◌⊎◌, ℕ, suc, ◌<◌, Bool, false, List, [], ◌∷◌, ◌++◌, map, filter, refl, sym, ap, subst, ◌∙◌, inl, inr, arith}
use Rattle.std.specs.Prelude.{◌&&◌, AllPairs}
use Rattle.std.proofs.lemmas.Bool.{cases_Bool}
use Rattle.std.proofs.lemmas.List.Kept.{AllPairs-cons}
use Rattle.fst_types.proofs.Finite.{In, In-get_or, Contains-from_In}
use Rattle.fst_types.proofs.Dropping.{filter_in}

-- each item has a smaller number than all later ones
abbrev pub Ascends : {X : Type 0} → (X → ℕ) → List X → Type 0
Ascends number [] = Unit {0}
Ascends {X} number (x ∷ xs) = ((y : X) → In xs y → number x < number y) × Ascends number xs

pub ascends_from : {X : Type 0} (number : X → ℕ) (xs : List X) → AllPairs (λ x y. number x < number y) xs → Ascends number xs
ascends_from number [] r = tt
ascends_from number (x ∷ xs) r = (
  λ y h. let c = Contains-from_In xs y h in subst (λ z. number x < number z) c.2 (r 0 (suc c.0) y (omega arith) (omega (arith, c.1))),
  ascends_from number xs (λ i j d lt inside. r (suc i) (suc j) d (omega (arith, lt)) (omega (arith, inside))),
)

pub from_ascends : {X : Type 0} (number : X → ℕ) (xs : List X) → Ascends number xs → AllPairs (λ x y. number x < number y) xs
from_ascends number [] a = λ i j d lt inside. absurd (omega (arith, inside))
from_ascends number (x ∷ xs) a = AllPairs-cons (λ x y. number x < number y) x xs (λ i d lt. a.0 _ (In-get_or xs i d lt)) (from_ascends number xs a.1)

pub ascends_filter : {X : Type 0} (number : X → ℕ) (t : X → Bool) (xs : List X) → Ascends number xs → Ascends number (filter t xs)
ascends_filter number t [] a = tt
ascends_filter number t (x ∷ xs) a =
    let rest = ascends_filter number t xs a.1 in
    elim (cases_Bool (t x)) [ inl yes_x ↦ rw yes_x (λ y h. a.0 y (filter_in t xs y h).0, rest) | inr no_x ↦ rw no_x rest ]

pub in_append : {X : Type 0} (xs ys : List X) (x : X) → In (xs ++ ys) x → In xs x ⊎ In ys x
in_append [] ys x h = inr h
in_append (y ∷ xs) ys x (inl e) = inl (inl e)
in_append (y ∷ xs) ys x (inr h) = elim (in_append xs ys x h) [ inl k ↦ inl (inr k) | inr k ↦ inr k ]

pub ascends_append : {X : Type 0} (number : X → ℕ) (xs ys : List X) → Ascends number xs → Ascends number ys → ((x y : X) → In xs x → In ys y → number x < number y) → Ascends number (xs ++ ys)
ascends_append number [] ys a b f = b
ascends_append number (x ∷ xs) ys a b f = (
  λ y h. elim (in_append xs ys y h) [ inl k ↦ a.0 y k | inr k ↦ f x y (inl refl) k ],
  ascends_append number xs ys a.1 b (λ z y i j. f z y (inr i) j),
)

-- tests that agree on a list take the same part of it
pub filter_same : {X : Type 0} (t u : X → Bool) (xs : List X) → ((x : X) → In xs x → t x ≡ u x) → filter t xs ≡ filter u xs
filter_same t u [] e = refl
filter_same t u (x ∷ xs) e =
    let rest = filter_same t u xs (λ y h. e y (inr h)) in
    elim (cases_Bool (u x)) [ inl yes_x ↦ rw (e x (inl refl), yes_x, rest) refl | inr no_x ↦ rw (e x (inl refl), no_x) rest ]

pub filter_none : {X : Type 0} (t : X → Bool) (xs : List X) → ((x : X) → In xs x → t x ≡ false) → filter t xs ≡ []
filter_none t [] e = refl
filter_none t (x ∷ xs) e = rw (e x (inl refl)) (filter_none t xs (λ y h. e y (inr h)))

-- a part of a part
pub filter_within : {X : Type 0} (t u v : X → Bool) (xs : List X) → ((x : X) → In xs x → (u x && t x) ≡ v x) → filter t (filter u xs) ≡ filter v xs
filter_within t u v [] e = refl
filter_within t u v (x ∷ xs) e =
    let rest = filter_within t u v xs (λ y h. e y (inr h)) in
    let here = e x (inl refl) in
    elim (cases_Bool (u x)) [
      | inl in_u ↦
          let k : t x ≡ v x = subst (λ (a : Bool). (a && t x) ≡ v x) in_u here in
          elim (cases_Bool (v x)) [ inl in_v ↦ rw (in_u, k, in_v, rest) refl | inr no_v ↦ rw (in_u, k, no_v) rest ]
      | inr no_u ↦ let k : false ≡ v x = subst (λ (a : Bool). (a && t x) ≡ v x) no_u here in rw (no_u, sym k) rest
    ]

-- two lists in order of number that have the same numbers
pub same_items : {X Y W : Type 0} (f : X → ℕ) (g : Y → ℕ) (v : X → W) (w : Y → W) (xs : List X) (ys : List Y) → Ascends f xs → Ascends g ys
    → ((x : X) → In xs x → (y : Y) × In ys y × (g y ≡ f x)) → ((y : Y) → In ys y → (x : X) × In xs x × (f x ≡ g y))
    → ((x : X) (y : Y) → In xs x → In ys y → f x ≡ g y → v x ≡ w y) → map v xs ≡ map w ys
same_items f g v w [] [] a b into back same = refl
same_items f g v w [] (y ∷ ys) a b into back same = absurd (back y (inl refl)).1
same_items f g v w (x ∷ xs) [] a b into back same = absurd (into x (inl refl)).1
same_items {X} {Y} f g v w (x ∷ xs) (y ∷ ys) a b into back same =
    rw (same x y (inl refl) (inl refl) first, same_items f g v w xs ys a.1 b.1 into_tail back_tail (λ p q i j. same p q (inr i) (inr j))) refl
  where
    first : f x ≡ g y
    first =
        let p = into x (inl refl) in
        let q = back y (inl refl) in
        elim p.1 [
          | inl e ↦ sym p.2 ∙ ap g (sym e)
          | inr i ↦ elim q.1 [
            | inl e ↦ ap f e ∙ q.2
            | inr j ↦ let k = a.0 q.0 j in let l = b.0 p.0 i in absurd (omega (arith, k, l, p.2, q.2))
          ]
        ]

    into_tail : (p : X) → In xs p → (q : Y) × In ys q × (g q ≡ f p)
    into_tail p i =
        let r = into p (inr i) in
        elim r.1 [
          | inl e ↦ let k = a.0 p i in let l = ap g e in absurd (omega (arith, k, l, r.2, first))
          | inr j ↦ (r.0, j, r.2)
        ]

    back_tail : (q : Y) → In ys q → (p : X) × In xs p × (f p ≡ g q)
    back_tail q j =
        let r = back q (inr j) in
        elim r.1 [
          | inl e ↦ let k = b.0 q j in let l = ap f e in absurd (omega (arith, k, l, r.2, first))
          | inr i ↦ (r.0, i, r.2)
        ]
