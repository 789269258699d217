-- What a walk has met and marked.
use Rattle.std.proofs.Common.{◌≡◌, ◌≢◌, ◌≤◌, ◌<◌, ℕ, zero, suc, Bool, true, false, List, [], ◌∷◌, ◌++◌, length, take, filter, get_or, set, Contains, AllPairs, refl, sym, subst, ◌∙◌, inl, inr, arith, get_or-set_same, get_or-set_other, length-append}
use Rattle.std.proofs.{lemmas.Bool.{cases_eq, false≢true}, lemmas.List.{take-append-le, take_all}}
use Rattle.std.proofs.lemmas.List.Elements.{Contains-append_left, Contains-push, Contains-push_cases}
use Rattle.fst_types.proofs.{Dropping.filter_in, Finite.{In, In-from_Contains, Contains-from_In}, SmallStates.only_in}
use Rattle.fst_heads.proofs.{Indices.any_default, Waiting.{once_fits, once_append}}
use Rattle.fst_levels.specs.Walks.{AreMarked}

-- a mark stands at one of the indices
pub marked_inside : (marks : List Bool) (s : ℕ) → get_or marks s false ≡ true → s < length marks
marked_inside [] s e = absurd (false≢true e)
marked_inside (m ∷ ms) zero e = omega arith
marked_inside (m ∷ ms) (suc s) e = let r = marked_inside ms s e in omega (arith, r)

-- the mark at an index, as the code reads it
pub mark_of_index : (marks : List Bool) (s : ℕ) (r : Bool) {b : Bool} → s < length marks → r ≡ get_or marks s r → r ≡ b → get_or marks s false ≡ b
mark_of_index marks s r lt is e = any_default marks s false r lt ∙ (sym is ∙ e)

-- the indices below n
abbrev below : ℕ → List ℕ
below zero = []
below (suc n) = n ∷ below n

length-below : (n : ℕ) → length (below n) ≡ n
length-below zero = refl
length-below (suc n) = let r = length-below n in omega (arith, r)

in_below : (n s : ℕ) → s < n → In (below n) s
in_below zero s lt = absurd (omega (arith, lt))
in_below (suc n) s lt = elim (cases_eq n s) [ inl e ↦ inl e | inr ne ↦ inr (in_below n s (omega (arith, lt, ne))) ]

pub none_in : (n : ℕ) → Contains {X = ℕ} [] n → ⊥
none_in n c = absurd (omega (arith, c.1))

contains_of : (ns : List ℕ) (n : ℕ) → In ns n → Contains ns n
contains_of ns n h = Contains-from_In ns n h

module _ (marks : List Bool) (met : List ℕ) (m : AreMarked marks met) where
  pub met_inside : (s : ℕ) → Contains met s → s < length marks
  met_inside s c = marked_inside marks s (m.each s c)

  -- no more were met than there are marks
  pub met_few : AllPairs (λ s t. s ≢ t) met → length met ≤ length marks
  met_few once =
      let few = once_fits met (below (length marks)) once (λ s h. in_below (length marks) s (met_inside s (contains_of met s h))) in
      omega (arith, few, length-below (length marks))

  -- one more is met
  pub marked_push : (s : ℕ) → s < length marks → AreMarked (set marks s true) (met ++ s ∷ [])
  marked_push s lt = record {
    only = λ t e. elim (cases_eq t s) [
      | inl same ↦ subst (Contains (met ++ s ∷ [])) (sym same) (Contains-push met s)
      | inr other ↦ Contains-append_left met (s ∷ []) t (m.only t (sym (get_or-set_other marks s t true false other) ∙ e))
    ];
    each = λ t c. elim (cases_eq t s) [
      | inl same ↦ subst (λ k. get_or (set marks s true) k false ≡ true) (sym same) (get_or-set_same marks s true false lt)
      | inr other ↦ get_or-set_other marks s t true false other ∙ elim (Contains-push_cases met s t c) [ inl old ↦ m.each t old | inr e ↦ absurd (other (sym e)) ]
    ];
  }

  fresh : (s : ℕ) → get_or marks s false ≡ false → Contains met s → ⊥
  fresh s none c = false≢true (sym none ∙ m.each s c)

  pub once_push : (s : ℕ) → get_or marks s false ≡ false → AllPairs (λ s t. s ≢ t) met → AllPairs (λ s t. s ≢ t) (met ++ s ∷ [])
  once_push s none once =
      once_append met (s ∷ []) once (λ i j d lt inside. absurd (omega (arith, lt, inside)))
      (λ t c d. fresh s none (subst (Contains met) (sym (only_in s t d)) c))

  -- and there is room for it
  pub room_to_meet : (s : ℕ) → s < length marks → get_or marks s false ≡ false → AllPairs (λ s t. s ≢ t) met → length met < length marks
  room_to_meet s lt none once = room_after (marked_push s lt) (once_push s none once)
    where
      room_after : AreMarked (set marks s true) (met ++ s ∷ []) → AllPairs (λ s t. s ≢ t) (met ++ s ∷ []) → length met < length marks
      room_after pushed apart =
          let few = once_fits (met ++ s ∷ []) (below (length marks)) apart (λ t h. in_below (length marks) t (inside_of t (contains_of (met ++ s ∷ []) t h))) in
          omega (arith, few, length-below (length marks), length-append met (s ∷ []))
        where
          inside_of : (t : ℕ) → Contains (met ++ s ∷ []) t → t < length marks
          inside_of t c = elim (Contains-push_cases met s t c) [ inl old ↦ met_inside t old | inr e ↦ subst (λ k. k < length marks) e lt ]

grown_mark : (marks : List Bool) (s : ℕ) → get_or (marks ++ false ∷ []) s false ≡ get_or marks s false
grown_mark [] zero = refl
grown_mark [] (suc s) = refl
grown_mark (m ∷ ms) zero = refl
grown_mark (m ∷ ms) (suc s) = grown_mark ms s

-- a head more, which is not marked
pub marked_grown : (marks : List Bool) (met : List ℕ) → AreMarked marks met → AreMarked (marks ++ false ∷ []) met
marked_grown marks met m = record { only = λ s e. m.only s (sym (grown_mark marks s) ∙ e); each = λ s c. grown_mark marks s ∙ m.each s c }

-- marks are taken back, so far of the first of those that were met
pub record Unmarking (old new : List Bool) (done : List ℕ) : Type 0 where
  pub only : (s : ℕ) → get_or new s false ≡ true → get_or old s false ≡ true
  pub gone : (s : ℕ) → Contains done s → get_or new s false ≡ false

pub unmarking_more : (old new : List Bool) (done : List ℕ) (n : ℕ) → n < length new → Unmarking old new done → Unmarking old (set new n false) (done ++ n ∷ [])
unmarking_more old new done n lt u = record {
  only = λ s e. elim (cases_eq s n) [
    | inl same ↦ absurd (false≢true (sym (subst (λ k. get_or (set new n false) k false ≡ false) (sym same) (get_or-set_same new n false false lt)) ∙ e))
    | inr other ↦ u.only s (sym (get_or-set_other new n s false false other) ∙ e)
  ];
  gone = λ s c. elim (cases_eq s n) [
    | inl same ↦ subst (λ k. get_or (set new n false) k false ≡ false) (sym same) (get_or-set_same new n false false lt)
    | inr other ↦ get_or-set_other new n s false false other ∙ elim (Contains-push_cases done n s c) [ inl before ↦ u.gone s before | inr e ↦ absurd (other (sym e)) ]
  ];
}

pub unmarking_all : (old new : List Bool) (met : List ℕ) → AreMarked old met → Unmarking old new met → AreMarked new []
unmarking_all old new met m u = record { only = λ s e. absurd (false≢true (sym (u.gone s (m.only s (u.only s e))) ∙ e)); each = λ s c. absurd (none_in s c) }

-- no two are the same where there is none
-- what was met and passes a test
pub kept_inside : (t : ℕ → Bool) (met : List ℕ) (s : ℕ) → Contains (filter t met) s → Contains met s
kept_inside t met s c = Contains-from_In met s (filter_in t met s (In-from_Contains (filter t met) s c)).0

-- a slice that was written over the whole vector
pub written : (n : ℕ) (xs ys : List Bool) → length xs ≡ n → take n (xs ++ ys) ≡ xs
written n xs ys long = take-append-le n xs ys (omega (arith, long)) ∙ take_all n xs (omega (arith, long))
