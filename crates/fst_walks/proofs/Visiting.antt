-- What was visited, and what is visited besides.
use Rattle.std.proofs.Common.{◌≡◌, ◌⊎◌, ◌<◌, ◌≤◌, ℕ, List, [], ◌∷◌, ◌++◌, Option, None, Some, IfNone, IfSome, is_some, false, true, length, map, get_or, Contains, refl, sym, ap, subst, ◌∙◌, inl, inr, arith}
use Rattle.std.proofs.lemmas.{Bool.{cases_lt, false≢true}, List.{append-nil, append_assoc, get_or_append_left, length-append, map_push}}
use Rattle.std.proofs.lemmas.List.Elements.{Contains-append_left, Contains-push, Contains-push_cases}
use Rattle.fst_types.specs.Dependencies.{IsLiveNumber}
use Rattle.fst_heads.specs.{Heads.{patches_of}, Indices.HasIndex, declared.head.Head.Head}
use Rattle.fst_heads.proofs.{Indices.{any_default}}
use Rattle.fst_walks.specs.Descending.{Visited, Visits}
use Rattle.fst_levels.specs.Walks.{Trail, Meets, number_at, numbers_met}
use Rattle.fst_levels.proofs.MetNumbers.{index_number, number_of_met}

-- nothing new
pub visits_none : (P : ℕ → Type 0) (queue : List ℕ) → ((n : ℕ) → P n → Contains queue n) → Visits P queue queue
visits_none P queue all = record { kept = ([], sym (append-nil queue)); only = λ n c. inl c; each = all }

-- one new
pub visits_one : (P : ℕ → Type 0) (queue : List ℕ) (n : ℕ) → P n → ((m : ℕ) → P m → m ≡ n) → Visits P queue (queue ++ n ∷ [])
visits_one P queue n here one = record {
  kept = (n ∷ [], refl);
  only = λ m c. elim (Contains-push_cases queue n m c) [ inl old ↦ inl old | inr e ↦ inr (subst P e here) ];
  each = λ m p. subst (Contains (queue ++ n ∷ [])) (sym (one m p)) (Contains-push queue n);
}

-- one index is met
module _ (heads : List Head) (n s : ℕ) (index : HasIndex heads n s) (old new : Trail) (m : Meets s old new) where
  pub visits_meet : (P : ℕ → Type 0) → P n → ((q : ℕ) → P q → q ≡ n) → Visits P (numbers_met heads old) (numbers_met heads new)
  visits_meet P here one =
      let before = numbers_met heads old in
      elim m.met [
        | inl k ↦
            subst (λ ms. Visits P before (map (number_at heads) ms)) (sym k.1)
            (visits_none P before (λ q p. subst (Contains before) (sym (one q p)) (number_of_met heads old n s index k.0)))
        | inr e ↦
            subst (λ ms. Visits P before (map (number_at heads) ms)) (sym e)
            (subst (Visits P before) (sym (map_push (number_at heads) old.met s ∙ ap (λ k. before ++ k ∷ []) (index_number heads n s index))) (visits_one P before n here one))
      ]

  pub visited_meet : IsLiveNumber (patches_of heads) n → Visited heads old → Visited heads new
  visited_meet live v =
      let more = visits_meet (λ q. q ≡ n) refl (λ q e. e) in
      record {
        long = m.long ∙ v.long;
        live = λ q c. elim (more.only q c) [ inl before ↦ v.live q before | inr e ↦ subst (IsLiveNumber (patches_of heads)) (sym e) live ];
      }

-- what stays in the queue
pub visits_old : (P : ℕ → Type 0) (old new : List ℕ) → Visits P old new → (n : ℕ) → Contains old n → Contains new n
visits_old P old new v n c = subst (λ q. Contains q n) (sym v.kept.1) (Contains-append_left old v.kept.0 n c)

-- and it is no shorter
pub visits_longer : (P : ℕ → Type 0) (old new : List ℕ) → Visits P old new → length old ≤ length new
visits_longer P old new v = omega (arith, ap length v.kept.1, length-append old v.kept.0)

-- those with P, then those with Q
pub visits_both : (P Q R : ℕ → Type 0) (old mid new : List ℕ) → ((n : ℕ) → R n → P n ⊎ Q n) → ((n : ℕ) → P n → R n) → ((n : ℕ) → Q n → R n) → Visits P old mid → Visits Q mid new → Visits R old new
visits_both P Q R old mid new parts left right v w = record {
  kept = (v.kept.0 ++ w.kept.0, w.kept.1 ∙ (ap (λ q. q ++ w.kept.0) v.kept.1 ∙ append_assoc old v.kept.0 w.kept.0));
  only = λ n c. elim (w.only n c) [
    | inl c ↦ elim (v.only n c) [ inl o ↦ inl o | inr p ↦ inr (left n p) ]
    | inr q ↦ inr (right n q)
  ];
  each = λ n r. elim (parts n r) [ inl p ↦ visits_old Q mid new w n (v.each n p) | inr q ↦ w.each n q ];
}

pub visits_same : (P Q : ℕ → Type 0) (old new : List ℕ) → ((n : ℕ) → P n → Q n) → ((n : ℕ) → Q n → P n) → Visits P old new → Visits Q old new
visits_same P Q old new to from v = record {
  kept = v.kept;
  only = λ n c. elim (v.only n c) [ inl o ↦ inl o | inr p ↦ inr (to n p) ];
  each = λ n q. v.each n (from n q);
}

-- of a list of numbers those with P, one after the other
pub visits_next : (P L : ℕ → Type 0) (done : List ℕ) (n : ℕ) (old mid new : List ℕ) → ((m : ℕ) → P m → L m) → (L n → P n) → Visits (λ m. Contains done m × P m) old mid → Visits (λ m. (m ≡ n) × L m) mid new → Visits (λ m. Contains (done ++ n ∷ []) m × P m) old new
visits_next P L done n old mid new to from v w =
    visits_both (λ m. Contains done m × P m) (λ m. (m ≡ n) × L m) (λ m. Contains (done ++ n ∷ []) m × P m) old mid new
    (λ m k. elim (Contains-push_cases done n m k.0) [ inl c ↦ inl (c, k.1) | inr e ↦ inr (sym e, to m k.1) ])
    (λ m k. (Contains-append_left done (n ∷ []) m k.0, k.1))
    (λ m k. (subst (Contains (done ++ n ∷ [])) (sym k.0) (Contains-push done n), subst P (sym k.0) (from (subst L k.0 k.1))))
    v w

-- what is visited besides has no Q, nor had what there was before
pub still_apart : (P Q : ℕ → Type 0) (old new : List ℕ) (from : ℕ) → Visits P old new → from ≡ length old → ((n : ℕ) → Contains old n → Q n → ⊥)
    → ((at : ℕ) → from ≤ at → at < length new → Q (get_or new at 0) → ⊥) → (n : ℕ) → Contains new n → Q n → ⊥
still_apart P Q old new from v begun apart fresh n here there = elim (cases_lt here.0 from) [
  | inl before ↦
      let lt : here.0 < length old = omega (arith, before, begun) in
      let same = sym (get_or_append_left old v.kept.0 n here.0 lt) ∙ (ap (λ q. get_or q here.0 n) (sym v.kept.1) ∙ here.2) in
      apart n (here.0, lt, same) there
  | inr after ↦
      let same = any_default new here.0 0 n here.1 ∙ here.2 in
      fresh here.0 after here.1 (subst Q (sym same) there)
]

-- what follows from two facts of the answer
pub some_both : {X : Type 0} (r : Option X) {P Q R : X → Type 0} → IfSome r P → IfSome r Q → ((x : X) → P x → Q x → R x) → IfSome r R
some_both None p q f = tt
some_both (Some x) p q f = f x p q

-- what follows from what is said where there is no answer
pub none_then : {X : Type 0} (r : Option X) {P Q : Type 0} → IfNone r P → (P → Q) → IfNone r Q
none_then None h f = f h
none_then (Some x) h f = tt

-- what follows where there is one
pub some_told : {X : Type 0} (r : Option X) {P : X → Type 0} {Q : Type 0} → IfSome r P → is_some r ≡ true → ((x : X) → P x → Q) → Q
some_told None h e f = absurd (false≢true e)
some_told (Some x) h e f = f x h

-- and what is said where there is none, if there is none
pub none_told : {X : Type 0} (r : Option X) {P : Type 0} → IfNone r P → is_some r ≡ false → P
none_told None h e = h
none_told (Some x) h e = absurd (false≢true (sym e))
