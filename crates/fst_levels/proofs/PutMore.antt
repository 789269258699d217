-- What a block needs grows by one number and by a row.
use Rattle.std.proofs.Common.{◌≡◌, ◌≢◌, ◌⊎◌, ◌++◌, ◌∷◌, ◌∙◌, [], ℕ, List, length, Contains, refl, sym, subst, inl, inr}
use Rattle.std.proofs.lemmas.List.Elements.{Contains-push_cases, Contains-push, Contains-append_left}
use Rattle.fst_types.specs.{Patches.Patch}
use Rattle.fst_types.specs.declared.grade.Grade.{Grade}
use Rattle.fst_types.specs.declared.grade.Grade.TheVariants as grade
use Rattle.std.specs.Global.{Vec}
use Rattle.fst_levels.specs.{Needing.{IsAtOrUnder, IsBesides, IsPut, IsSpared, needs_of}}
use Rattle.fst_types.proofs.SmallStates.{only_in}

-- the numbers of what a block needs
abbrev pub numbers_in : Vec ℕ → List ℕ
numbers_in needs = needs.items

-- what is spared beside a row is so beside a longer one
pub spared_longer : {patches : List Patch} {b q : ℕ} {row longer : List ℕ} → ((n : ℕ) → Contains row n → Contains longer n) → IsSpared patches b row q → IsSpared patches b longer q
spared_longer more (inl s) = inl (record { at = s.at; block = s.block; hard = s.hard; by = elim s.by [ inl own ↦ inl own | inr n ↦ inr (n.0, more n.0 n.1, n.2) ] })
spared_longer more (inr on) = inr on

-- and what is at or under a row is so of a longer one
pub under_longer : {patches : List Patch} (row longer : List ℕ) (n : ℕ) → ((k : ℕ) → Contains row k → Contains longer k) → IsAtOrUnder patches row n → IsAtOrUnder patches longer n
under_longer row longer n more (inl c) = inl (more n c)
under_longer row longer n more (inr t) = inr (t.0, more t.0 t.1, t.2)

module _ (patches : List Patch) (b : ℕ) where
  -- one number that is there, or spared
  pub put_told : (n : ℕ) (lists : List (List ℕ)) → Contains (needs_of lists b) n ⊎ IsSpared patches b (needs_of lists b) n → IsPut patches b (n ∷ []) grade.Hard lists lists
  put_told n lists told = record {
    long = refl;
    others = λ c other. refl;
    kept = λ m k. k;
    only = λ m k. inl k;
    told = λ hard q k. subst (λ m. Contains (needs_of lists b) m ⊎ IsSpared patches b (needs_of lists b) m) (only_in n q k) told;
  }

  -- one number that joins the list
  pub put_joins : (n : ℕ) (old new : List (List ℕ)) → length new ≡ length old → ((c : ℕ) → c ≢ b → needs_of new c ≡ needs_of old c) → needs_of new b ≡ needs_of old b ++ n ∷ [] → IsPut patches b (n ∷ []) grade.Hard old new
  put_joins n old new long others grown = record {
    long = long;
    others = others;
    kept = λ m k. subst (λ ns. Contains ns m) (sym grown) (Contains-append_left (needs_of old b) (n ∷ []) m k);
    only = λ m k. elim (Contains-push_cases (needs_of old b) n m (subst (λ ns. Contains ns m) grown k)) [
      | inl was ↦ inl was
      | inr e ↦ inr (refl, inl (subst (Contains (n ∷ [])) e (Contains-push [] n)))
    ];
    told = λ hard q k. inl (subst (λ ns. Contains ns q) (sym grown) (subst (Contains (needs_of old b ++ n ∷ [])) (only_in n q k) (Contains-push (needs_of old b) n)));
  }

  -- a row, and one number more
  pub put_more : (row : List ℕ) (n : ℕ) (old mid new : List (List ℕ)) → IsPut patches b row grade.Hard old mid → IsPut patches b (n ∷ []) grade.Hard mid new → IsPut patches b (row ++ n ∷ []) grade.Hard old new
  put_more row n old mid new A B = record {
    long = B.long ∙ A.long;
    others = λ c other. B.others c other ∙ A.others c other;
    kept = λ m k. B.kept m (A.kept m k);
    only = λ m k. elim (B.only m k) [
      | inl was ↦ elim (A.only m was) [ inl older ↦ inl older | inr here ↦ inr (refl, under_longer row (row ++ n ∷ []) m (λ k c. Contains-append_left row (n ∷ []) k c) here.1) ]
      | inr here ↦ inr (refl, under_longer (n ∷ []) (row ++ n ∷ []) m (λ k c. subst (Contains (row ++ n ∷ [])) (only_in n k c) (Contains-push row n)) here.1)
    ];
    told = λ hard q k. elim (Contains-push_cases row n q k) [
      | inl was ↦ elim (A.told refl q was) [ inl c ↦ inl (B.kept q c) | inr s ↦ inr (spared_longer B.kept s) ]
      | inr e ↦ B.told refl q (subst (Contains (n ∷ [])) e (Contains-push [] n))
    ];
  }

  -- a row, and besides what is at or under it
  pub put_besides : (row : List ℕ) (g : Grade) → g ≡ grade.Hard → (old mid new : List (List ℕ)) → IsPut patches b row g old mid → IsBesides b (IsAtOrUnder patches row) mid new → IsPut patches b row g old new
  put_besides row g is old mid new A B = record {
    long = B.long ∙ A.long;
    others = λ c other. B.others c other ∙ A.others c other;
    kept = λ m k. B.kept m (A.kept m k);
    only = λ m k. elim (B.only m k) [ inl was ↦ A.only m was | inr under ↦ inr (is, under) ];
    told = λ hard q k. elim (A.told hard q k) [ inl c ↦ inl (B.kept q c) | inr s ↦ inr (spared_longer B.kept s) ];
  }
