-- Of the bytes that are kept of changes, those of one stay where more are kept or others are dropped.
use Rattle.std.proofs.Common.{◌≡◌, ◌≢◌, ℕ, Bool, true, List, [], ◌∷◌, ◌++◌, filter, refl, ap, ◌∙◌, inl, inr, arith}
use Rattle.std.specs.Prelude.{◌==◌}
use Rattle.std.proofs.lemmas.Bool.{cases_Bool, eqb-true}
use Rattle.fst_types.specs.Patches.{Patch}
use Rattle.fst_types.specs.Tests.{has_number}
use Rattle.fst_types.specs.Bytes.{content_of}
use Rattle.fst_types.proofs.Finite.{In}

pub content_more : (es : List (ℕ × List ℕ)) (n m : ℕ) (bs : List ℕ) → n ≢ m → content_of (es ++ (n, bs) ∷ []) m ≡ content_of es m
content_more [] n m bs other =
    elim (cases_Bool (n == m)) [ inl same ↦ absurd (other (eqb-true n m same)) | inr no_match ↦ rw no_match refl ]
content_more (e ∷ es) n m bs other =
    elim (cases_Bool (e.0 == m)) [ inl same ↦ rw same refl | inr no_match ↦ rw no_match (content_more es n m bs other) ]

pub content_kept : (t : ℕ → Bool) (es : List (ℕ × List ℕ)) (m : ℕ) → t m ≡ true → content_of (filter (λ e. t e.0) es) m ≡ content_of es m
content_kept t [] m e = refl
content_kept t (x ∷ xs) m e =
    let rest = content_kept t xs m e in
    elim (cases_Bool (x.0 == m)) [
      | inl same ↦ let k : t x.0 ≡ true = ap t (eqb-true x.0 m same) ∙ e in rw (k, same) refl
      | inr no_match ↦ elim (cases_Bool (t x.0)) [ inl kept ↦ rw (kept, no_match) rest | inr gone ↦ rw (gone, no_match) rest ]
    ]

pub has_in : (heads : List Patch) (p : Patch) → In heads p → has_number heads p.number ≡ true
has_in [] p h = absurd h
has_in (x ∷ xs) p (inl e) = grind (arith, ap (λ y. y.number) e)
has_in (x ∷ xs) p (inr h) = grind (arith, has_in xs p h)
