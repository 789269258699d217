-- What is kept under numbers that no rank has, and a rank that is put at another level.
use Rattle.std.proofs.Common.{◌≡◌, ◌≢◌, ◌<◌, ℕ, zero, suc, List, [], ◌∷◌, length, map, get_or, set, subst, sym, ◌∙◌, arith, All, AllPairs, refl, eqb, eq-eqb, ne_eqb, inl, inr}
use Rattle.std.proofs.lemmas.Bool.{cases_Bool}
use Rattle.std.proofs.lemmas.List.{Elements.All-tail}
use Rattle.fst_levels.specs.{Leveling.{AreRanked, kept_under}, declared.levels.Rank.Rank}
use Rattle.fst_heads.proofs.Indices.{rising_back, rising_map}
use Rattle.fst_levels.proofs.Ranked.{number_of}

-- ranks with the same numbers rise too
pub ranked_as : (old new : List Rank) → map (λ r. r.number) new ≡ map (λ r. r.number) old → AreRanked old → AreRanked new
ranked_as old new same rising =
    rising_back number_of new number_of (λ n. n) (λ r. refl) (subst (λ (xs : List ℕ). AllPairs (λ a b. a < b) xs) (sym same) (rising_map number_of old number_of (λ n. n) (λ r. refl) rising))

ranked_rest : (r : Rank) (rs : List Rank) → AreRanked (r ∷ rs) → AreRanked rs
ranked_rest r rs rising i j d lt inside = rising (suc i) (suc j) d (omega (arith, lt)) (omega (arith, inside))

-- another rank with the same number at the index
module _ (kept : Rank → ℕ) (new : Rank) where
  -- under its number is kept what it has
  pub kept_here : (ranks : List Rank) (s : ℕ) (d : Rank) → AreRanked ranks → s < length ranks → (get_or ranks s d).number ≡ new.number → kept_under kept (set ranks s new) (get_or ranks s d).number ≡ kept new
  kept_here [] s d rising lt same = absurd (omega (arith, lt))
  kept_here (r ∷ rs) zero d rising lt same = rw (eq-eqb new.number r.number (sym same)) refl
  kept_here (r ∷ rs) (suc s) d rising lt same =
      rw (ne_eqb r.number (get_or rs s d).number (λ e. let k = rising 0 (suc s) d (omega arith) (omega (arith, lt)) in omega (arith, k, e)))
      (kept_here rs s d (ranked_rest r rs rising) (omega (arith, lt)) same)

  -- and under another what was kept
  pub kept_beside : (ranks : List Rank) (s : ℕ) (d : Rank) (n : ℕ) → (get_or ranks s d).number ≡ new.number → n ≢ (get_or ranks s d).number → kept_under kept (set ranks s new) n ≡ kept_under kept ranks n
  kept_beside [] s d n same other = refl
  kept_beside (r ∷ rs) zero d n same other =
      let e = ne_eqb r.number n (λ e. other (sym e)) in
      let f = ne_eqb new.number n (λ e. other (sym (same ∙ e))) in
      rw (e, f) refl
  kept_beside (r ∷ rs) (suc s) d n same other = elim (cases_Bool (eqb r.number n)) [
    | inl here ↦ rw here refl
    | inr away ↦ rw away (kept_beside rs s d n same other)
  ]

-- ranks with the same numbers, and alike in something, have the same of it under each number
module _ {X : Type 0} (part : Rank → X) (of : X → ℕ) where
  pub kept_as : (old new : List Rank) → map (λ r. r.number) new ≡ map (λ r. r.number) old → map part new ≡ map part old → (n : ℕ) → kept_under (λ r. of (part r)) new n ≡ kept_under (λ r. of (part r)) old n
  kept_as [] [] numbers parts n = refl
  kept_as [] (r ∷ rs) numbers parts n = absurd (cc)
  kept_as (q ∷ qs) [] numbers parts n = absurd (cc)
  kept_as (q ∷ qs) (r ∷ rs) numbers parts n =
      let same : r.number ≡ q.number = cc in
      let own : part r ≡ part q = cc in
      let rest : map (λ (x : Rank). x.number) rs ≡ map (λ (x : Rank). x.number) qs = cc in
      let all : map part rs ≡ map part qs = cc in
      rw (own, same, kept_as qs rs rest all n) refl

-- under a number that no rank has nothing is kept
pub kept_none : (kept : Rank → ℕ) (ranks : List Rank) (n : ℕ) → All (λ r. r.number ≢ n) ranks → kept_under kept ranks n ≡ 0
kept_none kept [] n none = refl
kept_none kept (r ∷ rs) n none = rw (ne_eqb r.number n (none 0 r (omega arith))) (kept_none kept rs n (All-tail (λ x. x.number ≢ n) r rs none))
