-- What is kept under a number: at a head's index, and where a rank is added.
use Rattle.std.proofs.Common.{◌≡◌, ◌≢◌, ◌<◌, ◌++◌, ◌∷◌, [], ℕ, zero, suc, Option, Some, None, IfSome, IfNone, List, map, length, get_or, All, AllPairs, Contains, refl, sym, ap, subst, ◌∙◌, inl, inr, arith, eq-eqb, ne_eqb}
use Rattle.std.proofs.lemmas.{Bool.{cases_eq}, List.{length-map, get_or-map}}
use Rattle.fst_types.specs.Patches.{Patch}
use Rattle.fst_types.proofs.Finite.{In, Contains-from_In}
use Rattle.fst_heads.specs.{declared.head.Head.Head, Heads.{IsRising, patch_of, patches_of}, Indices.{HasIndex, HasNone}}
use Rattle.fst_heads.proofs.Indices.{some_element, rising_map, rising_back, index_here}
use Rattle.fst_levels.specs.{Leveling.{AreRanked, kept_under, level_of, no_ancestry}, declared.levels.Rank.Rank}

-- the number of a rank
abbrev pub number_of : Rank → ℕ
number_of r = r.number

-- what stands for a rank where there is none
abbrev pub no_rank : Rank
no_rank = record { number = 0; level = 0; ancestry = no_ancestry; hard_over = 0 }

-- what is kept of a rank
module _ (kept : Rank → ℕ) where
  -- one rank more: under another number the same is kept
  pub kept_other : (ranks : List Rank) (r : Rank) (n : ℕ) → n ≢ r.number → kept_under kept (ranks ++ r ∷ []) n ≡ kept_under kept ranks n
  kept_other [] r n other = rw (ne_eqb r.number n (λ e. other (sym e))) refl
  kept_other (x ∷ xs) r n other = elim (cases_eq x.number n) [
    | inl e ↦ rw (eq-eqb x.number n e) refl
    | inr o ↦ rw (ne_eqb x.number n o) (kept_other xs r n other)
  ]

  -- and under a new number what came with it
  kept_pushed : (ranks : List Rank) (r : Rank) → (In (map number_of ranks) r.number → ⊥) → kept_under kept (ranks ++ r ∷ []) r.number ≡ kept r
  kept_pushed [] r none = rw (eq-eqb r.number r.number refl) refl
  kept_pushed (x ∷ xs) r none = rw (ne_eqb x.number r.number (λ e. none (inl e))) (kept_pushed xs r (λ h. none (inr h)))

  -- said likewise
  pub kept_new : (ranks : List Rank) (r : Rank) → (Contains (map (λ x. x.number) ranks) r.number → ⊥) → kept_under kept (ranks ++ r ∷ []) r.number ≡ kept r
  kept_new ranks r none = kept_pushed ranks r (λ h. none (Contains-from_In (map number_of ranks) r.number h))

  -- ranks whose numbers rise
  kept_rising : (ranks : List Rank) → AllPairs (λ x y. x.number < y.number) ranks → (index : ℕ) → index < length ranks → (d : Rank) → kept_under kept ranks (get_or ranks index d).number ≡ kept (get_or ranks index d)
  kept_rising [] rising index lt d = absurd (omega (arith, lt))
  kept_rising (x ∷ xs) rising zero lt d = rw (eq-eqb x.number x.number refl) refl
  kept_rising (x ∷ xs) rising (suc index) lt d =
      let apart = rising 0 (suc index) d (omega arith) lt in
      rw (ne_eqb x.number (get_or xs index d).number (λ e. omega (arith, apart, e))) (kept_rising xs (λ i j e l b. rising (suc i) (suc j) e (omega (arith, l)) (omega (arith, b))) index (omega (arith, lt)) d)

  -- what a rank has that was found by its number
  pub kept_found : (ranks : List Rank) → AreRanked ranks → (index n : ℕ) → index < length ranks → ((d : Rank) → (get_or ranks index d).number ≡ n) → (r : Rank) → r ≡ get_or ranks index r → kept r ≡ kept_under kept ranks n
  kept_found ranks rising index n inside found r is = ap kept is ∙ (sym (kept_rising ranks rising index inside r) ∙ ap (kept_under kept ranks) (found r))

-- ranks that stand in the order of the heads
module _ (heads : List Head) (ranks : List Rank) (rising : IsRising heads) (aligned : map (λ r. r.number) ranks ≡ map (λ p. p.number) (patches_of heads)) where
  numbers_rise : AllPairs (λ a b. a < b) (map number_of ranks)
  numbers_rise = subst (λ (xs : List ℕ). AllPairs (λ a b. a < b) xs) (sym aligned)
      (rising_map (λ (p : Patch). p.number) (patches_of heads) (λ p. p.number) (λ n. n) (λ p. refl) (rising_map patch_of heads (λ h. h.number) (λ p. p.number) (λ h. refl) rising))

  -- their numbers rise
  pub ranks_rise : AllPairs (λ x y. x.number < y.number) ranks
  ranks_rise = rising_back number_of ranks number_of (λ n. n) (λ r. refl) numbers_rise

  -- there are as many
  pub ranks_long : length ranks ≡ length heads
  ranks_long = sym (length-map ranks number_of) ∙ (ap length aligned ∙ (length-map (patches_of heads) (λ p. p.number) ∙ length-map heads patch_of))

  -- there is a rank at a head's index, with its number
  module _ (n index : ℕ) (at : HasIndex heads n index) where
    pub index_ranked : index < length ranks
    index_ranked = omega (arith, ranks_long, at.0)

    pub rank_number : (d : Rank) → (get_or ranks index d).number ≡ n
    rank_number d =
        let h = some_element heads index at.0 in
        let within : index < length (patches_of heads) = omega (arith, at.0, length-map heads patch_of) in
        sym (get_or-map number_of ranks index d 0 index_ranked)
        ∙ (ap (λ xs. get_or xs index 0) aligned
        ∙ (get_or-map (λ (p : Patch). p.number) (patches_of heads) index (patch_of h) 0 within
        ∙ (ap (λ (p : Patch). p.number) (get_or-map patch_of heads index h (patch_of h) at.0) ∙ at.1 h)))

    -- what is kept at the index is what is under the number
    pub rank_kept : (kept : Rank → ℕ) (d : Rank) → kept (get_or ranks index d) ≡ kept_under kept ranks n
    rank_kept kept d = sym (kept_rising kept ranks ranks_rise index index_ranked d) ∙ ap (kept_under kept ranks) (rank_number d)

    pub rank_level : (d : Rank) → (get_or ranks index d).level ≡ level_of ranks n
    rank_level = rank_kept (λ r. r.level)

  -- the head at a rank's index has its number
  pub ranked_index : (n index : ℕ) → index < length ranks → ((d : Rank) → (get_or ranks index d).number ≡ n) → HasIndex heads n index
  ranked_index n index lt is =
      let inside : index < length heads = omega (arith, lt, ranks_long) in
      (inside, λ d. sym (rank_number (get_or heads index d).number index (index_here heads index d inside) no_rank) ∙ is no_rank)

  -- no head has a number that no rank has
  pub ranked_none : (n : ℕ) → All (λ r. r.number ≢ n) ranks → HasNone heads n
  ranked_none n none k d lt same =
      let at : HasIndex heads n k = subst (λ m. HasIndex heads m k) same (index_here heads k d lt) in
      none k no_rank (index_ranked n k at) (rank_number n k at no_rank)

  -- what is found among the ranks is found among the heads
  pub ranked_found : (n : ℕ) (r : Option ℕ) → IfSome r (λ index. (index < length ranks) × ((d : Rank) → (get_or ranks index d).number ≡ n)) → IfSome r (HasIndex heads n)
  ranked_found n (Some index) found = ranked_index n index found.0 found.1
  ranked_found n None found = tt

  pub ranked_missing : (n : ℕ) (r : Option ℕ) → IfNone r (All (λ r. r.number ≢ n) ranks) → IfNone r (HasNone heads n)
  ranked_missing n (Some index) none = tt
  ranked_missing n None none = ranked_none n none
