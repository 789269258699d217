-- What a choice means for the patches one by one.
use Rattle.std.proofs.Common.{◌≡◌, ℕ, suc, ◌<◌, ◌≤◌, Bool, true, false, cond, List, [], ◌∷◌, map, filter, get_or, Contains, refl, sym, ap, subst, ◌∙◌, inl, inr, arith}
use Rattle.std.specs.Prelude.{◌==◌, ◌||◌}
use Rattle.std.specs.List.{AllPairs}
use Rattle.std.proofs.lemmas.Bool.{cases_Bool, cases_eq, eqb-true, false≢true}
use Rattle.std.proofs.lemmas.List.Elements.{All-contains}
use Rattle.std.proofs.lemmas.List.Kept.{AllPairs-from_increasing}
use Rattle.fst_types.specs.declared.number.PatchNo.{PatchNo}
use Rattle.fst_types.specs.declared.grade.Grade.{Grade}
use Rattle.fst_types.specs.declared.grade.Grade.TheVariants as grade
use Rattle.fst_types.specs.Tests.{is_among}
use Rattle.fst_types.proofs.Finite.{In, In-from_Contains, Contains-from_In}
use Rattle.fst_types.proofs.Issuing.{among_in, in_among}
use Rattle.fst_block.specs.BlockView.{BlockPatch}
use Rattle.fst_block.specs.Choices.{numbers_of, is_chosen, chosen_of, IsChoice}
use Rattle.fst_block.specs.Kept.{ArePlaced}
use Rattle.fst_block.proofs.Apart.{NoneShares}
use Rattle.fst_block.proofs.Undo.{IsClosed}

-- the numbers rise, from least on
abbrev Rises : ℕ → List ℕ → Type 0
Rises least [] = Unit {0}
Rises least (n ∷ ns) = (least ≤ n) × Rises (suc n) ns

rises_above : (least : ℕ) (ns : List ℕ) → Rises least ns → (m : ℕ) → In ns m → least ≤ m
rises_above least [] r m h = absurd h
rises_above least (n ∷ ns) r m (inl e) = omega (arith, r.0, e)
rises_above least (n ∷ ns) r m (inr h) = omega (arith, r.0, rises_above (suc n) ns r.1 m h)

Rises-from_increasing : (least : ℕ) (ns : List ℕ) → ((m : ℕ) → In ns m → least ≤ m) → AllPairs (λ x y. x < y) ns → Rises least ns
Rises-from_increasing least [] low pairs = tt
Rises-from_increasing least (n ∷ ns) low pairs =
    (low n (inl refl), Rises-from_increasing (suc n) ns (λ m h. let at = Contains-from_In ns m h in let below : n < get_or ns at.0 m = pairs 0 (suc at.0) m (omega arith) (omega (arith, at.1)) in omega (arith, at.2, below)) (λ i j d h k. pairs (suc i) (suc j) d (omega arith) (omega arith)))

not_among : (cs : List ℕ) (n : ℕ) → (In cs n → ⊥) → is_among cs n ≡ false
not_among cs n away =
    elim (cases_Bool (is_among cs n)) [ inl e ↦ absurd (away (among_in cs n e)) | inr e ↦ e ]

-- a test that agrees on the elements keeps the same
filter_same : (p q : ℕ → Bool) (ns : List ℕ) → ((n : ℕ) → In ns n → p n ≡ q n) → filter p ns ≡ filter q ns
filter_same p q [] same = refl
filter_same p q (n ∷ ns) same =
    ap (λ b. cond b (n ∷ filter p ns) (filter p ns)) (same n (inl refl)) ∙ ap (λ xs. cond (q n) (n ∷ xs) xs) (filter_same p q ns (λ m h. same m (inr h)))

other_first : (c m : ℕ) (cs : List ℕ) → (c ≡ m → ⊥) → is_among (c ∷ cs) m ≡ is_among cs m
other_first c m cs other =
    elim (cases_Bool (c == m)) [ inl e ↦ absurd (other (eqb-true c m e)) | inr e ↦ ap (λ b. b || is_among cs m) e ]

none_among : (ns : List ℕ) → filter (is_among []) ns ≡ []
none_among [] = refl
none_among (n ∷ ns) = none_among ns

-- rising numbers of a rising list are what a test for them keeps of it
kept_are : (low least : ℕ) (cs ns : List ℕ) → Rises low cs → Rises least ns → ((n : ℕ) → In cs n → In ns n) → filter (is_among cs) ns ≡ cs
kept_are low least [] ns rc rn known = none_among ns
kept_are low least (c ∷ cs) [] rc rn known = absurd (known c (inl refl))
kept_are low least (c ∷ cs) (n ∷ ns) rc rn known =
    elim (cases_eq c n) [
      | inl e ↦
          ap (λ b. cond b (n ∷ filter (is_among (c ∷ cs)) ns) (filter (is_among (c ∷ cs)) ns)) (in_among (c ∷ cs) n (inl e))
          ∙ (ap (λ xs. n ∷ xs) (filter_same (is_among (c ∷ cs)) (is_among cs) ns (λ m h. other_first c m cs (λ same. absurd (omega (arith, e, same, rises_above (suc n) ns rn.1 m h)))))
          ∙ (ap (λ xs. n ∷ xs) (kept_are (suc c) (suc n) cs ns rc.1 rn.1 (λ m h. elim (known m (inr h)) [ inl same ↦ absurd (omega (arith, e, same, rises_above (suc c) cs rc.1 m h)) | inr k ↦ k ]))
          ∙ ap (λ m. m ∷ cs) (sym e)))
      | inr other ↦
          let later : suc n ≤ c = elim (known c (inl refl)) [ inl same ↦ absurd (other (sym same)) | inr k ↦ rises_above (suc n) ns rn.1 c k ] in
          let above = λ (m : ℕ) (h : In (c ∷ cs) m). rises_above c (c ∷ cs) (omega arith, rc.1) m h in
          ap (λ b. cond b (n ∷ filter (is_among (c ∷ cs)) ns) (filter (is_among (c ∷ cs)) ns)) (not_among (c ∷ cs) n (λ h. absurd (omega (arith, later, above n h))))
          ∙ kept_are low (suc n) (c ∷ cs) ns rc rn.1 (λ m h. elim (known m h) [ inl same ↦ absurd (omega (arith, later, same, above m h)) | inr k ↦ k ])
    ]

numbers_filter : (cs : List ℕ) (ps : List BlockPatch) → map (λ p. p.number) (filter (λ p. is_among cs p.number) ps) ≡ filter (is_among cs) (map (λ p. p.number) ps)
numbers_filter cs [] = refl
numbers_filter cs (p ∷ ps) =
    let rest = numbers_filter cs ps in
    elim (is_among cs p.number) as (λ b. map (λ q. q.number) (cond b (p ∷ filter (λ q. is_among cs q.number) ps) (filter (λ q. is_among cs q.number) ps)) ≡ cond b (p.number ∷ filter (is_among cs) (map (λ q. q.number) ps)) (filter (is_among cs) (map (λ q. q.number) ps))) [
      | true ↦ ap (λ ns. p.number ∷ ns) rest
      | false ↦ rest
    ]

placed_rise : (n least : ℕ) (ps : List BlockPatch) → ArePlaced n least ps → Rises least (map (λ p. p.number) ps)
placed_rise n least [] placed = tt
placed_rise n least (p ∷ ps) placed = (placed.0.in_order, placed_rise n (suc p.number) ps placed.1)

placed_above : (n least : ℕ) (ps : List BlockPatch) → ArePlaced n least ps → (q : BlockPatch) → In ps q → least ≤ q.number
placed_above n least [] placed q h = absurd h
placed_above n least (p ∷ ps) placed q (inl e) = omega (arith, placed.0.in_order, ap (λ r. r.number) e)
placed_above n least (p ∷ ps) placed q (inr h) = omega (arith, placed.0.in_order, placed_above n (suc p.number) ps placed.1 q h)

-- the chosen numbers are those of the chosen patches, in their order
pub meets_in_order : (n least : ℕ) (ps : List BlockPatch) (chosen : List PatchNo) → ArePlaced n least ps → IsChoice ps chosen → numbers_of chosen ≡ map (λ p. p.number) (chosen_of chosen ps)
meets_in_order n least ps chosen placed choice =
    let cs = numbers_of chosen in
    sym (numbers_filter cs ps ∙ kept_are 0 least cs (map (λ p. p.number) ps) (Rises-from_increasing 0 cs (λ m h. omega arith) (AllPairs-from_increasing cs choice.rising)) (placed_rise n least ps placed)
    (λ m h. In-from_Contains (map (λ p. p.number) ps) m (All-contains (Contains (map (λ p. p.number) ps)) cs m choice.known (Contains-from_In cs m h))))

In-filter : (t : BlockPatch → Bool) (ps : List BlockPatch) (q : BlockPatch) → In (filter t ps) q → In ps q × (t q ≡ true)
In-filter t [] q h = absurd h
In-filter t (p ∷ ps) q h = kept (In-filter t ps q) (t p) refl h
  where
    kept : (In (filter t ps) q → In ps q × (t q ≡ true)) → (b : Bool) → t p ≡ b → In (cond b (p ∷ filter t ps) (filter t ps)) q → In (p ∷ ps) q × (t q ≡ true)
    kept below true e (inl same) = (inl same, subst (λ r. t r ≡ true) same e)
    kept below true e (inr k) = let rest = below k in (inr rest.0, rest.1)
    kept below false e k = let rest = below k in (inr rest.0, rest.1)

module _ (all : List BlockPatch) (chosen : List PatchNo) (choice : IsChoice all chosen) where
  left_not_in : (p : BlockPatch) → is_chosen chosen p ≡ false → Contains (numbers_of chosen) p.number → ⊥
  left_not_in p stays h = false≢true (sym stays ∙ in_among (numbers_of chosen) p.number (In-from_Contains (numbers_of chosen) p.number h))

  soft_left : (p : BlockPatch) → In all p → is_chosen chosen p ≡ false → p.grade ≡ grade.Soft
  soft_left p h stays = soft p.grade refl
    where
      soft : (g : Grade) → p.grade ≡ g → p.grade ≡ grade.Soft
      soft grade.Soft e = e
      soft grade.Hard e = absurd (left_not_in p stays (choice.hard p (Contains-from_In all p h) e))

  none_shares : (p : BlockPatch) → In all p → is_chosen chosen p ≡ false → (qs : List BlockPatch) → ((q : BlockPatch) → In qs q → In all q × (is_chosen chosen q ≡ true) × (p.number < q.number)) → NoneShares p qs
  none_shares p h stays [] sound = tt
  none_shares p h stays (q ∷ qs) sound =
      let first = sound q (inl refl) in (
        λ shares. left_not_in p stays (choice.earlier p q (Contains-from_In all p h) (Contains-from_In all q first.0) (Contains-from_In (numbers_of chosen) q.number (among_in (numbers_of chosen) q.number first.1)) first.2 shares),
        none_shares p h stays qs (λ r k. sound r (inr k)),
      )

  -- what is left out is soft, and shares no byte with a later patch that is chosen
  pub closed_from : (n least : ℕ) (ps : List BlockPatch) → ((q : BlockPatch) → In ps q → In all q) → ArePlaced n least ps → IsClosed (is_chosen chosen) ps
  closed_from n least [] among placed = tt
  closed_from n least (p ∷ ps) among placed = (
    λ stays. (
      soft_left p (among p (inl refl)) stays,
      none_shares p (among p (inl refl)) stays (chosen_of chosen ps) (λ q h. let kept = In-filter (is_chosen chosen) ps q h in (among q (inr kept.0), kept.1, placed_above n (suc p.number) ps placed.1 q kept.0)),
    ),
    closed_from n (suc p.number) ps (λ q h. among q (inr h)) placed.1,
  )

-- what a choice says of a block's patches
pub choice_is_closed : (n : ℕ) (ps : List BlockPatch) (chosen : List PatchNo) → ArePlaced n 0 ps → IsChoice ps chosen → IsClosed (is_chosen chosen) ps
choice_is_closed n ps chosen placed choice = closed_from ps chosen choice n 0 ps (λ q h. h) placed
