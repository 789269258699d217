-- The chosen numbers are met in the order of the patches.
use Rattle.std.proofs.Common.{◌≡◌, ℕ, zero, suc, ◌-◌, ◌<◌, ◌≤◌, true, false, List, [], ◌∷◌, ◌++◌, length, take, drop, get_or, map, Some, refl, sym, ap, ◌∙◌, arith, inl, inr, add-one, sub-one}
use Rattle.std.specs.Prelude.{slice_get}
use Rattle.std.proofs.lemmas.Bool.{cases_Bool}
use Rattle.std.proofs.lemmas.List.{map-append, append-nil, take_more, same_from_push}
use Rattle.std.proofs.lemmas.Option.{slice_get-get_or}
use Rattle.std.proofs.lemmas.List.Elements.{filter-append}
use Rattle.fst_types.specs.declared.number.PatchNo.{PatchNo}
use Rattle.fst_types.proofs.Finite.{In}
use Rattle.fst_types.proofs.Issuing.{in_among}
use Rattle.fst_block.specs.BlockView.{BlockPatch}
use Rattle.fst_block.specs.Choices.{numbers_of, is_chosen, chosen_of}
use Rattle.fst_block.specs.Reverts.{Entry, patches_of}

-- the numbers of the chosen patches
abbrev pub chosen_numbers : List PatchNo → List Entry → List ℕ
chosen_numbers chosen es = map (λ p. p.number) (chosen_of chosen (patches_of es))

In_at : (ns : List ℕ) (i n : ℕ) → slice_get ns i ≡ Some n → In ns n
In_at [] i n e = let wrong : ⊥ = cc in absurd wrong
In_at (m ∷ ns) zero n e = inl cc
In_at (m ∷ ns) (suc i) n e = inr (In_at ns i n e)

-- what stands at an index of the chosen numbers is chosen
pub chosen_at : (chosen : List PatchNo) (i : ℕ) (p : BlockPatch) → slice_get (numbers_of chosen) i ≡ Some p.number → is_chosen chosen p ≡ true
chosen_at chosen i p e = in_among (numbers_of chosen) p.number (In_at (numbers_of chosen) i p.number e)

slice_get-drop : (ns : List ℕ) (i n : ℕ) (rest : List ℕ) → drop i ns ≡ n ∷ rest → slice_get ns i ≡ Some n
slice_get-drop [] zero n rest e = let wrong : ⊥ = cc in absurd wrong
slice_get-drop [] (suc i) n rest e = let wrong : ⊥ = cc in absurd wrong
slice_get-drop (m ∷ ns) zero n rest e = cc
slice_get-drop (m ∷ ns) (suc i) n rest e = slice_get-drop ns i n rest e

drop_next : (ns : List ℕ) (i n : ℕ) (rest : List ℕ) → drop i ns ≡ n ∷ rest → drop (suc i) ns ≡ rest
drop_next [] zero n rest e = let wrong : ⊥ = cc in absurd wrong
drop_next [] (suc i) n rest e = let wrong : ⊥ = cc in absurd wrong
drop_next (m ∷ ns) zero n rest e = cc
drop_next (m ∷ ns) (suc i) n rest e = drop_next ns i n rest e

-- the last of the first numbers
last_taken : (ns : List ℕ) (i n : ℕ) (xs : List ℕ) → suc i ≤ length ns → take (suc i) ns ≡ xs ++ n ∷ [] → (slice_get ns i ≡ Some n) × (take i ns ≡ xs)
last_taken ns i n xs h e =
    let one_more = take_more ns i 0 (omega arith) in
    let parts = same_from_push (take i ns) xs (get_or ns i 0) n (sym one_more ∙ (ap (λ j. take j ns) (add-one i) ∙ e)) in
    (slice_get-get_or ns i 0 (omega arith) ∙ ap Some parts.1, parts.0)

module _ (chosen : List PatchNo) (e : Entry) (es : List Entry) where
  pub numbers_chosen : is_chosen chosen e.0 ≡ true → chosen_numbers chosen (e ∷ es) ≡ e.0.number ∷ chosen_numbers chosen es
  numbers_chosen h = rw h refl

  pub numbers_left : is_chosen chosen e.0 ≡ false → chosen_numbers chosen (e ∷ es) ≡ chosen_numbers chosen es
  numbers_left h = rw h refl

  pub numbers_push_chosen : is_chosen chosen e.0 ≡ true → chosen_numbers chosen (es ++ e ∷ []) ≡ chosen_numbers chosen es ++ e.0.number ∷ []
  numbers_push_chosen h = rw (map-append, filter-append, map-append, h) refl

  pub numbers_push_left : is_chosen chosen e.0 ≡ false → chosen_numbers chosen (es ++ e ∷ []) ≡ chosen_numbers chosen es
  numbers_push_left h = rw (map-append, filter-append, h, append-nil) refl

  -- the walk from the front has the patch before it that the next number names
  pub is_chosen_next : (i : ℕ) → drop i (numbers_of chosen) ≡ chosen_numbers chosen (e ∷ es) → slice_get (numbers_of chosen) i ≡ Some e.0.number
      → (is_chosen chosen e.0 ≡ true) × (drop (suc i) (numbers_of chosen) ≡ chosen_numbers chosen es)
  is_chosen_next i m h =
      let yes = chosen_at chosen i e.0 h in
      (yes, drop_next (numbers_of chosen) i e.0.number (chosen_numbers chosen es) (m ∙ numbers_chosen yes))

  -- the next number names another
  pub is_left_next : (i : ℕ) → drop i (numbers_of chosen) ≡ chosen_numbers chosen (e ∷ es) → (slice_get (numbers_of chosen) i ≡ Some e.0.number → ⊥)
      → (is_chosen chosen e.0 ≡ false) × (drop i (numbers_of chosen) ≡ chosen_numbers chosen es)
  is_left_next i m other =
      elim (cases_Bool (is_chosen chosen e.0)) [
        | inl taken ↦ absurd (other (slice_get-drop (numbers_of chosen) i e.0.number (chosen_numbers chosen es) (m ∙ numbers_chosen taken)))
        | inr not_taken ↦ (not_taken, m ∙ numbers_left not_taken)
      ]

  -- the walk from the back has the patch before it that the last number to meet names
  pub is_chosen_last : (i : ℕ) → suc i ≤ length (numbers_of chosen) → take (suc i) (numbers_of chosen) ≡ chosen_numbers chosen (es ++ e ∷ []) → slice_get (numbers_of chosen) i ≡ Some e.0.number
      → (is_chosen chosen e.0 ≡ true) × (take i (numbers_of chosen) ≡ chosen_numbers chosen es)
  is_chosen_last i h m there =
      let yes = chosen_at chosen i e.0 there in
      (yes, (last_taken (numbers_of chosen) i e.0.number (chosen_numbers chosen es) h (m ∙ numbers_push_chosen yes)).1)

  -- the last number to meet names another, or there is none
  pub is_left_last : (n : ℕ) → n ≤ length (numbers_of chosen) → take n (numbers_of chosen) ≡ chosen_numbers chosen (es ++ e ∷ []) → (0 < n → slice_get (numbers_of chosen) (n - 1) ≡ Some e.0.number → ⊥)
      → (is_chosen chosen e.0 ≡ false) × (take n (numbers_of chosen) ≡ chosen_numbers chosen es)
  is_left_last n h m other =
      elim (cases_Bool (is_chosen chosen e.0)) [
        | inl taken ↦ absurd (never n h other (m ∙ numbers_push_chosen taken))
        | inr not_taken ↦ (not_taken, m ∙ numbers_push_left not_taken)
      ]
    where
      no_end : (xs : List ℕ) → [] ≡ xs ++ e.0.number ∷ [] → ⊥
      no_end [] m = cc
      no_end (x ∷ xs) m = cc

      never : (n : ℕ) → n ≤ length (numbers_of chosen) → (0 < n → slice_get (numbers_of chosen) (n - 1) ≡ Some e.0.number → ⊥) → take n (numbers_of chosen) ≡ chosen_numbers chosen es ++ e.0.number ∷ [] → ⊥
      never zero h other m = no_end (chosen_numbers chosen es) m
      never (suc i) h other m = other (omega arith) (rw sub-one ((last_taken (numbers_of chosen) i e.0.number (chosen_numbers chosen es) h m).0))
