-- One step of the walk that takes the chosen patches out.
use Rattle.std.proofs.Common.{◌≡◌, ℕ, zero, suc, ◌+◌, ◌<◌, ◌≤◌, true, false, cond, List, [], ◌∷◌, ◌++◌, length, take, drop, get_or, Some, inl, inr, refl, sym, ap, subst, ◌∙◌, arith, append_assoc, length-drop}
use Rattle.std.specs.Prelude.{slice_get}
use Rattle.std.proofs.lemmas.Bool.{cases_Bool, cases_lt}
use Rattle.std.proofs.lemmas.List.{drop_all, length-map, take-append-drop}
use Rattle.std.proofs.lemmas.List.Sums.{sum_by-cons}
use Rattle.fst_chain.specs.Records.{payload_at, without}
use Rattle.fst_types.specs.declared.number.PatchNo.{PatchNo}
use Rattle.fst_types.specs.Fold.{written}
use Rattle.fst_block.specs.BlockView.{BlockPatch, write_of, fold_of, len_if_soft, soft_lengths}
use Rattle.fst_block.specs.Choices.{numbers_of, is_chosen, chosen_of}
use Rattle.fst_block.specs.Reverts.{Entry, patches_of, entries_left}
use Rattle.fst_block.proofs.Places.{drop_at_place, take_at_place}
use Rattle.fst_block.proofs.Meeting.{chosen_numbers, numbers_chosen, numbers_left, is_chosen_next, is_left_next}

-- the walk stands at k, and what is left leads to the end
pub record TakesOut (chosen : List PatchNo) (left : List Entry) (new_base : List ℕ) (total : ℕ) (base : List ℕ) (es : List Entry) (k met undo : ℕ) : Type 0 where
  pub within : k ≤ length es
  pub leaves : take k es ++ entries_left chosen (drop k es) ≡ left
  pub folds : fold_of base (chosen_of chosen (patches_of (drop k es))) ≡ new_base
  pub counts : undo + soft_lengths (chosen_of chosen (patches_of (drop k es))) ≡ total
  pub meets : drop met (numbers_of chosen) ≡ chosen_numbers chosen (drop k es)

pub soft_lengths-cons : (p : BlockPatch) (ps : List BlockPatch) → soft_lengths (p ∷ ps) ≡ len_if_soft p.grade p.span.len + soft_lengths ps
soft_lengths-cons p ps = sum_by-cons (λ (q : BlockPatch). len_if_soft q.grade q.span.len) p ps

-- what is taken is no more than all
pub soft_lengths-chosen : (chosen : List PatchNo) (ps : List BlockPatch) → soft_lengths (chosen_of chosen ps) ≤ soft_lengths ps
soft_lengths-chosen chosen [] = omega arith
soft_lengths-chosen chosen (p ∷ ps) =
    let rest = soft_lengths-chosen chosen ps in
    let all = soft_lengths-cons p ps in
    elim (is_chosen chosen p) as (λ b. soft_lengths (cond b (p ∷ chosen_of chosen ps) (chosen_of chosen ps)) ≤ soft_lengths (p ∷ ps)) [
      | true ↦ omega (arith, rest, all, soft_lengths-cons p (chosen_of chosen ps))
      | false ↦ omega (arith, rest, all)
    ]

take-without : (es : List Entry) (k : ℕ) → take k (without es k) ≡ take k es
take-without [] k = refl
take-without (e ∷ es) zero = refl
take-without (e ∷ es) (suc k) = ap (λ xs. e ∷ xs) (take-without es k)

drop-without : (es : List Entry) (k : ℕ) → drop k (without es k) ≡ drop (suc k) es
drop-without [] zero = refl
drop-without [] (suc k) = refl
drop-without (e ∷ es) zero = refl
drop-without (e ∷ es) (suc k) = drop-without es k

pub length-without : (es : List Entry) (k : ℕ) → k < length es → suc (length (without es k)) ≡ length es
length-without [] k h = absurd (omega arith)
length-without (e ∷ es) zero h = refl
length-without (e ∷ es) (suc k) h = ap suc (length-without es k (omega arith))

pub same_takes : {chosen : List PatchNo} {left : List Entry} {new_base : List ℕ} {total : ℕ} (base base' : List ℕ) (es es' : List Entry) (k k' met met' undo undo' : ℕ)
    → base ≡ base' → es ≡ es' → k ≡ k' → met ≡ met' → undo ≡ undo' → TakesOut chosen left new_base total base es k met undo → TakesOut chosen left new_base total base' es' k' met' undo'
same_takes {chosen} {left} {new_base} {total} base base' es es' k k' met met' undo undo' b e i m u walk =
    subst (TakesOut chosen left new_base total base' es' k' met') u
    (subst (λ j. TakesOut chosen left new_base total base' es' k' j undo) m
    (subst (λ j. TakesOut chosen left new_base total base' es' j met undo) i
    (subst (λ xs. TakesOut chosen left new_base total base' xs k met undo) e
    (subst (λ bs. TakesOut chosen left new_base total bs es k met undo) b walk))))

module _ (chosen : List PatchNo) (p : BlockPatch) (kept : List ℕ) (es : List Entry) where
  chosen_first : is_chosen chosen p ≡ true → chosen_of chosen (p ∷ patches_of es) ≡ p ∷ chosen_of chosen (patches_of es)
  chosen_first h = rw h refl

  left_first : is_chosen chosen p ≡ false → chosen_of chosen (p ∷ patches_of es) ≡ chosen_of chosen (patches_of es)
  left_first h = rw h refl

  entries_chosen : is_chosen chosen p ≡ true → entries_left chosen ((p, kept) ∷ es) ≡ entries_left chosen es
  entries_chosen h = rw h refl

  entries_first : is_chosen chosen p ≡ false → entries_left chosen ((p, kept) ∷ es) ≡ (p, kept) ∷ entries_left chosen es
  entries_first h = rw h refl

module _ (chosen : List PatchNo) (left : List Entry) (new_base : List ℕ) (total : ℕ) (base : List ℕ) (es : List Entry) (k met undo : ℕ)
    (walk : TakesOut chosen left new_base total base es k met undo) (p : BlockPatch) (here : k < length es) (read : p ≡ (get_or es k (p, [])).0) where
  at_place : drop k es ≡ (p, payload_at es k) ∷ drop (suc k) es
  at_place = drop_at_place es k p here read

  meets_in : drop met (numbers_of chosen) ≡ chosen_numbers chosen ((p, payload_at es k) ∷ drop (suc k) es)
  meets_in = walk.meets ∙ ap (chosen_numbers chosen) at_place

  patches_here : patches_of (drop k es) ≡ p ∷ patches_of (drop (suc k) es)
  patches_here = ap patches_of at_place

  -- a chosen patch is taken out
  pub with_one_out : slice_get (numbers_of chosen) met ≡ Some p.number → TakesOut chosen left new_base total (written base (write_of p)) (without es k) k (suc met) (undo + len_if_soft p.grade p.span.len)
  with_one_out named =
      let met_it = is_chosen_next chosen (p, payload_at es k) (drop (suc k) es) met meets_in named in
      let same = drop-without es k in
      let first = ap (chosen_of chosen) patches_here ∙ chosen_first chosen p (payload_at es k) (drop (suc k) es) met_it.0 in
      let now = ap (λ xs. chosen_of chosen (patches_of xs)) same in
      let sum = ap soft_lengths first in
      let sum_now = ap soft_lengths now in
      record {
        within = omega (arith, length-without es k here);
        leaves = ap (λ xs. xs ++ entries_left chosen (drop k (without es k))) (take-without es k)
            ∙ (ap (λ xs. take k es ++ entries_left chosen xs) same
            ∙ (ap (λ xs. take k es ++ xs) (sym (entries_chosen chosen p (payload_at es k) (drop (suc k) es) met_it.0))
            ∙ (ap (λ xs. take k es ++ entries_left chosen xs) (sym at_place) ∙ walk.leaves)));
        folds = ap (fold_of (written base (write_of p))) now ∙ (sym (ap (fold_of base) first) ∙ walk.folds);
        counts = omega (arith, sum, sum_now, walk.counts, soft_lengths-cons p (chosen_of chosen (patches_of (drop (suc k) es))));
        meets = met_it.1 ∙ ap (chosen_numbers chosen) (sym same);
      }

  -- the next patch stays
  pub past_one : (slice_get (numbers_of chosen) met ≡ Some p.number → ⊥) → TakesOut chosen left new_base total base es (suc k) met undo
  past_one other =
      let stays = is_left_next chosen (p, payload_at es k) (drop (suc k) es) met meets_in other in
      let first = ap (chosen_of chosen) patches_here ∙ left_first chosen p (payload_at es k) (drop (suc k) es) stays.0 in
      let sum = ap soft_lengths first in
      record {
        within = omega arith;
        leaves = ap (λ xs. xs ++ entries_left chosen (drop (suc k) es)) (take_at_place es k p here read)
            ∙ (append_assoc (take k es) ((p, payload_at es k) ∷ []) (entries_left chosen (drop (suc k) es))
            ∙ (ap (λ xs. take k es ++ xs) (sym (entries_first chosen p (payload_at es k) (drop (suc k) es) stays.0))
            ∙ (ap (λ xs. take k es ++ entries_left chosen xs) (sym at_place) ∙ walk.leaves)));
        folds = sym (ap (fold_of base) first) ∙ walk.folds;
        counts = omega (arith, sum, walk.counts);
        meets = stays.1;
      }

  -- what is counted so far and this one are no more than all
  pub counts_within : slice_get (numbers_of chosen) met ≡ Some p.number → undo + len_if_soft p.grade p.span.len ≤ total
  counts_within named = omega (arith, (with_one_out named).counts)

-- where no patch's number is a chosen one, all are left
none_left : (chosen : List PatchNo) (es : List Entry) → chosen_numbers chosen es ≡ [] → (entries_left chosen es ≡ es) × (chosen_of chosen (patches_of es) ≡ [])
none_left chosen [] none = (refl, refl)
none_left chosen (e ∷ es) none =
    elim (cases_Bool (is_chosen chosen e.0)) [
      | inl taken ↦ let wrong = sym (numbers_chosen chosen e es taken) ∙ none in absurd (omega (arith, ap length wrong))
      | inr stays ↦
          let rest = none_left chosen es (sym (numbers_left chosen e es stays) ∙ none) in
          (entries_first chosen e.0 e.1 es stays ∙ ap (λ xs. e ∷ xs) rest.0, left_first chosen e.0 e.1 es stays ∙ rest.1)
    ]

module _ (chosen : List PatchNo) (left : List Entry) (new_base : List ℕ) (total : ℕ) (base : List ℕ) (es : List Entry) (k met undo : ℕ)
    (walk : TakesOut chosen left new_base total base es k met undo) where
  -- while a number is to be met, a patch is to come
  pub more_to_come : met < length chosen → k < length es
  more_to_come more =
      elim (cases_lt k (length es)) [
        | inl before ↦ before
        | inr past ↦
            let none = walk.meets ∙ ap (chosen_numbers chosen) (drop_all k es past) in
            absurd (omega (arith, more, ap length none, length-drop met (numbers_of chosen), length-map chosen (λ n. n.0)))
      ]

  -- once all are met, the walk is at its end
  pub takes_done : length chosen ≤ met → (es ≡ left) × (base ≡ new_base) × (undo ≡ total)
  takes_done all =
      let rest = none_left chosen (drop k es) (sym walk.meets ∙ drop_all met (numbers_of chosen) (omega (arith, all, length-map chosen (λ n. n.0)))) in (
        sym (take-append-drop k es) ∙ (ap (λ xs. take k es ++ xs) (sym rest.0) ∙ walk.leaves),
        ap (fold_of base) (sym rest.1) ∙ walk.folds,
        omega (arith, walk.counts, ap soft_lengths rest.1),
      )
