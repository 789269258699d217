-- One step of the walk that reverts what is not chosen.
use Rattle.std.proofs.Common.{◌≡◌, ℕ, suc, ◌+◌, ◌-◌, ◌<◌, ◌≤◌, Bool, true, false, List, [], ◌∷◌, ◌++◌, length, take, drop, get_or, Some, inl, inr, refl, sym, ap, subst, ◌∙◌, arith, length-append, length-take-le, length-drop}
use Rattle.std.specs.Prelude.{slice_get}
use Rattle.std.proofs.lemmas.Bool.{cases_Bool}
use Rattle.fst_chain.specs.Records.{payload_at}
use Rattle.fst_types.specs.declared.number.PatchNo.{PatchNo}
use Rattle.fst_block.specs.BlockView.{BlockPatch}
use Rattle.fst_block.specs.Choices.{numbers_of, is_chosen}
use Rattle.fst_block.specs.Reverts.{Entry, bytes_after, reverted, FitsIn}
use Rattle.fst_block.proofs.Places.{take_at_place}
use Rattle.fst_block.proofs.Meeting.{chosen_numbers, numbers_chosen, numbers_left, is_chosen_last, is_left_last}

-- a walk from the back has n patches to go, and they lead to the end
pub record Reverts (chosen : List PatchNo) (end bytes : List ℕ) (es : List Entry) (n meet : ℕ) : Type 0 where
  pub within : n ≤ length es
  pub leads : reverted (is_chosen chosen) bytes (take n es) ≡ end
  pub fits : FitsIn (length bytes) (take n es)
  pub in_chosen : meet ≤ length (numbers_of chosen)
  pub meets : take meet (numbers_of chosen) ≡ chosen_numbers chosen (take n es)

-- a patch's place has as many bytes as it keeps
pub put_length : (bytes : List ℕ) (e : Entry) → e.0.span.at + length e.1 ≤ length bytes → length (bytes_after false bytes e) ≡ length bytes
put_length bytes e fits =
    omega (arith, length-append (take e.0.span.at bytes ++ e.1) (drop (e.0.span.at + length e.1) bytes), length-append (take e.0.span.at bytes) e.1, length-take-le e.0.span.at bytes (omega arith), length-drop (e.0.span.at + length e.1) bytes)

-- a walk from the back takes the last patch first
reverted_push : (chosen : BlockPatch → Bool) (bytes : List ℕ) (es : List Entry) (e : Entry) → reverted chosen bytes (es ++ e ∷ []) ≡ reverted chosen (bytes_after (chosen e.0) bytes e) es
reverted_push chosen bytes [] e = refl
reverted_push chosen bytes (x ∷ es) e = ap (λ below. bytes_after (chosen x.0) below x) (reverted_push chosen bytes es e)

FitsIn_push : (n : ℕ) (es : List Entry) (e : Entry) → FitsIn n (es ++ e ∷ []) → FitsIn n es × (e.0.span.at + length e.1 ≤ n)
FitsIn_push n [] e f = (tt, f.0)
FitsIn_push n (x ∷ es) e f = let rest = FitsIn_push n es e f.1 in ((f.0, rest.0), rest.1)

-- no more are chosen than there are
chosen_few : (chosen : List PatchNo) (es : List Entry) → length (chosen_numbers chosen es) ≤ length es
chosen_few chosen [] = omega arith
chosen_few chosen (e ∷ es) =
    let rest = chosen_few chosen es in
    elim (cases_Bool (is_chosen chosen e.0)) [
      | inl taken ↦ omega (arith, rest, ap length (numbers_chosen chosen e es taken))
      | inr stays ↦ omega (arith, rest, ap length (numbers_left chosen e es stays))
    ]

-- where as many are chosen as there are, nothing is put back
all_chosen : (chosen : List PatchNo) (bytes : List ℕ) (es : List Entry) → length es ≤ length (chosen_numbers chosen es) → reverted (is_chosen chosen) bytes es ≡ bytes
all_chosen chosen bytes [] h = refl
all_chosen chosen bytes (e ∷ es) h =
    elim (cases_Bool (is_chosen chosen e.0)) [
      | inl taken ↦ ap (λ t. bytes_after t (reverted (is_chosen chosen) bytes es) e) taken ∙ all_chosen chosen bytes es (omega (arith, h, ap length (numbers_chosen chosen e es taken)))
      | inr stays ↦ absurd (omega (arith, h, chosen_few chosen es, ap length (numbers_left chosen e es stays)))
    ]

-- the same walk, by other names of the same values
pub same_walk : {chosen : List PatchNo} {end : List ℕ} (bytes bytes' : List ℕ) (es es' : List Entry) (n n' meet meet' : ℕ) → bytes ≡ bytes' → es ≡ es' → n ≡ n' → meet ≡ meet' → Reverts chosen end bytes es n meet → Reverts chosen end bytes' es' n' meet'
same_walk {chosen} {end} bytes bytes' es es' n n' meet meet' b e i m walk =
    subst (Reverts chosen end bytes' es' n') m (subst (λ j. Reverts chosen end bytes' es' j meet) i (subst (λ xs. Reverts chosen end bytes' xs n meet) e (subst (λ bs. Reverts chosen end bs es n meet) b walk)))

-- a walk is done where as many are to go as are chosen among them
pub walk_done : (chosen : List PatchNo) (end bytes : List ℕ) (es : List Entry) (n meet : ℕ) → Reverts chosen end bytes es n meet → n ≤ meet → bytes ≡ end
walk_done chosen end bytes es n meet walk few =
    let met = ap length (sym walk.meets) ∙ length-take-le meet (numbers_of chosen) walk.in_chosen in
    let left = length-take-le n es walk.within in
    sym (all_chosen chosen bytes (take n es) (omega (arith, met, left, few))) ∙ walk.leads

module _ (chosen : List PatchNo) (end bytes : List ℕ) (es : List Entry) (k meet : ℕ) (walk : Reverts chosen end bytes es (suc k) meet) (p : BlockPatch) (read : p ≡ (get_or es k (p, [])).0) where
  here : k < length es
  here = omega (arith, walk.within)

  at_end : take (suc k) es ≡ take k es ++ (p, payload_at es k) ∷ []
  at_end = take_at_place es k p here read

  fits_before : FitsIn (length bytes) (take k es) × (p.span.at + length (payload_at es k) ≤ length bytes)
  fits_before = FitsIn_push (length bytes) (take k es) (p, payload_at es k) (subst (FitsIn (length bytes)) at_end walk.fits)

  pub fits_last : p.span.at + length (payload_at es k) ≤ length bytes
  fits_last = fits_before.1

  meets_last : take meet (numbers_of chosen) ≡ chosen_numbers chosen (take k es ++ (p, payload_at es k) ∷ [])
  meets_last = walk.meets ∙ ap (chosen_numbers chosen) at_end

  leads_last : (t : Bool) → is_chosen chosen p ≡ t → reverted (is_chosen chosen) (bytes_after t bytes (p, payload_at es k)) (take k es) ≡ end
  leads_last t same =
      ap (λ b. reverted (is_chosen chosen) (bytes_after b bytes (p, payload_at es k)) (take k es)) (sym same)
      ∙ (sym (reverted_push (is_chosen chosen) bytes (take k es) (p, payload_at es k))
      ∙ (ap (reverted (is_chosen chosen) bytes) (sym at_end) ∙ walk.leads))

  -- before a patch that is chosen
  pub before_chosen : (less : ℕ) → meet ≡ suc less → slice_get (numbers_of chosen) less ≡ Some p.number → Reverts chosen end bytes es k less
  before_chosen less one named =
      let within' : suc less ≤ length (numbers_of chosen) = omega (arith, walk.in_chosen) in
      let met_it = is_chosen_last chosen (p, payload_at es k) (take k es) less within' (ap (λ m. take m (numbers_of chosen)) (sym one) ∙ meets_last) named in
      record {
        within = omega arith;
        leads = leads_last true met_it.0;
        fits = fits_before.0;
        in_chosen = omega (arith, walk.in_chosen);
        meets = met_it.1;
      }

  -- before a patch that was reverted
  pub before_left : (0 < meet → slice_get (numbers_of chosen) (meet - 1) ≡ Some p.number → ⊥) → Reverts chosen end (bytes_after false bytes (p, payload_at es k)) es k meet
  before_left other =
      let left = is_left_last chosen (p, payload_at es k) (take k es) meet walk.in_chosen meets_last other in
      record {
        within = omega arith;
        leads = leads_last false left.0;
        fits = subst (λ n. FitsIn n (take k es)) (sym (put_length bytes (p, payload_at es k) fits_last)) fits_before.0;
        in_chosen = walk.in_chosen;
        meets = left.1;
      }
