-- What the tests' own tests say of a choice.
use Rattle.std.specs.Prelude.{remove}
use Rattle.std.proofs.lemmas.Bool.{cases_Bool, cases_lt, false≢true}
use Rattle.fst_types.specs.Tests as Tests
use Rattle.fst_types.proofs.Issuing.{among_in, in_among}
use Rattle.std.proofs.Common.{Bool, true, false, ◌-◌, ◌++◌, take, drop, drop-cons, length-append, length-take-le, append_assoc, add-one, ◌≡◌, ℕ, suc, ◌+◌, ◌<◌, ◌≤◌, List, [], ◌∷◌, length, map, get_or, All, Contains, refl, sym, ap, subst, ◌∙◌, inl, inr, arith}
use Rattle.std.specs.List.{Any}
use Rattle.std.specs.List.Sorted.{IsStrictlyIncreasing}
use Rattle.std.proofs.lemmas.List.{get_or-map, take_at, drop_at, take_more}
use Rattle.std.proofs.lemmas.List.Elements.{All-contains, All-map, All-weaker}
use Rattle.fst_types.specs.declared.number.PatchNo.{PatchNo}
use Rattle.fst_types.specs.declared.grade.Grade.TheVariants as grade
use Rattle.fst_types.proofs.Finite.{In, In-from_Contains, Contains-from_In, In-map, In-get_or}
use Rattle.fst_block.specs.BlockView.{BlockPatch}
use Rattle.fst_tests.specs.Tested.{IsKnown, IsNamed, HasEarlier}
use Rattle.fst_block.specs.Choices.{is_chosen, others_of, numbers_of, ShareByte, IsChoice}

module _ {X : Type 0} (f : X → ℕ) where
  pub contains_of : (xs : List X) (n : ℕ) → Any (λ x. f x ≡ n) xs → Contains (map f xs) n
  contains_of xs n a = Contains-from_In (map f xs) n (In-map f xs a.1 n (subst (In xs) a.3 (In-get_or xs a.0 a.1 a.2)) a.4)

  any_in : (xs : List X) (n : ℕ) → In (map f xs) n → Any (λ x. f x ≡ n) xs
  any_in [] n h = absurd h
  any_in (x ∷ xs) n (inl e) = (0, x, omega arith, refl, e)
  any_in (x ∷ xs) n (inr h) = let a = any_in xs n h in (suc a.0, a.1, omega (arith, a.2), a.3, a.4)

  pub any_of : (xs : List X) (n : ℕ) → Contains (map f xs) n → Any (λ x. f x ≡ n) xs
  any_of xs n h = any_in xs n (In-from_Contains (map f xs) n h)

pub choice_from : (ps : List BlockPatch) (chosen : List PatchNo) → IsStrictlyIncreasing (numbers_of chosen)
    → All (λ n. IsKnown ps n.0) chosen
    → All (λ p. p.grade ≡ grade.Hard → IsNamed chosen p.number) ps
    → All (λ q. IsNamed chosen q.number → HasEarlier ps chosen q) ps
    → IsChoice ps chosen
choice_from ps chosen rising known hard earlier =
    let number = λ (p : BlockPatch). p.number in
    let no = λ (n : PatchNo). n.0 in
    record {
      rising = rising;
      known = All-map (λ n. Contains (map number ps) n) no chosen (All-weaker (λ n. IsKnown ps n.0) (λ n. Contains (map number ps) n.0) (λ n a. contains_of number ps n.0 a.found) chosen known);
      hard = λ p h e. contains_of no chosen p.number (All-contains (λ o. o.grade ≡ grade.Hard → IsNamed chosen o.number) ps p hard h e);
      earlier = λ p q hp hq named less share.
          let below = All-contains (λ r. IsNamed chosen r.number → HasEarlier ps chosen r) ps q earlier hq (any_of no chosen q.number named) in
          contains_of no chosen p.number (All-contains (λ o. o.number < q.number → ShareByte o.span q.span → IsNamed chosen o.number) ps p below hp less share);
    }

-- one more number is above the one before it
pub rises_more : (chosen : List PatchNo) (i : ℕ) → 1 ≤ i → i < length chosen → (get_or chosen (i - 1) (record { 0 = 0 })).0 < (get_or chosen i (record { 0 = 0 })).0
    → ((k : ℕ) → k + 1 < i → get_or (numbers_of chosen) k 0 < get_or (numbers_of chosen) (k + 1) 0)
    → (k : ℕ) → k + 1 < i + 1 → get_or (numbers_of chosen) k 0 < get_or (numbers_of chosen) (k + 1) 0
rises_more chosen i some within above before k h =
    let none : PatchNo = record { 0 = 0 } in
    let number = λ (n : PatchNo). n.0 in
    elim (cases_lt (k + 1) i) [
      | inl earlier ↦ before k earlier
      | inr last ↦
          let first = get_or-map number chosen k none 0 (omega arith) in
          let second = get_or-map number chosen (k + 1) none 0 (omega arith) in
          let at_first : i - 1 ≡ k = omega arith in
          let at_second : i ≡ k + 1 = omega arith in
          omega (arith, above, first, second, ap (λ j. (get_or chosen j none).0) at_first, ap (λ j. (get_or chosen j none).0) at_second)
    ]

named_is : (chosen : List PatchNo) (n : ℕ) (r : Bool) → (r ≡ true → IsNamed chosen n) × (IsNamed chosen n → r ≡ true) → r ≡ Tests.is_among (numbers_of chosen) n
named_is chosen n true says = sym (in_among (numbers_of chosen) n (In-from_Contains (numbers_of chosen) n (contains_of (λ (m : PatchNo). m.0) chosen n (says.0 refl))))
named_is chosen n false says =
    elim (cases_Bool (Tests.is_among (numbers_of chosen) n)) [
      | inl yes' ↦ absurd (false≢true (says.1 (any_in (λ (m : PatchNo). m.0) chosen n (among_in (numbers_of chosen) n yes'))))
      | inr no' ↦ sym no'
    ]

-- what is left of the list leads to the end
pub record Leaves (chosen : List PatchNo) (end ps : List BlockPatch) (k : ℕ) : Type 0 where
  pub within : k ≤ length ps
  pub leads : take k ps ++ others_of chosen (drop k ps) ≡ end

module _ (chosen : List PatchNo) (end ps : List BlockPatch) (k : ℕ) (leaves : Leaves chosen end ps k) (p : BlockPatch) (here : k < length ps) (read : p ≡ get_or ps k p)
    (r : Bool) (says : (r ≡ true → IsNamed chosen p.number) × (IsNamed chosen p.number → r ≡ true)) where
  next : drop k ps ≡ p ∷ drop (suc k) ps
  next = drop-cons ps k p here ∙ ap (λ q. q ∷ drop (suc k) ps) (sym read)

  pub leaves_one : r ≡ true → Leaves chosen end (remove ps k) k
  leaves_one e =
      let taken : is_chosen chosen p ≡ true = sym (named_is chosen p.number r says) ∙ e in
      let front = length-take-le k ps (omega arith) in
      record {
        within = omega (arith, length-append (take k ps) (drop (suc k) ps), front);
        leads =
            ap (λ xs. xs ++ others_of chosen (drop k (remove ps k))) (take_at (take k ps) (drop (suc k) ps) k front)
            ∙ (ap (λ xs. take k ps ++ others_of chosen xs) (drop_at (take k ps) (drop (suc k) ps) k front)
            ∙ (ap (λ xs. take k ps ++ xs) (sym (rest_taken taken))
            ∙ (ap (λ xs. take k ps ++ others_of chosen xs) (sym next) ∙ leaves.leads)));
      }
    where
      rest_taken : is_chosen chosen p ≡ true → others_of chosen (p ∷ drop (suc k) ps) ≡ others_of chosen (drop (suc k) ps)
      rest_taken h = rw h refl

  pub passes_one : r ≡ false → Leaves chosen end ps (k + 1)
  passes_one e =
      let stays : is_chosen chosen p ≡ false = sym (named_is chosen p.number r says) ∙ e in
      record {
        within = omega arith;
        leads =
            ap (λ xs. xs ++ others_of chosen (drop (k + 1) ps)) (take_more ps k p here ∙ ap (λ q. take k ps ++ q ∷ []) (sym read))
            ∙ (ap (λ n. take k ps ++ p ∷ [] ++ others_of chosen (drop n ps)) (add-one k)
            ∙ (append_assoc (take k ps) (p ∷ []) (others_of chosen (drop (suc k) ps))
            ∙ (ap (λ xs. take k ps ++ xs) (sym (rest_stays stays))
            ∙ (ap (λ xs. take k ps ++ others_of chosen xs) (sym next) ∙ leaves.leads))));
      }
    where
      rest_stays : is_chosen chosen p ≡ false → others_of chosen (p ∷ drop (suc k) ps) ≡ p ∷ others_of chosen (drop (suc k) ps)
      rest_stays h = rw h refl
