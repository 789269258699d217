-- What a test leaves of a list.
use Rattle.std.proofs.Common.{◌≡◌, ◌⊎◌, ◌∷◌, [], Bool, true, false, List, Contains, length, refl, sym, subst, inl, inr, arith}
use Rattle.std.specs.List.{items_where_true, Retain.{IsFiltered, ReturnsInTurn}}
use Rattle.fst_types.proofs.Finite.{In, In-from_Contains, Contains-from_In}

-- it leaves out only what has P
module _ {X F : Type 0} (R : F → X → Bool → F → Type 0) (P : X → Type 0) (f : F) (says : (x : X) (b : Bool) (g : F) → R f x b g → (b ≡ false → P x) × (g ≡ f)) where
  kept_in : (q : F) (xs : List X) (bs : List Bool) (p : F) → p ≡ f → length bs ≡ length xs → ReturnsInTurn R p bs xs q → (n : X) → In xs n → In (items_where_true bs xs) n ⊎ P n
  kept_in q [] bs p e l r n h = absurd h
  kept_in q (x ∷ xs) [] p e l r n h = absurd (omega (arith, l))
  kept_in q (x ∷ xs) (true ∷ bs) p e l r n (inl here) = inl (inl here)
  kept_in q (x ∷ xs) (true ∷ bs) p e l r n (inr there) =
      let k = says x true r.0 (subst (λ s. R s x true r.0) e r.1) in
      elim (kept_in q xs bs r.0 k.1 (omega (arith, l)) r.2 n there) [ inl h ↦ inl (inr h) | inr out ↦ inr out ]
  kept_in q (x ∷ xs) (false ∷ bs) p e l r n (inl here) = let k = says x false r.0 (subst (λ s. R s x false r.0) e r.1) in inr (subst P here (k.0 refl))
  kept_in q (x ∷ xs) (false ∷ bs) p e l r n (inr there) = let k = says x false r.0 (subst (λ s. R s x false r.0) e r.1) in kept_in q xs bs r.0 k.1 (omega (arith, l)) r.2 n there

  only_in : (xs : List X) (bs : List Bool) (n : X) → In (items_where_true bs xs) n → In xs n
  only_in xs [] n h = absurd h
  only_in [] (b ∷ bs) n h = absurd h
  only_in (x ∷ xs) (true ∷ bs) n (inl here) = inl here
  only_in (x ∷ xs) (true ∷ bs) n (inr there) = inr (only_in xs bs n there)
  only_in (x ∷ xs) (false ∷ bs) n h = inr (only_in xs bs n h)

  pub left_from_test : (xs ys : List X) → IsFiltered R f xs ys → ((n : X) → Contains ys n → Contains xs n) × ((n : X) → Contains xs n → Contains ys n ⊎ P n)
  left_from_test xs ys (bs, q, long, runs, same) = (
    (λ n h. Contains-from_In xs n (only_in xs bs n (In-from_Contains _ n (subst (λ zs. Contains zs n) same h)))),
    (λ n h. elim (kept_in q xs bs f refl long runs n (In-from_Contains xs n h)) [
      | inl k ↦ inl (subst (λ zs. Contains zs n) (sym same) (Contains-from_In _ n k))
      | inr out ↦ inr out
    ]),
  )
