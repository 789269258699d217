-- What is pending of a number is what is pending of the node that has it.
use Rattle.fst_heads.proofs.Basics.{◌≡◌, ◌⊎◌, ◌<◌, ◌==◌, ℕ, suc, List, [], ◌∷◌, Contains, refl, subst, ◌∙◌, inl, inr, arith, cases_Bool, eqb-true, eq-eqb, ne_eqb, cond-true, cond-false}
use Rattle.fst_heads.proofs.{Words.{Node, patches_in, pending_in}, Placed.patch_in}
use Rattle.fst_heads.proofs.Patches.{Patch, Rising as IsRising, In, In-from_Contains, Contains-from_In}
use Rattle.fst_heads.proofs.Words.pending

-- the node with the number
pub record Found (nodes : List Node) (n : ℕ) : Type 0 where
  pub node : Node
  pub head : Contains nodes node
  pub numbered : node.patch.number ≡ n
  pub told : pending_in nodes n ≡ node.pending

-- of the others nothing is pending
pub found : (nodes : List Node) (n : ℕ) → Found nodes n ⊎ (pending_in nodes n ≡ pending.Nothing)
found [] n = inr refl
found (y ∷ ys) n = elim (cases_Bool (y.patch.number == n)) [
  | inl e ↦ inl (record { node = y; head = Contains-from_In (y ∷ ys) y (inl refl); numbered = eqb-true y.patch.number n e; told = cond-true (y.patch.number == n) y.pending (pending_in ys n) e })
  | inr ne ↦
      let past = cond-false (y.patch.number == n) y.pending (pending_in ys n) ne in
      elim (found ys n) [
        | inl f ↦ inl (record { node = f.node; head = Contains-from_In (y ∷ ys) f.node (inr (In-from_Contains ys f.node f.head)); numbered = f.numbered; told = past ∙ f.told })
        | inr none ↦ inr (past ∙ none)
      ]
]

-- in rising nodes the later have other numbers
pub later_number : (y : Node) (ys : List Node) → IsRising (patches_in (y ∷ ys)) → (x : Node) → In ys x → y.patch.number < x.patch.number
later_number y ys rising x h =
    let c = patch_in ys x (Contains-from_In ys x h) in
    let r = rising 0 (suc c.0) x.patch (omega arith) (let l = c.1 in omega (arith, l)) in
    subst (λ (p : Patch). y.patch.number < p.number) c.2 r

pub rising_tail : (y : Node) (ys : List Node) → IsRising (patches_in (y ∷ ys)) → IsRising (patches_in ys)
rising_tail y ys rising i j d lt inside = rising (suc i) (suc j) d (omega (arith, lt)) (omega (arith, inside))

told_in : (nodes : List Node) (x : Node) → IsRising (patches_in nodes) → In nodes x → pending_in nodes x.patch.number ≡ x.pending
told_in [] x rising h = absurd h
told_in (y ∷ ys) x rising (inl e) = grind (arith, cond-true, eq-eqb)
told_in (y ∷ ys) x rising (inr h) =
    let lt = later_number y ys rising x h in
    cond-false (y.patch.number == x.patch.number) y.pending (pending_in ys x.patch.number) (ne_eqb y.patch.number x.patch.number (λ e. omega (arith, lt, e)))
    ∙ told_in ys x (rising_tail y ys rising) h

pub told_of : (nodes : List Node) (x : Node) → IsRising (patches_in nodes) → Contains nodes x → pending_in nodes x.patch.number ≡ x.pending
told_of nodes x rising c = told_in nodes x rising (In-from_Contains nodes x c)
