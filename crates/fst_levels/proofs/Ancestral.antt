-- What ancestors lead to, and which a patch over a row may have.
use Rattle.std.proofs.Common.{◌≡◌, ◌≤◌, ◌<◌, ◌⊎◌, ◌∷◌, [], ◌∙◌, ℕ, List, map, Contains, refl, sym, ap, subst, inl, inr, arith, ne_eqb}
use Rattle.std.proofs.lemmas.Bool.{cases_eq}
use Rattle.fst_types.specs.{Closure.{join}, Dependencies.DependsOn, Facts.IsOnDiskWithAll, Patches.{Patch, IsRising}}
use Rattle.fst_types.proofs.{Finite.{Contains-from_In, In-from_Contains, first_step}}
use Rattle.fst_heads.specs.{Indices.PassesAt}
use Rattle.fst_levels.specs.{Ancestors.{AreOver, GoesUnder, LeadsTo, MayStandUnder}, Leveling.{jump_of, kept_under, no_ancestry}, WayBack.LeadsBack, declared.levels.{Ancestry.Ancestry, Rank.Rank}}
use Rattle.fst_levels.proofs.{ComesBack.off_not_on, Straight.straight_back}
use Rattle.fst_heads.specs.declared.test.Test.TheVariants as test

-- a number is that of a patch, or nothing is kept under it
known_or_none : (patches : List Patch) (ranks : List Rank) → map (λ r. r.number) ranks ≡ map (λ p. p.number) patches → (kept : Rank → ℕ) (n : ℕ) → ((p : Patch) × Contains patches p × (p.number ≡ n)) ⊎ (kept_under kept ranks n ≡ 0)
known_or_none patches [] aligned kept n = inr refl
known_or_none [] (r ∷ rs) aligned kept n = absurd (cc)
known_or_none (p ∷ ps) (r ∷ rs) aligned kept n =
    let same : r.number ≡ p.number = cc in
    let rest : map (λ (x : Rank). x.number) rs ≡ map (λ (x : Patch). x.number) ps = cc in
    elim (cases_eq r.number n) [
      | inl e ↦ inl (p, (0, omega arith, refl), sym same ∙ e)
      | inr other ↦ elim (known_or_none ps rs rest kept n) [
        | inl k ↦ inl (k.0, Contains-from_In (p ∷ ps) k.0 (inr (In-from_Contains ps k.0 k.1)), k.2)
        | inr z ↦ inr (rw (ne_eqb r.number n other) z)
      ]
    ]

-- a patch leads to itself
pub leads_here : (patches : List Patch) (p : ℕ) → LeadsTo patches p p
leads_here patches p q h e = inl refl

-- what leads to one that leads to a patch leads to it
pub leads_on : (patches : List Patch) (p m n : ℕ) → LeadsTo patches p m → LeadsTo patches m n → LeadsTo patches p n
leads_on patches p m n upper lower q h e = elim (lower q h e) [
  | inl same ↦ subst (λ k. (p ≡ k) ⊎ DependsOn patches p k) same (upper q h (e ∙ sym same))
  | inr path ↦
      let d = (first_step m n path).1 in
      elim (upper d.patch d.head d.numbered) [ inl same ↦ inr (subst (λ k. DependsOn patches k n) (sym same) path) | inr more ↦ inr (join more path) ]
]

-- no patch has the number 0
none_zero : (patches : List Patch) (above : ℕ → ℕ) → AreOver patches above → (q : Patch) → Contains patches q → 0 ≡ q.number → ⊥
none_zero patches above S q h e = let k = S.older q h in omega (arith, k, e)

-- to have no ancestor is right for each patch
pub none_goes_under : (patches : List Patch) → ((q : Patch) → Contains patches q → 0 < q.number) → (n : ℕ) (row : List ℕ) → 0 < n → GoesUnder patches n row no_ancestry
none_goes_under patches positive n row given = record { parent = none; jump = none }
  where
    none : MayStandUnder patches n row 0
    none = record { older = given; under = λ q h e. let k = positive q h in absurd (omega (arith, k, e)) }

-- each patch with an older ancestor has a number above 0
pub over_zero : (patches : List Patch) (above : ℕ → ℕ) → AreOver patches above → (q : Patch) → Contains patches q → 0 < q.number
over_zero patches above S q h = let k = S.older q h in omega (arith, k)

module _ (patches : List Patch) (ranks : List Rank) (aligned : map (λ r. r.number) ranks ≡ map (λ p. p.number) patches) where
  -- what leads to a patch leads to its ancestor
  pub leads_further : (kept : Rank → ℕ) → AreOver patches (kept_under kept ranks) → (p at next : ℕ) → LeadsTo patches p at → next ≡ kept_under kept ranks at → LeadsTo patches p next
  leads_further kept S p at next L is q h e = elim (known_or_none patches ranks aligned kept at) [
    | inl x ↦
        let up = S.over x.0 q x.1 h (ap (kept_under kept ranks) x.2 ∙ (sym is ∙ sym e)) in
        let step = subst (λ m. DependsOn patches m next) x.2 (subst (DependsOn patches x.0.number) e up) in
        elim (L x.0 x.1 x.2) [ inl same ↦ inr (subst (λ m. DependsOn patches m next) (sym same) step) | inr path ↦ inr (join path step) ]
    | inr z ↦ absurd (none_zero patches (kept_under kept ranks) S q h (sym (e ∙ (is ∙ z))))
  ]

  module _ (J : AreOver patches (jump_of ranks)) (n : ℕ) (row : List ℕ) where
    -- one of the row may, and so may the jump of its jump
    module _ (parent : ℕ) (named : Contains row parent) (older : parent < n) where
      over_it : MayStandUnder patches n row parent
      over_it = record { older = older; under = λ q h e. (parent, named, inl refl) }

      abbrev further : ℕ
      further = jump_of ranks (jump_of ranks parent)

      -- a jump goes to an older patch, or to none
      goes_down : (m : ℕ) → jump_of ranks m ≤ m
      goes_down m = elim (known_or_none patches ranks aligned (λ r. r.ancestry.jump) m) [
        | inl x ↦ let k = J.older x.0 x.1 in omega (arith, k, x.2, ap (jump_of ranks) x.2)
        | inr z ↦ omega (arith, z)
      ]

      beyond_it : MayStandUnder patches n row (jump_of ranks (jump_of ranks parent))
      beyond_it = record {
        older = let a = goes_down parent in let b = goes_down (jump_of ranks parent) in omega (arith, a, b, older);
        under = λ q h e. elim (leads_further (λ r. r.ancestry.jump) J parent (jump_of ranks parent) further (leads_further (λ r. r.ancestry.jump) J parent parent (jump_of ranks parent) (leads_here patches parent) refl) refl q h (sym e)) [
          | inl same ↦ (parent, named, inl same)
          | inr path ↦ (parent, named, inr (further, path, refl))
        ];
      }

      pub goes_under : (ancestry : Ancestry) → ancestry.parent ≡ parent → (ancestry.jump ≡ parent) ⊎ (ancestry.jump ≡ jump_of ranks (jump_of ranks parent)) → GoesUnder patches n row ancestry
      goes_under ancestry own which = record {
        parent = subst (MayStandUnder patches n row) (sym own) over_it;
        jump = elim which [
          | inl e ↦ subst (MayStandUnder patches n row) (sym e) over_it
          | inr e ↦ subst (MayStandUnder patches n row) (sym e) beyond_it
        ];
      }

-- over a change of another block to one of b, a way leads back
pub leads_back : (patches : List Patch) → IsRising patches → IsOnDiskWithAll patches → (b : ℕ) (row : List ℕ) (top off n : ℕ) → Contains row top → LeadsTo patches top off → PassesAt (test.LiveOff b) patches off → LeadsTo patches off n → PassesAt (test.LiveOn b) patches n
    → LeadsBack patches b row n
leads_back patches rising disk b row top off n named to away down back =
    let depends : DependsOn patches off n = elim (down back.patch back.head back.numbered) [
      | inl same ↦ absurd (off_not_on patches rising b n (subst (PassesAt (test.LiveOff b) patches) same away) back)
      | inr path ↦ path
    ] in
    straight_back patches rising disk b row off n away back depends (top, named, elim (to away.patch away.head away.numbered) [ inl same ↦ inl same | inr path ↦ inr (off, path, refl) ])
