-- What keeps ancestors, and what is kept over a patch: the same patches later or fewer of them, a gate that gains names or has other ancestors, another over a patch, and a patch more.
use Rattle.std.proofs.Common.{◌≡◌, ◌≢◌, ◌<◌, ◌+◌, ◌++◌, ◌∷◌, [], ℕ, List, filter, map, Contains, refl, sym, ap, subst, ◌∙◌, inl, inr, arith}
use Rattle.std.proofs.lemmas.{Bool.cases_eq, List.Elements.{Contains-push, Contains-push_cases}}
use Rattle.fst_types.specs.{Closure.{one, join}, Dependencies.{DependsOn, DirectlyOn, IsLiveNumber}, Facts.{HasOnePlaceEach, IsOnDiskWithAll}, Gating.gains, Patches.Patch, Tests.is_live}
use Rattle.fst_types.proofs.{Alike.{Alike, back_alike}, Dropping.filter_in, Finite.{Contains-from_In, In-from_Contains}}
use Rattle.fst_heads.specs.Grading.{HasUnder}
use Rattle.fst_heads.proofs.{Covering.{depends_forth, depends_gained, depends_left, depends_with, was_gained}}
use Rattle.fst_levels.specs.Ancestors.{AreOver, AreUnder, MayStandUnder}
use Rattle.fst_types.proofs.Numbers.{not_disk}

-- ancestors that are the same of each patch
pub over_as : (patches : List Patch) (above above' : ℕ → ℕ) → ((n : ℕ) → above' n ≡ above n) → AreOver patches above → AreOver patches above'
over_as patches above above' same S = record {
  over = λ p q h k e. S.over p q h k (sym (same p.number) ∙ e);
  older = λ p h. let k = S.older p h in omega (arith, k, same p.number);
}

-- the same patches at other places, or sealed
pub over_alike : (old new : List Patch) → Alike old new → (above : ℕ → ℕ) → AreOver old above → AreOver new above
over_alike old new A above S = record {
  over = λ p q h k e.
      let o = back_alike old new A p h in
      let r = back_alike old new A q k in
      let was = S.over o.0 r.0 o.1 r.1 (ap above (sym o.2.number) ∙ (e ∙ r.2.number)) in
      depends_forth old new A p.number q.number (subst (λ m. DependsOn old m q.number) (sym o.2.number) (subst (DependsOn old o.0.number) (sym r.2.number) was));
  older = λ p h. let o = back_alike old new A p h in let k = S.older o.0 o.1 in omega (arith, k, o.2.number, ap above o.2.number);
}

-- an open gate gains names
pub over_gained : (old : List Patch) (g : ℕ) (names : List ℕ) (above : ℕ → ℕ) → AreOver old above → AreOver (map (gains g names) old) above
over_gained old g names above S = record {
  over = λ p q h k e.
      let o = was_gained old g names p h in
      let r = was_gained old g names q k in
      let was = S.over o.0 r.0 o.1 r.1 (ap above (sym o.2.number) ∙ (e ∙ r.2.number)) in
      depends_gained old g names p.number q.number (subst (λ m. DependsOn old m q.number) (sym o.2.number) (subst (DependsOn old o.0.number) (sym r.2.number) was));
  older = λ p h. let o = was_gained old g names p h in let k = S.older o.0 o.1 in omega (arith, k, o.2.number, ap above o.2.number);
}

-- what is on disk is forgotten
was_there : (old : List Patch) (p : Patch) → Contains (filter is_live old) p → Contains old p
was_there old p h = Contains-from_In old p (filter_in is_live old p (In-from_Contains (filter is_live old) p h)).0

left_number : (old : List Patch) (p : Patch) → Contains (filter is_live old) p → IsLiveNumber old p.number
left_number old p h = record { patch = p; head = was_there old p h; numbered = refl; live = not_disk p.place (filter_in is_live old p (In-from_Contains (filter is_live old) p h)).1 }

-- and the ancestors of the patches that are left stay
pub left_over : (old : List Patch) → IsOnDiskWithAll old → (above above' : ℕ → ℕ) → ((p : Patch) → Contains (filter is_live old) p → above' p.number ≡ above p.number)
    → AreOver old above → AreOver (filter is_live old) above'
left_over old disk above above' same S = record {
  over = λ p q h k e.
      let was = S.over p q (was_there old p h) (was_there old q k) (sym (same p h) ∙ e) in
      depends_left old disk p.number q.number was (left_number old q k);
  older = λ p h. let k = S.older p (was_there old p h) in omega (arith, k, same p h);
}

-- what is in the row or below it is below who has the row
under_row : (patches : List Patch) (n a : ℕ) (row : List ℕ) → ((m : ℕ) → Contains row m → DirectlyOn patches n m) → HasUnder patches row (λ m. m ≡ a) → DependsOn patches n a
under_row patches n a row straight u = elim u.2 [
  | inl e ↦ subst (DependsOn patches n) e (one (straight u.0 u.1))
  | inr k ↦ subst (DependsOn patches n) k.2 (join (one (straight u.0 u.1)) k.1)
]

-- one patch has another ancestor, in its row or below
pub over_renewed : (patches : List Patch) (g : Patch) → Contains patches g → (above above' : ℕ → ℕ) → ((n : ℕ) → n ≢ g.number → above' n ≡ above n)
    → MayStandUnder patches g.number g.dependencies (above' g.number) → AreOver patches above → AreOver patches above'
over_renewed patches g there above above' same may S = record {
  over = λ p q h k e. elim (cases_eq p.number g.number) [
    | inl own ↦
        let j = ap above' (sym own) ∙ e in
        let below = under_row patches g.number (above' g.number) g.dependencies (λ m named. record { patch = g; head = there; numbered = refl; named = named }) (may.under q k j) in
        subst (λ m. DependsOn patches m q.number) (sym own) (subst (DependsOn patches g.number) j below)
    | inr other ↦ S.over p q h k (sym (same p.number other) ∙ e)
  ];
  older = λ p h. elim (cases_eq p.number g.number) [
    | inl own ↦ let k = may.older in omega (arith, k, own, ap above' own)
    | inr other ↦ let k = S.older p h in omega (arith, k, same p.number other)
  ];
}

-- one patch more, with the greatest number, whose ancestor is in its row or below
module _ (old : List Patch) (numbers : ℕ) (p : Patch) (H : HasOnePlaceEach old numbers) (next : p.number ≡ numbers + 1) (above above' : ℕ → ℕ)
    (same : (n : ℕ) → n ≢ p.number → above' n ≡ above n) (may : MayStandUnder old p.number p.dependencies (above' p.number)) (S : AreOver old above) where
  abbrev with_one : List Patch
  with_one = old ++ p ∷ []

  earlier : (q : Patch) → Contains old q → q.number < p.number
  earlier q h = let k = (H.numbered q h).1 in omega (arith, k, next)

  same_old : (q : Patch) → Contains old q → above' q.number ≡ above q.number
  same_old q h = same q.number (λ e. let k = earlier q h in omega (arith, e, k))

  under_with : HasUnder old p.dependencies (λ m. m ≡ above' p.number) → HasUnder with_one p.dependencies (λ m. m ≡ above' p.number)
  under_with u = (u.0, u.1, elim u.2 [ inl e ↦ inl e | inr k ↦ inr (k.0, depends_with old p u.0 k.0 k.1, k.2) ])

  over_old : (q : Patch) → Contains old q → above' p.number ≡ q.number → DependsOn with_one p.number q.number
  over_old q h e =
      subst (DependsOn with_one p.number) e
      (under_row with_one p.number (above' p.number) p.dependencies (λ m named. record { patch = p; head = Contains-push old p; numbered = refl; named = named }) (under_with (may.under q h e)))

  pub fresh_over : AreOver with_one above'
  fresh_over = record {
    over = λ x q h k joined. elim (Contains-push_cases old p q k) [
      | inl q_old ↦ elim (Contains-push_cases old p x h) [
        | inl x_old ↦ depends_with old p x.number q.number (S.over x q x_old q_old (sym (same_old x x_old) ∙ joined))
        | inr e ↦ subst (λ (y : Patch). DependsOn with_one y.number q.number) e (over_old q q_old (subst (λ (y : Patch). above' y.number ≡ q.number) (sym e) joined))
      ]
      | inr q_new ↦ elim (Contains-push_cases old p x h) [
        | inl x_old ↦ let k = earlier x x_old in let o = S.older x x_old in absurd (omega (arith, o, k, same_old x x_old, joined, ap (λ (y : Patch). y.number) q_new))
        | inr e ↦ let o = may.older in absurd (omega (arith, o, joined, ap (λ (y : Patch). y.number) q_new, ap (λ (y : Patch). above' y.number) e))
      ]
    ];
    older = λ x h. elim (Contains-push_cases old p x h) [
      | inl x_old ↦ let k = S.older x x_old in omega (arith, k, same_old x x_old)
      | inr e ↦ subst (λ (y : Patch). above' y.number < y.number) e may.older
    ];
  }

-- what is kept over a patch, where it is the same of each
pub under_as : (patches : List Patch) (over over' : ℕ → ℕ) → ((n : ℕ) → over' n ≡ over n) → AreUnder patches over → AreUnder patches over'
under_as patches over over' same S p h some = rw (same p.number) (S p h (λ e. some (same p.number ∙ e)))

-- the same patches at other places, or sealed
pub under_alike : (old new : List Patch) → Alike old new → (over : ℕ → ℕ) → AreUnder old over → AreUnder new over
under_alike old new A over S p h some =
    let o = back_alike old new A p h in
    depends_forth old new A (over p.number) p.number (subst (λ m. DependsOn old (over m) m) (sym o.2.number) (S o.0 o.1 (λ e. some (ap over o.2.number ∙ e))))

-- an open gate gains names
pub under_gained : (old : List Patch) (g : ℕ) (names : List ℕ) (over : ℕ → ℕ) → AreUnder old over → AreUnder (map (gains g names) old) over
under_gained old g names over S p h some =
    let o = was_gained old g names p h in
    depends_gained old g names (over p.number) p.number (subst (λ m. DependsOn old (over m) m) (sym o.2.number) (S o.0 o.1 (λ e. some (ap over o.2.number ∙ e))))

-- what is on disk is forgotten
pub left_under : (old : List Patch) → IsOnDiskWithAll old → (over over' : ℕ → ℕ) → ((p : Patch) → Contains (filter is_live old) p → over' p.number ≡ over p.number)
    → AreUnder old over → AreUnder (filter is_live old) over'
left_under old disk over over' same S p h some =
    rw (same p h) (depends_left old disk (over p.number) p.number (S p (was_there old p h) (λ e. some (same p h ∙ e))) (left_number old p h))

-- another is kept over one patch
pub under_put : (patches : List Patch) (n : ℕ) (over over' : ℕ → ℕ) → ((m : ℕ) → m ≢ n → over' m ≡ over m) → DependsOn patches (over' n) n → AreUnder patches over → AreUnder patches over'
under_put patches n over over' same below S p h some = elim (cases_eq p.number n) [
  | inl own ↦ subst (λ m. DependsOn patches (over' m) m) (sym own) below
  | inr other ↦ rw (same p.number other) (S p h (λ e. some (same p.number other ∙ e)))
]

-- one patch more, with the greatest number, over which none is kept
pub fresh_under : (old : List Patch) (numbers : ℕ) (p : Patch) → HasOnePlaceEach old numbers → p.number ≡ numbers + 1 → (over over' : ℕ → ℕ) → ((n : ℕ) → n ≢ p.number → over' n ≡ over n) → over' p.number ≡ 0
    → AreUnder old over → AreUnder (old ++ p ∷ []) over'
fresh_under old numbers p H next over over' same none S q h some = elim (Contains-push_cases old p q h) [
  | inl before ↦
      let stays = same q.number (λ e. let k = (H.numbered q before).1 in omega (arith, k, e, next)) in
      rw stays (depends_with old p (over q.number) q.number (S q before (λ e. some (stays ∙ e))))
  | inr e ↦ absurd (some (ap (λ (x : Patch). over' x.number) (sym e) ∙ none))
]
