-- Levels stay right where what was met is lifted, and with it the floor of a block.
use Rattle.std.proofs.Common.{◌≡◌, ◌≢◌, ◌<◌, ◌≤◌, ◌⊎◌, ◌∷◌, ◌∙◌, [], ℕ, List, set, Contains, refl, sym, ap, subst, inl, inr, arith, get_or-set_same, get_or-set_other, length-set}
use Rattle.std.proofs.lemmas.Bool.{cases_eq}
use Rattle.fst_types.specs.{Facts.IsOnDiskWithAll, Patches.Patch}
use Rattle.fst_types.proofs.Finite.{In, In-from_Contains, Contains-from_In}
use Rattle.fst_heads.specs.{Grading.IsHardNumber}
use Rattle.fst_levels.specs.{Leveling.{IsLeveled, Leveling, hard_over_of, jump_of, level_of, parent_of, floor_of, unleveled}, Lifting.{IsLifted, MayLift}}
use Rattle.fst_levels.proofs.{AncestorsKept.{over_as, under_as}, Lifted.lifted, Raised.kept_as}

-- whether a number is in a list
in_or_not : (ns : List ℕ) (n : ℕ) → In ns n ⊎ (In ns n → ⊥)
in_or_not [] n = inr (λ h. absurd h)
in_or_not (m ∷ ms) n = elim (cases_eq m n) [
  | inl e ↦ inl (inl e)
  | inr other ↦ elim (in_or_not ms n) [ inl h ↦ inl (inr h) | inr none ↦ inr (λ h. elim h [ inl e ↦ other e | inr k ↦ none k ]) ]
]

-- what was no higher than where what was met goes up to is no higher afterwards
pub lifted_within : (heads : List Patch) (met : List ℕ) (to : ℕ) (old new : Leveling) → IsLifted heads met to old new → (n : ℕ) → level_of old.ranks n ≤ to → level_of new.ranks n ≤ to
lifted_within heads met to old new L n low = elim (in_or_not met n) [
  | inl h ↦ omega (arith, L.raised n (Contains-from_In met n h))
  | inr none ↦ omega (arith, L.rest n (λ c. none (In-from_Contains met n c)), low)
]

-- whether one of them is a hard change of c in memory
hard_or_not : (heads : List Patch) (ns : List ℕ) (c : ℕ) → ((n : ℕ) → In ns n → IsHardNumber heads c n ⊎ (IsHardNumber heads c n → ⊥))
    → ((n : ℕ) × In ns n × IsHardNumber heads c n) ⊎ ((n : ℕ) → In ns n → IsHardNumber heads c n → ⊥)
hard_or_not heads [] c told = inr (λ n h. absurd h)
hard_or_not heads (m ∷ ms) c told = elim (told m (inl refl)) [
  | inl hard ↦ inl (m, inl refl, hard)
  | inr not ↦ elim (hard_or_not heads ms c (λ n h. told n (inr h))) [
    | inl r ↦ inl (r.0, inr r.1, r.2)
    | inr none ↦ inr (λ n h k. elim h [ inl e ↦ not (subst (IsHardNumber heads c) (sym e) k) | inr i ↦ none n i k ])
  ]
]

module _ (heads : List Patch) (disk : IsOnDiskWithAll heads) (blocks b to : ℕ) (met : List ℕ) (levels raised : Leveling) (x : IsLeveled heads blocks levels)
    (may : MayLift heads levels b to met) (inside : b < blocks)
    (told : (n : ℕ) → Contains met n → (c : ℕ) → IsHardNumber heads c n ⊎ (IsHardNumber heads c n → ⊥)) (L : IsLifted heads met to levels raised) where
  abbrev floors : List ℕ
  floors = set raised.floors b to

  own_floor : floor_of floors b ≡ to
  own_floor = get_or-set_same raised.floors b to 0 (omega (arith, inside, L.long, x.long))

  other_floor : (c : ℕ) → c ≢ b → floor_of floors c ≡ floor_of raised.floors c
  other_floor c other = get_or-set_other raised.floors b c to 0 other

  met_or_not : (n : ℕ) → Contains met n ⊎ (Contains met n → ⊥)
  met_or_not n = elim (in_or_not met n) [ inl h ↦ inl (Contains-from_In met n h) | inr none ↦ inr (λ c. none (In-from_Contains met n c)) ]

  crossed_or_not : (c : ℕ) → ((m : ℕ) × Contains met m × IsHardNumber heads c m) ⊎ ((m : ℕ) → Contains met m → IsHardNumber heads c m → ⊥)
  crossed_or_not c = elim (hard_or_not heads met c (λ n h. told n (Contains-from_In met n h) c)) [
    | inl r ↦ inl (r.0, Contains-from_In met r.0 r.1, r.2)
    | inr none ↦ inr (λ m k h. none m (In-from_Contains met m k) h)
  ]

  crossed_floor : (c m : ℕ) → Contains met m → IsHardNumber heads c m → floor_of floors c ≡ to
  crossed_floor c m k h = elim (cases_eq c b) [
    | inl same ↦ ap (floor_of floors) same ∙ own_floor
    | inr other ↦ other_floor c other ∙ L.floors c m k h
  ]

  pub floored : IsLeveled heads blocks (record raised { floors = set raised.floors b to })
  floored = record {
    aligned = L.numbers ∙ x.aligned;
    long = length-set raised.floors b to ∙ (L.long ∙ x.long);
    leveled = lifted heads disk (level_of levels.ranks) (floor_of levels.floors) x.leveled b may.low to (Contains met)
        may.meets.change
        (λ m n k d live low. may.meets.over m n k (inl (d, live)) low)
        (λ c m n k h y low. may.meets.over m n k (inr (record { block = c; hard = h; fresh = λ r. cc; change = y })) low)
        may.meets.live may.meets.low met_or_not may.above may.at_most may.few may.at_least
        (level_of raised.ranks) (floor_of floors) L.raised L.rest own_floor crossed_floor
        (λ c other none. other_floor c other ∙ L.other_floors c none) crossed_or_not;
    parents = over_as heads (parent_of levels.ranks) (parent_of raised.ranks) (kept_as unleveled (λ r. r.ancestry.parent) levels.ranks raised.ranks L.numbers L.beside) x.parents;
    jumps = over_as heads (jump_of levels.ranks) (jump_of raised.ranks) (kept_as unleveled (λ r. r.ancestry.jump) levels.ranks raised.ranks L.numbers L.beside) x.jumps;
    overs = under_as heads (hard_over_of levels.ranks) (hard_over_of raised.ranks) (kept_as unleveled (λ r. r.hard_over) levels.ranks raised.ranks L.numbers L.beside) x.overs;
  }
