-- What forgetting leaves of the levels: the ranks of the patches that are left.
use Rattle.std.proofs.Common.{◌≡◌, ◌≤◌, ◌∷◌, [], ℕ, Bool, true, false, List, filter, map, Contains, refl, sym, ap, subst, ◌∙◌, inl, inr, arith, eq-eqb, ne_eqb}
use Rattle.std.proofs.lemmas.{Bool.{cases_Bool, cases_eq, false≢true}}
use Rattle.fst_types.specs.{Facts.IsOnDiskWithAll, Patches.{Patch, IsRising}, Tests.{has_number, is_live}}
use Rattle.fst_types.proofs.{Crash.same_number, Dropping.{filter_in, in_filter}, Finite.{In-from_Contains, Contains-from_In}}
use Rattle.fst_heads.specs.{Nodes.is_live_in}
use Rattle.fst_levels.specs.{Leveling.{IsLeveled, Leveling, hard_over_of, jump_of, kept_under, level_of, parent_of, floor_of}, declared.levels.Rank.Rank}
use Rattle.fst_levels.proofs.{LeveledKept.fewer_leveled, Ranked.number_of, AncestorsKept.{left_over, left_under}}
use Rattle.fst_types.proofs.Contents.{has_in}
use Rattle.fst_types.proofs.Ascends.{filter_same}

-- whether some head has the number
pub has_told : (heads : List Patch) (n : ℕ) → has_number heads n ≡ true → (p : Patch) × Contains heads p × (p.number ≡ n)
has_told [] n e = absurd (false≢true e)
has_told (p ∷ ps) n e = elim (cases_eq p.number n) [
  | inl same ↦ (p, (0, omega arith, refl), same)
  | inr other ↦
      let r = has_told ps n (rw (ne_eqb p.number n other) at e) in
      (r.0, Contains-from_In (p ∷ ps) r.0 (inr (In-from_Contains ps r.0 r.1)), r.2)
]

-- each head's number is told
pub told_has : (heads : List Patch) (p : Patch) → Contains heads p → has_number heads p.number ≡ true
told_has heads p c = has_in heads p (In-from_Contains heads p c)

-- the ranks whose numbers pass a test
module _ (t : ℕ → Bool) where
  abbrev pub passing : List Rank → List Rank
  passing ranks = filter (λ r. t r.number) ranks

  -- under a number that passes the same is kept
  pub kept_passing : (kept : Rank → ℕ) (ranks : List Rank) (n : ℕ) → t n ≡ true → kept_under kept (passing ranks) n ≡ kept_under kept ranks n
  kept_passing kept [] n e = refl
  kept_passing kept (x ∷ xs) n e = elim (cases_Bool (t x.number)) [
    | inl told ↦ rw told (elim (cases_eq x.number n) [
      | inl s ↦ rw (eq-eqb x.number n s) refl
      | inr o ↦ rw (ne_eqb x.number n o) (kept_passing kept xs n e)
    ])
    | inr untold ↦ rw (untold, ne_eqb x.number n (λ s. false≢true (sym untold ∙ (ap t s ∙ e)))) (kept_passing kept xs n e)
  ]

  level_failing : (ranks : List Rank) (n : ℕ) → t n ≡ false → level_of (passing ranks) n ≡ 0
  level_failing [] n e = refl
  level_failing (x ∷ xs) n e = elim (cases_Bool (t x.number)) [
    | inl told ↦ rw (told, ne_eqb x.number n (λ s. false≢true (sym e ∙ (ap t (sym s) ∙ told)))) (level_failing xs n e)
    | inr untold ↦ rw untold (level_failing xs n e)
  ]

  -- no level rises
  pub level_fewer : (ranks : List Rank) (n : ℕ) → level_of (passing ranks) n ≤ level_of ranks n
  level_fewer ranks n = elim (cases_Bool (t n)) [
    | inl told ↦ let e = kept_passing (λ r. r.level) ranks n told in omega (arith, e)
    | inr untold ↦ let e = level_failing ranks n untold in omega (arith, e)
  ]

  mapped_passing : {X : Type 0} (f : X → ℕ) (xs : List X) → map f (filter (λ x. t (f x)) xs) ≡ filter t (map f xs)
  mapped_passing f [] = refl
  mapped_passing f (x ∷ xs) = elim (cases_Bool (t (f x))) [
    | inl told ↦ rw (told, mapped_passing f xs) refl
    | inr untold ↦ rw (untold, mapped_passing f xs) refl
  ]

-- a number is left exactly if a live patch has it
pub left_live : (old : List Patch) (n : ℕ) → has_number (filter is_live old) n ≡ is_live_in old n
left_live [] n = refl
left_live (p ∷ ps) n = elim (cases_Bool (is_live p)) [
  | inl told ↦ rw (told, left_live ps n) refl
  | inr untold ↦ rw (untold, left_live ps n) refl
]

-- what is on disk is forgotten, and the ranks of live patches stay
module _ (old : List Patch) (rising : IsRising old) where
  abbrev left : List Patch
  left = filter is_live old

  abbrev is_left : ℕ → Bool
  is_left n = is_live_in old n

  was_left : (p : Patch) → Contains left p → Contains old p × (is_live p ≡ true)
  was_left p c = let k = filter_in is_live old p (In-from_Contains left p c) in (Contains-from_In old p k.0, k.1)

  left_told : (p : Patch) → Contains left p → is_left p.number ≡ true
  left_told p c = sym (left_live old p.number) ∙ told_has left p c

  -- each number is left as its patch is
  pub left_number : (p : Patch) → Contains old p → is_left p.number ≡ is_live p
  left_number p c = elim (cases_Bool (is_live p)) [
    | inl live ↦ left_told p (Contains-from_In left p (in_filter is_live old p (In-from_Contains old p c) live)) ∙ sym live
    | inr dead ↦ elim (cases_Bool (is_left p.number)) [
      | inl told ↦
          let k = has_told left p.number (left_live old p.number ∙ told) in
          let w = was_left k.0 k.1 in
          let same = same_number old k.0 p rising w.0 c k.2 in
          absurd (false≢true (sym dead ∙ subst (λ x. is_live x ≡ true) same w.1))
      | inr untold ↦ untold ∙ sym dead
    ]
  ]

  abbrev number : Patch → ℕ
  number p = p.number

  numbers_left : (ranks : List Rank) → map number_of ranks ≡ map number old → map number_of (passing is_left ranks) ≡ map number left
  numbers_left ranks aligned =
      mapped_passing is_left number_of ranks
      ∙ (ap (filter is_left) aligned
      ∙ (sym (mapped_passing is_left number old)
      ∙ ap (map number) (filter_same (λ p. is_left p.number) is_live old (λ p h. left_number p (Contains-from_In old p h)))))

  -- so the levels stay as they should be
  pub left_is_leveled : IsOnDiskWithAll old → (blocks : ℕ) (levels : Leveling) → IsLeveled old blocks levels
      → IsLeveled (filter is_live old) blocks (record levels { ranks = filter (λ r. is_live_in old r.number) levels.ranks })
  left_is_leveled disk blocks levels x = record {
    aligned = numbers_left levels.ranks x.aligned;
    long = x.long;
    leveled = fewer_leveled old left (level_of levels.ranks) (level_of (passing is_left levels.ranks)) (floor_of levels.floors) (λ p c. (was_left p c).0)
        (level_fewer is_left levels.ranks) (λ p c. kept_passing is_left (λ r. r.level) levels.ranks p.number (left_told p c)) x.leveled;
    parents = left_over old disk (parent_of levels.ranks) (parent_of (passing is_left levels.ranks)) (λ p c. kept_passing is_left (λ r. r.ancestry.parent) levels.ranks p.number (left_told p c)) x.parents;
    jumps = left_over old disk (jump_of levels.ranks) (jump_of (passing is_left levels.ranks)) (λ p c. kept_passing is_left (λ r. r.ancestry.jump) levels.ranks p.number (left_told p c)) x.jumps;
    overs = left_under old disk (hard_over_of levels.ranks) (hard_over_of (passing is_left levels.ranks)) (λ p c. kept_passing is_left (λ r. r.hard_over) levels.ranks p.number (left_told p c)) x.overs;
  }
