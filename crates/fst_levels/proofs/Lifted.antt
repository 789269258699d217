-- Levels where patches were lifted: all that come to wait for a block, and were no higher than a level, go to the next one, and the floors of the blocks that they hold go with them. The patches stay leveled.
use Rattle.std.proofs.Common.{◌≡◌, ◌≢◌, ◌≤◌, ◌+◌, ◌⊎◌, ℕ, List, ap, subst, ◌∙◌, inl, inr, arith}
use Rattle.std.proofs.lemmas.Bool.{cases_eq, cases_lt}
use Rattle.fst_types.specs.{Closure.{one}, Dependencies.{DirectlyOn, IsLiveNumber}, Facts.IsOnDiskWithAll, Gates.IsOpenNumber, Patches.Patch}
use Rattle.fst_heads.specs.{Grading.IsHardNumber, Indices.PassesAt}
use Rattle.fst_levels.specs.Leveling.{AreLeveled, top_level}
use Rattle.fst_levels.proofs.{Holding.live_up, Leveled.live_passes}
use Rattle.fst_heads.specs.declared.test.Test.TheVariants as test
use Rattle.fst_types.proofs.Numbers.{memory_disk}

-- a hard change in memory is a live change of its block
pub hard_passes : (heads : List Patch) (c n : ℕ) → IsHardNumber heads c n → PassesAt (test.LiveOn c) heads n
hard_passes heads c n h = subst (PassesAt (test.LiveOn c) heads) h.numbered (live_passes heads c h.patch h.head (memory_disk h.patch.place h.hard.memory) h.hard.change)

-- Met are the live patches of at most level `low` that come to wait for b: the changes of b, what depends on them, and all changes of a block of which a hard one in memory does. They go to `to`, and the floors of b and of those blocks too
module _ (heads : List Patch) (disk : IsOnDiskWithAll heads) (level floor : ℕ → ℕ) (L : AreLeveled heads level floor) (b low to : ℕ) (Met : ℕ → Type 0)
    (each : (n : ℕ) → PassesAt (test.LiveOn b) heads n → level n ≤ low → Met n)
    (up : (m n : ℕ) → Met m → DirectlyOn heads n m → IsLiveNumber heads n → level n ≤ low → Met n)
    (across : (c m n : ℕ) → Met m → IsHardNumber heads c m → PassesAt (test.LiveOn c) heads n → level n ≤ low → Met n)
    (live : (n : ℕ) → Met n → IsLiveNumber heads n) (lows : (n : ℕ) → Met n → level n ≤ low) (whether : (n : ℕ) → Met n ⊎ (Met n → ⊥))
    (above : floor b ≤ low) (next : to ≤ low + 1) (few : to ≤ top_level) (rises : low ≤ to)
    (level' floor' : ℕ → ℕ) (met : (n : ℕ) → Met n → level' n ≡ to) (unmet : (n : ℕ) → (Met n → ⊥) → level' n ≡ level n)
    (own : floor' b ≡ to) (crossed : (c m : ℕ) → Met m → IsHardNumber heads c m → floor' c ≡ to)
    (uncrossed : (c : ℕ) → c ≢ b → ((m : ℕ) → Met m → IsHardNumber heads c m → ⊥) → floor' c ≡ floor c)
    (either : (c : ℕ) → ((m : ℕ) × Met m × IsHardNumber heads c m) ⊎ ((m : ℕ) → Met m → IsHardNumber heads c m → ⊥)) where
  -- no level falls
  pub level_raised : (n : ℕ) → level n ≤ level' n
  level_raised n = elim (whether n) [
    | inl m ↦ let l = lows n m in let e = met n m in omega (arith, l, e, rises)
    | inr u ↦ let e = unmet n u in omega (arith, e)
  ]

  -- what would be met if it were low is in the end as high as those that are
  lifted_to : (n : ℕ) → (level n ≤ low → Met n) → to ≤ level' n
  lifted_to n meets = elim (cases_lt low (level n)) [
    | inl over ↦ let r = level_raised n in omega (arith, over, r, next)
    | inr under ↦ let e = met n (meets under) in omega (arith, e)
  ]

  -- no floor falls
  pub floor_raised : (c : ℕ) → floor c ≤ floor' c
  floor_raised c = elim (cases_eq c b) [
    | inl same ↦ let was = ap floor same in let now = ap floor' same in omega (arith, was, now, own, above, rises)
    | inr other ↦ elim (either c) [
      | inl k ↦
          let under = L.change c k.0 (hard_passes heads c k.0 k.2) in
          let l = lows k.0 k.1 in
          let e = crossed c k.0 k.1 k.2 in
          omega (arith, under, l, e, rises)
      | inr none ↦ let e = uncrossed c other none in omega (arith, e)
    ]
  ]

  direct_lifted : (p q : ℕ) → DirectlyOn heads p q → level' q ≤ level' p
  direct_lifted p q d = elim (whether q) [
    | inl m ↦
        let e = met q m in
        let r = lifted_to p (λ under. up q p m d (live_up heads disk p q (one d) (live q m)) under) in
        omega (arith, e, r)
    | inr u ↦ let e = unmet q u in let k = L.direct p q d in let r = level_raised p in omega (arith, e, k, r)
  ]

  change_lifted : (c p : ℕ) → PassesAt (test.LiveOn c) heads p → floor' c ≤ level' p
  change_lifted c p x = elim (cases_eq c b) [
    | inl same ↦
        let now = ap floor' same in
        let r = lifted_to p (λ under. each p (subst (λ d. PassesAt (test.LiveOn d) heads p) same x) under) in
        omega (arith, now, own, r)
    | inr other ↦ elim (either c) [
      | inl k ↦
          let e = crossed c k.0 k.1 k.2 in
          let r = lifted_to p (λ under. across c k.0 p k.1 k.2 x under) in
          omega (arith, e, r)
      | inr none ↦ let e = uncrossed c other none in let k = L.change c p x in let r = level_raised p in omega (arith, e, k, r)
    ]
  ]

  hard_lifted : (c p : ℕ) → IsHardNumber heads c p → level' p ≤ floor' c
  hard_lifted c p h = elim (whether p) [
    | inl m ↦ let e = met p m in let f = crossed c p m h in omega (arith, e, f)
    | inr u ↦ let e = unmet p u in let k = L.hard c p h in let r = floor_raised c in omega (arith, e, k, r)
  ]

  gate_lifted : (p : ℕ) → IsOpenNumber heads p → level' p ≡ top_level
  gate_lifted p o = elim (whether p) [
    | inl m ↦ let e = met p m in let k = L.gates p o in let l = lows p m in omega (arith, e, k, l, rises, few)
    | inr u ↦ unmet p u ∙ L.gates p o
  ]

  few_lifted : (p : ℕ) → level' p ≤ top_level
  few_lifted p = elim (whether p) [
    | inl m ↦ let e = met p m in omega (arith, e, few)
    | inr u ↦ let e = unmet p u in let k = L.few p in omega (arith, e, k)
  ]

  -- so the patches are leveled as before
  pub lifted : AreLeveled heads level' floor'
  lifted = record { direct = direct_lifted; change = change_lifted; hard = hard_lifted; gates = gate_lifted; few = few_lifted }
