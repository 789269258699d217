-- What stands over a block and is no higher than a level: a walk up through that meets all of it.
use Rattle.std.proofs.Common.{◌≡◌, ◌≤◌, ◌↔◌, [], ℕ, Bool, List, Contains, subst, inl, inr}
use Rattle.std.proofs.lemmas.Bool.{cases_eq}
use Rattle.fst_types.specs.{Closure.{Closure, one, join}, Dependencies.IsLiveNumber, Patches.Patch}
use Rattle.fst_heads.specs.{Indices.PassesAt, Reaching.{ShowsBlocks}}
use Rattle.fst_walks.specs.{BothEnds.{IsLowChange, StepsLow}, Descending.{IsLedFrom, Visits}}
use Rattle.fst_levels.specs.{Lifting.MeetsLow, WayBack.StepsUp}
use Rattle.fst_walks.proofs.Ascended.{led_on}
use Rattle.fst_levels.proofs.{Above.change_live, Trails.none_in}
use Rattle.fst_heads.specs.declared.test.Test.TheVariants as test

module _ (patches : List Patch) (level : ℕ → ℕ) (b most : ℕ) (crossed : List Bool) (shown : ShowsBlocks crossed (λ c. c ≡ b)) (start met : List ℕ)
    (starts : Visits (IsLowChange patches level most b) [] start) (meets : (n : ℕ) → Contains met n ↔ IsLedFrom (StepsLow patches level most crossed) start n) where
  abbrev Steps : ℕ → ℕ → Type 0
  Steps = StepsLow patches level most crossed

  step_low : (p q : ℕ) → Steps p q → IsLiveNumber patches q × (level q ≤ most)
  step_low p q s = elim s [ inl up ↦ up.1 | inr k ↦ (change_live patches k.0.block q k.0.change, k.1) ]

  steps_low : (p q : ℕ) → Closure Steps p q → IsLiveNumber patches q × (level q ≤ most)
  steps_low p q (one s) = step_low p q s
  steps_low p q (join {q = r} c d) = steps_low r q d

  is_low : (n : ℕ) → Contains met n → IsLiveNumber patches n × (level n ≤ most)
  is_low n c = elim ((meets n).0 c) [
    | inl first ↦ elim (starts.only n first) [ inl none ↦ absurd (none_in n none) | inr k ↦ (change_live patches b n k.0, k.1) ]
    | inr r ↦ steps_low r.0 n r.2
  ]

  change_met : (n : ℕ) → PassesAt (test.LiveOn b) patches n → level n ≤ most → Contains met n
  change_met n x low = (meets n).1 (inl (starts.each n (x, low)))

  over_met : (m n : ℕ) → Contains met m → StepsUp patches [] m n → level n ≤ most → Contains met n
  over_met m n c s low = elim s [
    | inl up ↦ (meets n).1 (led_on Steps start m n ((meets m).0 c) (inl (up.0, (up.1, low))))
    | inr k ↦ elim (cases_eq k.block b) [
      | inl own ↦ change_met n (subst (λ e. PassesAt (test.LiveOn e) patches n) own k.change) low
      | inr other ↦ (meets n).1 (led_on Steps start m n ((meets m).0 c) (inr (record { block = k.block; hard = k.hard; fresh = λ r. other (shown.only k.block r); change = k.change }, low)))
    ]
  ]

  pub meets_low : MeetsLow patches level b most met
  meets_low = record { live = λ n c. (is_low n c).0; low = λ n c. (is_low n c).1; change = change_met; over = over_met }
