-- One step more of a walk that crosses blocks: what is near the one that is next and what is across its block, told at once.
use Rattle.std.proofs.Common.{◌≡◌, ◌<◌, ◌≤◌, ◌+◌, ◌⊎◌, ℕ, Bool, false, List, length, get_or, Contains, sym, ◌∙◌, inl, inr, arith}
use Rattle.std.proofs.lemmas.{Bool.{cases_Bool, false≢true}, List.Elements.{Contains-get_or}}
use Rattle.fst_types.specs.{Dependencies.DirectlyOn, Patches.Patch}
use Rattle.fst_heads.specs.{Grading.IsHardNumber, Indices.PassesAt, Reaching.IsReached}
use Rattle.fst_walks.specs.{BothEnds.{CrossesDown, IsHighNeed, IsLow, IsLowChange, ShowsBlockUnder, StepsBelow, StepsHigh, StepsLow}, Descending.{IsLedFrom, Visits}}
use Rattle.fst_levels.specs.WayBack.{Crosses, ShowsBlockOf}
use Rattle.fst_walks.proofs.{Ascended.{Walking, climbing_at, climbing_begun, led_on, next_or_done}, Visiting.visits_old}
use Rattle.fst_heads.specs.declared.test.Test.TheVariants as test

module _ (Near From To : ℕ → ℕ → Type 0) (Across : List Bool → ℕ → ℕ → Type 0)
    (over : (old : List Bool) (p q c : ℕ) → From c p → (IsReached old c → ⊥) → To c q → Across old p q)
    (parts : (old : List Bool) (p q : ℕ) → Across old p q → (c : ℕ) × From c p × (IsReached old c → ⊥) × To c q)
    (crossed : List Bool) (start : List ℕ) (at turn next : ℕ) (now after : List Bool) (queue new : List ℕ) (past : at ≤ length queue) (inside : turn < length queue)
    (few : (i : ℕ) → i < next → (i < at) ⊎ (i ≡ turn))
    (x : Walking (λ p q. Near p q ⊎ Across crossed p q) To crossed start at now queue)
    (v : Visits (λ q. Near (get_or queue turn 0) q ⊎ Across now (get_or queue turn 0) q) queue new)
    (kept : (c : ℕ) → IsReached now c → IsReached after c) (only : (c : ℕ) → IsReached after c → IsReached now c ⊎ From c (get_or queue turn 0)) where
  abbrev n : ℕ
  n = get_or queue turn 0

  old_new : (q : ℕ) → Contains queue q → Contains new q
  old_new q c = visits_old (λ m. Near n m ⊎ Across now n m) queue new v q c

  -- a block that was not crossed at first is by now, or is crossed here
  across : (c q : ℕ) → From c n → (IsReached crossed c → ⊥) → To c q → Contains new q
  across c q from fresh to = elim (cases_Bool (get_or now c false)) [
    | inl shown ↦ old_new q (x.shut c q shown fresh to)
    | inr not ↦ v.each q (inr (over now n q c from (λ r. false≢true (sym not ∙ r)) to))
  ]

  both : Visits (λ q. Near n q ⊎ Across crossed n q) queue new
  both = record {
    kept = v.kept;
    only = λ q c. elim (v.only q c) [
      | inl old ↦ inl old
      | inr s ↦ elim s [
        | inl near ↦ inr (inl near)
        | inr k ↦ let p = parts now n q k in inr (inr (over crossed n q p.0 p.1 (λ r. p.2 (x.kept p.0 r)) p.3))
      ]
    ];
    each = λ q s. elim s [
      | inl near ↦ v.each q (inl near)
      | inr k ↦ let p = parts crossed n q k in across p.0 q p.1 p.2 p.3
    ];
  }

  pub walking_at : Walking (λ p q. Near p q ⊎ Across crossed p q) To crossed start next after new
  walking_at = record {
    climbing = climbing_at (λ p q. Near p q ⊎ Across crossed p q) start at turn next queue new past inside few x.climbing both;
    kept = λ c r. kept c (x.kept c r);
    shut = λ c q r fresh to. elim (only c r) [ inl old ↦ old_new q (x.shut c q old fresh to) | inr from ↦ across c q from fresh to ];
  }

-- one step more
module _ (Near From To : ℕ → ℕ → Type 0) (Across : List Bool → ℕ → ℕ → Type 0)
    (over : (old : List Bool) (p q c : ℕ) → From c p → (IsReached old c → ⊥) → To c q → Across old p q)
    (parts : (old : List Bool) (p q : ℕ) → Across old p q → (c : ℕ) × From c p × (IsReached old c → ⊥) × To c q)
    (crossed : List Bool) (start : List ℕ) (at : ℕ) (now after : List Bool) (queue new : List ℕ) (inside : at < length queue) where
  pub walking_step : Walking (λ p q. Near p q ⊎ Across crossed p q) To crossed start at now queue → Visits (λ q. Near (get_or queue at 0) q ⊎ Across now (get_or queue at 0) q) queue new
      → ((c : ℕ) → IsReached now c → IsReached after c) → ((c : ℕ) → IsReached after c → IsReached now c ⊎ From c (get_or queue at 0)) → Walking (λ p q. Near p q ⊎ Across crossed p q) To crossed start (at + 1) after new
  walking_step = walking_at Near From To Across over parts crossed start at at (at + 1) now after queue new (omega (arith, inside)) inside (next_or_done at)

-- what the walk starts from stays in the queue
pub walking_kept : (Steps To : ℕ → ℕ → Type 0) (crossed : List Bool) (start : List ℕ) (at : ℕ) (now : List Bool) (queue : List ℕ) → Walking Steps To crossed start at now queue → (n : ℕ) → Contains start n → Contains queue n
walking_kept Steps To crossed start at now queue x = climbing_begun Steps start at queue x.climbing

-- a step up through what is low
module _ (patches : List Patch) (level : ℕ → ℕ) (most : ℕ) (crossed : List Bool) (start : List ℕ) (at : ℕ) (now after : List Bool) (queue new : List ℕ) (inside : at < length queue) where
  pub low_step : Walking (StepsLow patches level most crossed) (IsLowChange patches level most) crossed start at now queue → Visits (StepsLow patches level most now (get_or queue at 0)) queue new → ShowsBlockOf patches (get_or queue at 0) now after
      → Walking (StepsLow patches level most crossed) (IsLowChange patches level most) crossed start (at + 1) after new
  low_step x v shown =
      walking_step (λ p q. DirectlyOn patches q p × IsLow patches level most q) (IsHardNumber patches) (IsLowChange patches level most) (λ old p q. Crosses patches old p q × (level q ≤ most))
      (λ old p q c hard fresh to. (record { block = c; hard = hard; fresh = fresh; change = to.0 }, to.1))
      (λ old p q k. (k.0.block, k.0.hard, k.0.fresh, (k.0.change, k.1)))
      crossed start at now after queue new inside x v shown.kept shown.only

-- what a step down leads to from any in the queue, the walk leads to
pub high_led : (patches : List Patch) (level : ℕ → ℕ) (least : ℕ) (needs : ℕ → List ℕ) (crossed : List Bool) (start : List ℕ) (at turn : ℕ) (now : List Bool) (queue : List ℕ) → turn < length queue → Walking (StepsHigh patches level least needs crossed) (IsHighNeed patches level least needs) crossed start at now queue
    → (q : ℕ) → StepsHigh patches level least needs now (get_or queue turn 0) q → IsLedFrom (StepsHigh patches level least needs crossed) start q
high_led patches level least needs crossed start at turn now queue inside x q s =
    led_on (StepsHigh patches level least needs crossed) start (get_or queue turn 0) q (x.climbing.only (get_or queue turn 0) (Contains-get_or queue turn 0 inside)) (elim s [
      | inl below ↦ inl below
      | inr k ↦ inr (record { block = k.0.block; change = k.0.change; fresh = λ r. k.0.fresh (x.kept k.0.block r); need = k.0.need }, k.1)
    ])

-- a step down through what is high, at any turn
module _ (patches : List Patch) (level : ℕ → ℕ) (least : ℕ) (needs : ℕ → List ℕ) (crossed : List Bool) (start : List ℕ) (at turn next : ℕ) (now after : List Bool) (queue new : List ℕ) (past : at ≤ length queue) (inside : turn < length queue)
    (few : (i : ℕ) → i < next → (i < at) ⊎ (i ≡ turn)) where
  high_at : Walking (StepsHigh patches level least needs crossed) (IsHighNeed patches level least needs) crossed start at now queue → Visits (StepsHigh patches level least needs now (get_or queue turn 0)) queue new → ShowsBlockUnder patches (get_or queue turn 0) now after
      → Walking (StepsHigh patches level least needs crossed) (IsHighNeed patches level least needs) crossed start next after new
  high_at x v shown =
      walking_at (StepsBelow patches level least) (λ b p. PassesAt (test.LiveOn b) patches p) (IsHighNeed patches level least needs) (λ old p q. CrossesDown patches needs old p q × (least ≤ level q))
      (λ old p q c change fresh need. (record { block = c; change = change; fresh = fresh; need = need.0 }, need.1))
      (λ old p q k. (k.0.block, k.0.change, k.0.fresh, (k.0.need, k.1)))
      crossed start at turn next now after queue new past inside few x v shown.kept shown.only

module _ (patches : List Patch) (level : ℕ → ℕ) (least : ℕ) (needs : ℕ → List ℕ) (crossed : List Bool) (start : List ℕ) (at : ℕ) (now after : List Bool) (queue new : List ℕ) where
  -- the next turn
  pub high_step : at < length queue → Walking (StepsHigh patches level least needs crossed) (IsHighNeed patches level least needs) crossed start at now queue → Visits (StepsHigh patches level least needs now (get_or queue at 0)) queue new → ShowsBlockUnder patches (get_or queue at 0) now after
      → Walking (StepsHigh patches level least needs crossed) (IsHighNeed patches level least needs) crossed start (at + 1) after new
  high_step inside = high_at patches level least needs crossed start at at (at + 1) now after queue new (omega (arith, inside)) inside (next_or_done at)

  -- a later one: what is done in turn stays done
  pub high_beside : (turn : ℕ) → at ≤ length queue → turn < length queue → Walking (StepsHigh patches level least needs crossed) (IsHighNeed patches level least needs) crossed start at now queue → Visits (StepsHigh patches level least needs now (get_or queue turn 0)) queue new
      → ShowsBlockUnder patches (get_or queue turn 0) now after → Walking (StepsHigh patches level least needs crossed) (IsHighNeed patches level least needs) crossed start at after new
  high_beside turn past inside = high_at patches level least needs crossed start at turn at now after queue new past inside (λ i lt. inl lt)
