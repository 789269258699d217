-- Nothing leads back to a block whose changes are all on disk.
use Rattle.std.proofs.Common.{◌≡◌, ℕ, List, refl, subst, inl, inr}
use Rattle.fst_types.specs.{Closure.{one, join}, Grades.Reaches, Patches.{Patch, IsRising}}
use Rattle.fst_heads.specs.{Grading.{IsReturning, LeadsNowhere}, Indices.PassesAt}
use Rattle.fst_levels.proofs.ComesBack.{on_live}
use Rattle.fst_heads.specs.declared.test.Test.TheVariants as test

module _ (patches : List Patch) (rising : IsRising patches) (b : ℕ) (none : (n : ℕ) → PassesAt (test.LiveOn b) patches n → ⊥) where
  reaches_none : (c d : ℕ) → Reaches patches c d → d ≡ b → ⊥
  reaches_none c d (one e) same = none e.need.number (subst (λ k. PassesAt (test.LiveOn k) patches e.need.number) same (on_live patches rising b d e.need.number e.need e.needs.head refl e.needs.change e.live))
  reaches_none c d (join {q = k} e f) same = reaches_none k d f same

  returns_none : (n : ℕ) → IsReturning patches b n → ⊥
  returns_none n r = none r.back.number (on_live patches rising b b r.back.number r.back r.back_needed.head refl r.back_needed.change r.back_live)

  pub clean_nowhere : (row : List ℕ) → LeadsNowhere patches b row
  clean_nowhere row = record {
    straight = λ u. elim u.2 [ inl r ↦ returns_none u.0 r | inr low ↦ returns_none low.0 low.2 ];
    open_ended = λ u. elim u.2 [ inl l ↦ reaches_none l.block b l.reaches refl | inr low ↦ reaches_none low.2.block b low.2.reaches refl ];
  }
