-- What is told of a new change: that it is soft, and to which change of its block a way leads back, or that it is hard.
use Rattle.std.proofs.Common.{◌≡◌, ℕ, true, List, Option, None, Some, IfSome, is_some, sym, subst}
use Rattle.std.proofs.lemmas.Bool.{false≢true}
use Rattle.fst_types.specs.{Facts.IsOnDiskWithAll, Grades.FollowsRule, Patches.{Patch, IsRising}}
use Rattle.fst_types.specs.declared.grade.Grade.TheVariants as grade
use Rattle.fst_heads.specs.Grading.{LeadsNowhere}
use Rattle.fst_walks.specs.{Telling.IsTold, declared.graded.Graded.Graded}
use Rattle.fst_levels.specs.WayBack.{LeadsBack}
use Rattle.fst_levels.proofs.NoWayBack.{back_leads}

pub told_soft : (patches : List Patch) (b : ℕ) (row : List ℕ) (may : Type 0) (told : Graded) (end : Option ℕ) → told.grade ≡ grade.Soft → told.end ≡ end → (may → ⊥) → IfSome end (LeadsBack patches b row) → IsTold patches b row may told
told_soft patches b row may told end soft same never back = record {
  graded = subst (λ g. FollowsRule g may) (sym soft) never;
  back = subst (λ e. IfSome e (LeadsBack patches b row)) (sym same) back;
}

pub told_hard : (patches : List Patch) (b : ℕ) (row : List ℕ) (may : Type 0) (told : Graded) → told.grade ≡ grade.Hard → told.end ≡ None → may → IsTold patches b row may told
told_hard patches b row may told hard none does = record {
  graded = subst (λ g. FollowsRule g may) (sym hard) does;
  back = subst (λ e. IfSome e (LeadsBack patches b row)) (sym none) tt;
}

-- where it is known to which a way leads back, it is soft
pub told_back : (patches : List Patch) → IsRising patches → IsOnDiskWithAll patches → (b : ℕ) (row : List ℕ) (told : Graded) (end : Option ℕ) → told.grade ≡ grade.Soft → told.end ≡ end → is_some end ≡ true → IfSome end (LeadsBack patches b row) → IsTold patches b row (LeadsNowhere patches b row) told
told_back patches rising disk b row told None soft same some back = absurd (false≢true some)
told_back patches rising disk b row told (Some n) soft same some back = told_soft patches b row (LeadsNowhere patches b row) told (Some n) soft same (back_leads patches rising disk b row n back) back
