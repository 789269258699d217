-- What is told of sixty-four blocks of which none has a mark.
use Rattle.fst_heads.proofs.Basics.{◌≡◌, ◌<◌, ◌≤◌, ◌+◌, ◌*◌, ◌/◌, ◌∙◌, ℕ, Bool, false, List, length, set, get_or, sym, ap, arith, inl, inr, cases_eq, false≢true, false_from_ne_true, length-set, get_or-set_other}
use Rattle.fst_heads.proofs.Words.{Standing, may_be_written}
use Rattle.fst_heads.specs.Standings.{AreTold}

-- of sixty-four blocks that have no mark none is told
pub told_none : (standings : List Standing) (told : List Bool) (g : ℕ) → AreTold standings told → ((b : ℕ) (d : Standing) → g * 64 ≤ b → b < g * 64 + 64 → b < length standings → may_be_written (get_or standings b d) ≡ false) → AreTold standings (set told g false)
told_none standings told g T none = record {
  few = T.few;
  long = length-set told g false ∙ T.long;
  marked = λ c d e within may.
      elim (cases_eq (c / 64) g) [
        | inl here ↦ absurd (false≢true (sym (none c d (omega (arith, here)) (omega (arith, here)) within) ∙ may))
        | inr off ↦ get_or-set_other told g (c / 64) false e off ∙ T.marked c d e within may
      ];
}

-- where nothing is told of sixty-four blocks none of them has a mark
pub none_told : (standings : List Standing) (told : List Bool) (g b : ℕ) (d : Standing) → AreTold standings told → get_or told g false ≡ false → g * 64 ≤ b → b < g * 64 + 64 → b < length standings → may_be_written (get_or standings b d) ≡ false
none_told standings told g b d T off low high within = false_from_ne_true _ (λ may.
    let place : b / 64 ≡ g = omega (arith, low, high) in
    false≢true (sym off ∙ (ap (λ k. get_or told k false) (sym place) ∙ T.marked b d false within may)))
