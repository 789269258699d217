use Rattle.std.proofs.Common.{◌≡◌, ◌∙◌, ℕ, true, false, length, get_or, set, sym, subst, inl, inr, arith, get_or-set_same, get_or-set_other}
use Rattle.std.proofs.{lemmas.Bool.{cases_eq, cases_lt, false≢true}, lemmas.List.get_or_past}
use Rattle.fst_heads.specs.Reaching.{IsReached}
use Rattle.fst_walks.proofs.descent.show_only.Goals as goal

pub returns : goal.returns
returns c =
    let none = c.loop-shown.reached in
    let b = c.args.block in
    let clear : (k : ℕ) → get_or none k false ≡ false = λ k. elim (cases_lt k (length none)) [
      | inl lt ↦ c.loop-shown.invariant k (omega (arith, lt, c.loop-shown-test.false))
      | inr past ↦ get_or_past none k false past
    ] in
    record {
      only = λ k shown. elim (cases_eq k b) [
        | inl e ↦ e
        | inr ne ↦ absurd (false≢true (sym (clear k) ∙ (sym (get_or-set_other none b k true false ne) ∙ shown)))
      ];
      each = λ k e. subst (IsReached (set none b true)) (sym e) (get_or-set_same none b true false (omega (arith, c.requires, c.loop-shown.auto.reached)));
    }
