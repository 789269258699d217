use Rattle.std.proofs.Common.{Contains, inl, inr, subst, sym}
use Rattle.std.proofs.lemmas.List.Elements.{Contains-get_or}
use Rattle.fst_levels.proofs.below_row.gather.Goals as goal

pub loop-number-preserved : goal.loop-number-preserved
loop-number-preserved c n k = elim (c.gather_one.ensures n k) [
  | inl was ↦ c.loop-number.invariant n was
  | inr e ↦ inr (subst (Contains c.args.row.now) (sym e) (Contains-get_or c.args.row.now c.loop-number.number-index 0 c.loop-number-test.true))
]
