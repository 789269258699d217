use Rattle.std.proofs.Common.{◌∙◌, Contains, Some, ap, inl, inr, subst, sym}
use Rattle.std.proofs.lemmas.List.Elements.{Contains-push_cases}
use Rattle.fst_levels.specs.Needing.{Needing}
use Rattle.fst_levels.specs.declared.needs.Way.{Way}
use Rattle.fst_levels.proofs.needs.Needs.note.Goals as goal

pub returns-then-len-capacity-clause-noted : goal.returns-then-len-capacity-clause-noted
returns-then-len-capacity-clause-noted c w k = elim (Contains-push_cases c.self.inside.ways.items _ w (subst (λ ws. Contains ws w) c.push_reserved.ensures.items k)) [
  | inl was ↦ inl (subst (λ ws. Contains ws w) (ap (λ (v : Needing). v.ways) c.self.view_is) was)
  | inr e ↦ inr (sym (ap (λ (v : Way). v.number) e), c.in-Some.is ∙ ap (λ (v : Way). Some v.end) e)
]
