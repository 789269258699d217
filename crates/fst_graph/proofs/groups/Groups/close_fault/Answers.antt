use Rattle.std.proofs.{Common.{sym, ap, ◌∙◌, refl, inl}, lemmas.Bool.false≢true}
use Rattle.fst_types.specs.Groups.{Group}
use Rattle.fst_graph.specs.Gathered.{group_of}
use Rattle.fst_graph.proofs.groups.Groups.close_fault.Goals as goal

pub returns-in_default-clause-first : goal.returns-in_default-clause-first
returns-in_default-clause-first c = inl (c.in_default.ensures.none, refl)

pub returns-clause-clear : goal.returns-clause-clear
returns-clause-clear c = (
  λ none. none (group_of c.in-Some.group.now, c.in-Some.ensures.some),
  (λ x. false≢true (sym c.if-group.false ∙ (sym (ap (λ (g : Group). g.closed) (c.in-Some.ensures.only x.0 x.1)) ∙ x.2)), tt),
)
