use Rattle.std.proofs.{Common.{sym, ap, subst, ◌∙◌, refl, inl, inr, Contains}, lemmas.Bool.false≢true}
use Rattle.fst_types.specs.Groups.{Group}
use Rattle.fst_graph.specs.Gathered.{group_of}
use Rattle.fst_graph.proofs.groups.Groups.after_fault.Goals as goal

pub returns-then-group-clause-first : goal.returns-then-group-clause-first
returns-then-group-clause-first c =
    let some = c.in-Some.ensures.some in
    let other = c.in-Some-get.ensures.some in
    inr (λ e. elim e [ inl a ↦ a (group_of c.in-Some.group.now, some) | inr b ↦ b (group_of c.in-Some-get.field-0.now, other) ], inl ((group_of c.in-Some.group.now, some, c.if-group.true), refl))

pub returns-then-group-2-clause-first : goal.returns-then-group-2-clause-first
returns-then-group-2-clause-first c =
    let some = c.in-Some.ensures.some in
    let other = c.in-Some-get.ensures.some in
    let member = c.in-Some.ensures.begun.0 c.if-group-2.true in
    inr (
      λ e. elim e [ inl a ↦ a (group_of c.in-Some.group.now, some) | inr b ↦ b (group_of c.in-Some-get.field-0.now, other) ],
      inr (
        λ x. false≢true (sym c.if-group.false ∙ (sym (ap (λ (g : Group). g.closed) (c.in-Some.ensures.only x.0 x.1)) ∙ x.2)),
        inl ((group_of c.in-Some.group.now, some, member.0, member.1), refl),
      ),
    )

pub returns-clause-clear : goal.returns-clause-clear
returns-clause-clear c =
    let some = c.in-Some.ensures.some in
    let other = c.in-Some-get.ensures.some in (
      λ e. elim e [ inl a ↦ a (group_of c.in-Some.group.now, some) | inr b ↦ b (group_of c.in-Some-get.field-0.now, other) ],
      (
        λ x. false≢true (sym c.if-group.false ∙ (sym (ap (λ (g : Group). g.closed) (c.in-Some.ensures.only x.0 x.1)) ∙ x.2)),
        (
          λ h. false≢true (sym c.if-group-2.false ∙ c.in-Some.ensures.begun.1 (h.2, subst (λ (g : Group). Contains g.members h.2) (c.in-Some.ensures.only h.0 h.1) h.3)),
          tt,
        ),
      ),
    )
