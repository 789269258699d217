use Rattle.std.proofs.Common.{◌∙◌, length, Contains, refl, sym, ap, subst, inl, inr}
use Rattle.std.proofs.lemmas.Bool.{eqb-true, false≢true}
use Rattle.fst_types.specs.Gates.{IsOpenNumber}
use Rattle.fst_heads.specs.{Heads.patches_of, Names.numbers_of}
use Rattle.fst_walks.proofs.{GatesSeen.gates_seen, Searched.{none_depend, named_held}}
use Rattle.fst_walks.proofs.cycle.closes_cycle.Goals as goal

pub returns-then-is_empty-clause-closes : goal.returns-then-is_empty-clause-closes
returns-then-is_empty-clause-closes c =
    let alone = none_depend c.args.sight.now.heads.now.list.items c.args.gate c.args.index c.index.result.now c.requires.sees.linked c.requires.index (ap length (sym (c.as_slice.ensures ∙ ap (λ h. h.dependants.items) c.index.ensures)) ∙ eqb-true _ 0 (sym c.is_empty.ensures ∙ c.if-is_empty.true)) in (
      λ e. (c.args.gate, c.is_named.ensures.0 e, inl refl),
      λ a. c.is_named.ensures.1 (elim a.2 [ inl same ↦ subst (Contains (numbers_of c.args.names.now)) same a.1 | inr on ↦ absurd (alone a.0 on) ]),
    )

pub returns-then-not-names_held-clause-closes : goal.returns-then-not-names_held-clause-closes
returns-then-not-names_held-clause-closes c =
    let sight = c.args.sight.now in
    let o = c.requires.is_open in
    let gate : IsOpenNumber (patches_of sight.heads.now.list.items) c.args.gate = record { patch = o.patch; head = o.head; numbered = o.numbered; is_open = o.is_open } in (
      λ e. absurd (cc),
      λ a. absurd (false≢true (sym c.if-not-names_held.true ∙ c.names_held.ensures.1 (a.0, a.1, ((gates_seen sight c.requires.sees).held a.0).1 (named_held (patches_of sight.heads.now.list.items) c.args.gate a.0 gate a.2)))),
    )
