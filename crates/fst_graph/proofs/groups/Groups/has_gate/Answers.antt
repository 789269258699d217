use Rattle.std.proofs.{Common.{◌≡◌, ◌-◌, ◌∙◌, true, sym, subst, inl, inr, arith}, lemmas.Bool.false≢true, lemmas.Bool.Decides.nat_tests}
use Rattle.fst_types.specs.Groups.{IsGroupNumber}
use Rattle.fst_graph.specs.Gathered.{groups_of}
use Rattle.fst_graph.proofs.Gathering.{gate_of, tail_gate}
use Rattle.fst_graph.proofs.groups.Groups.has_gate.Goals as goal

pub returns-then-number-gt0 : goal.returns-then-number-gt0
returns-then-number-gt0 c =
    let gs = c.self.inside.items.items in
    let n = c.args.number in
    let some = c.if-number-gt0.true in
    let first = subst (λ hs. IsGroupNumber (groups_of hs) n → c.is_group.result ≡ true) c.deref.ensures.value c.is_group.ensures.1 in
    rw (← c.self.view_is) (
      λ t. tail_gate gs n (n - 1) (omega (arith, some)) (subst (λ hs. IsGroupNumber (groups_of hs) (n - 1)) c.deref-then-number-gt0.ensures.value (c.is_group-then-number-gt0.ensures.0 t)),
      λ h. elim (gate_of gs n h) [
        | inl x ↦ absurd (false≢true (sym c.if-is_group.false ∙ first x))
        | inr y ↦ c.is_group-then-number-gt0.ensures.1 (rw c.deref-then-number-gt0.ensures.value (subst (IsGroupNumber (groups_of gs)) (let next = y.1 in omega (arith, next)) y.2))
      ],
    )

pub returns-else-number-gt0 : goal.returns-else-number-gt0
returns-else-number-gt0 c =
    let gs = c.self.inside.items.items in
    let n = c.args.number in
    let none = c.if-number-gt0.false in
    let first = subst (λ hs. IsGroupNumber (groups_of hs) n → c.is_group.result ≡ true) c.deref.ensures.value c.is_group.ensures.1 in
    rw (← c.self.view_is) (
      λ t. grind (arith, nat_tests, t, none),
      λ h. elim (gate_of gs n h) [
        | inl x ↦ absurd (false≢true (sym c.if-is_group.false ∙ first x))
        | inr y ↦ let next = y.1 in absurd (omega (arith, next, none))
      ],
    )
