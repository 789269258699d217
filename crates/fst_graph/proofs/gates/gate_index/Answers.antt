use Rattle.std.proofs.Common.{◌∙◌, inl, inr, refl, ap, sym}
use Rattle.fst_heads.specs.Heads.{kind_of}
use Rattle.fst_graph.proofs.GateIndex.{open_number, sealed_number, sealed_kind, not_both, change_no_gate, empty_no_gate, marked_kept, none_kept, other_kept, sealed_kept}
use Rattle.fst_graph.proofs.gates.gate_index.Goals as goal

pub returns-in_default-clause-refused : goal.returns-in_default-clause-refused
returns-in_default-clause-refused c =
    inr ((λ n. n (c.is_given.ensures.0 c.if-not-is_given.false)), inl (none_kept c.args.heads.now.list.items c.args.heads.now.rising c.args.numbers c.args.gate c.in_default.ensures.none, refl))

pub returns-then-index-clause-refused : goal.returns-then-index-clause-refused
returns-then-index-clause-refused c =
    marked_kept c.args.heads.now.list.items c.args.heads.now.rising c.args.numbers c.args.gate c.in-Some.index _ c.in-Some.ensures.found (sym (ap (λ h. h.forgotten) c.index.ensures) ∙ c.if-index.true) (c.is_given.ensures.0 c.if-not-is_given.false)

pub returns-in-OpenGate-clause-is_open : goal.returns-in-OpenGate-clause-is_open
returns-in-OpenGate-clause-is_open c = open_number c.args.heads.now.list.items c.args.heads.now.rising c.args.gate c.in-Some.index _ c.in-Some.ensures.found (sym (ap (λ h. kind_of h.kind) c.index-2.ensures) ∙ ap kind_of c.in-OpenGate.is)

pub returns-in-OpenGate-clause-clear : goal.returns-in-OpenGate-clause-clear
returns-in-OpenGate-clause-clear c =
    let heads = c.args.heads.now.list.items in
    let is_open = open_number heads c.args.heads.now.rising c.args.gate c.in-Some.index _ c.in-Some.ensures.found (sym (ap (λ h. kind_of h.kind) c.index-2.ensures) ∙ ap kind_of c.in-OpenGate.is) in
    ((λ n. n (c.is_given.ensures.0 c.if-not-is_given.false)), ((λ n. n (inl is_open)), ((λ s. not_both _ (sym (ap (λ h. kind_of h.kind) c.index-2.ensures) ∙ ap kind_of c.in-OpenGate.is) (sealed_kind heads c.args.heads.now.rising c.args.gate c.in-Some.index _ c.in-Some.ensures.found s)), tt)))

pub returns-in-SealedGate-clause-refused : goal.returns-in-SealedGate-clause-refused
returns-in-SealedGate-clause-refused c =
    let heads = c.args.heads.now.list.items in
    sealed_kept heads c.args.heads.now.rising c.args.numbers c.args.gate c.in-Some.index _ c.in-Some.ensures.found (sym (ap (λ h. h.forgotten) c.index.ensures) ∙ c.if-index.false) (c.is_given.ensures.0 c.if-not-is_given.false)
    (sealed_number heads c.args.heads.now.rising c.args.gate c.in-Some.index _ c.in-Some.ensures.found (sym (ap (λ h. kind_of h.kind) c.index-2.ensures) ∙ ap kind_of c.in-SealedGate.is))

pub returns-in-Change-clause-refused : goal.returns-in-Change-clause-refused
returns-in-Change-clause-refused c =
    let heads = c.args.heads.now.list.items in
    other_kept heads c.args.heads.now.rising c.args.numbers c.args.gate c.in-Some.index _ c.in-Some.ensures.found (sym (ap (λ h. h.forgotten) c.index.ensures) ∙ c.if-index.false) (c.is_given.ensures.0 c.if-not-is_given.false)
    (change_no_gate heads c.args.heads.now.rising c.args.gate c.in-Some.index _ c.in-Some.ensures.found _ _ _ _ (sym (ap (λ h. kind_of h.kind) c.index-2.ensures) ∙ ap kind_of c.in-Change.is))

pub returns-in-Empty-clause-refused : goal.returns-in-Empty-clause-refused
returns-in-Empty-clause-refused c =
    let heads = c.args.heads.now.list.items in
    other_kept heads c.args.heads.now.rising c.args.numbers c.args.gate c.in-Some.index _ c.in-Some.ensures.found (sym (ap (λ h. h.forgotten) c.index.ensures) ∙ c.if-index.false) (c.is_given.ensures.0 c.if-not-is_given.false)
    (empty_no_gate heads c.args.heads.now.rising c.args.gate c.in-Some.index _ c.in-Some.ensures.found (sym (ap (λ h. kind_of h.kind) c.index-2.ensures) ∙ ap kind_of c.in-Empty.is))
