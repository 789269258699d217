use Rattle.std.proofs.{Common.{List, refl, sym, inl, inr, arith, length, ◌<◌, ◌∙◌}, lemmas.Bool.false≢true, lemmas.List.length-map}
use Rattle.fst_types.specs.{Facts.IsOnDiskWithAll, Gates.IsOpenNumber, Limits.max_names, Order.{NamesUnknown, depend_order, seal_order}, Patches.Patch, Refusals.{IsFirst, NoneHolds}, declared.fault.Fault.Fault}
use Rattle.std.proofs.Common.{ℕ}
use Rattle.fst_heads.specs.{Heads.patches_of, Names.numbers_of, Nodes.{is_forgotten_in, nodes_of}, declared.head.Head.Head}
use Rattle.fst_graph.specs.{Remembered.AreGone, Sound.remembered_of}
use Rattle.fst_graph.proofs.{Remembered.open_known, RememberedRules.{above_open, seal_clear}}
use Rattle.fst_graph.proofs.gates.depend_fault.Goals as goal

-- what refuses the seal comes first here too
seal_first : (heads : List Patch) (numbers gate : ℕ) (on : List ℕ) (f : Fault) → IsFirst (seal_order heads numbers gate) f → IsFirst (depend_order heads numbers gate on) f
seal_first heads numbers gate on f (inl h) = inl h
seal_first heads numbers gate on f (inr r) = inr (r.0, elim r.1 [ inl h ↦ inl h | inr s ↦ inr (s.0, elim s.1 [ inl h ↦ inl h | inr t ↦ absurd t.1 ]) ])

-- the gate is open, and so among those that are not forgotten
kept : (heads : List Head) (numbers gate : ℕ) → AreGone (is_forgotten_in (nodes_of heads)) (patches_of heads) → IsOnDiskWithAll (patches_of heads) → IsOpenNumber (patches_of heads) gate → NoneHolds (seal_order (patches_of heads) numbers gate)
    → NoneHolds (seal_order (remembered_of heads) numbers gate)
kept heads numbers gate G D o clear = seal_clear (is_forgotten_in (nodes_of heads)) (patches_of heads) numbers G D gate (open_known (is_forgotten_in (nodes_of heads)) (patches_of heads) G D gate o) clear

pub returns-in-Err-clause-first : goal.returns-in-Err-clause-first
returns-in-Err-clause-first c = seal_first _ c.args.numbers c.args.gate (numbers_of c.args.on.now) c.in-Err.fault c.in-Err.ensures.refused

pub returns-then-on-gt-MAX_NAMES-clause-first : goal.returns-then-on-gt-MAX_NAMES-clause-first
returns-then-on-gt-MAX_NAMES-clause-first c =
    let gate = kept c.args.sight.now.heads.now.list.items c.args.numbers c.args.gate c.requires.gone c.requires.sees.disk c.in-Ok.ensures.is_open c.in-Ok.ensures.clear in
    inr (gate.0, inr (gate.1.0, inr (gate.1.1.0, inl (omega (arith, length-map c.args.on.now (λ n. n.0), c.if-on-gt-MAX_NAMES.true), refl))))

pub returns-then-names_unknown-clause-first : goal.returns-then-names_unknown-clause-first
returns-then-names_unknown-clause-first c =
    let gate = kept c.args.sight.now.heads.now.list.items c.args.numbers c.args.gate c.requires.gone c.requires.sees.disk c.in-Ok.ensures.is_open c.in-Ok.ensures.clear in
    let few : max_names < length (numbers_of c.args.on.now) → ⊥ = λ lt. omega (arith, lt, length-map c.args.on.now (λ n. n.0), c.if-on-gt-MAX_NAMES.false) in
    inr (gate.0, inr (gate.1.0, inr (gate.1.1.0, inr (few, inl (c.names_unknown.ensures.0 c.if-names_unknown.true, refl)))))

pub returns-then-closes_cycle-clause-first : goal.returns-then-closes_cycle-clause-first
returns-then-closes_cycle-clause-first c =
    let gate = kept c.args.sight.now.heads.now.list.items c.args.numbers c.args.gate c.requires.gone c.requires.sees.disk c.in-Ok.ensures.is_open c.in-Ok.ensures.clear in
    let few : max_names < length (numbers_of c.args.on.now) → ⊥ = λ lt. omega (arith, lt, length-map c.args.on.now (λ n. n.0), c.if-on-gt-MAX_NAMES.false) in
    let known : NamesUnknown c.args.numbers (numbers_of c.args.on.now) → ⊥ = λ u. false≢true (sym c.if-names_unknown.false ∙ c.names_unknown.ensures.1 u) in
    inr (gate.0, inr (gate.1.0, inr (gate.1.1.0, inr (few, inr (known, inl (above_open (is_forgotten_in (nodes_of c.args.sight.now.heads.now.list.items)) (patches_of c.args.sight.now.heads.now.list.items) c.args.numbers c.requires.gone c.requires.sees.disk c.args.gate (numbers_of c.args.on.now) c.in-Ok.ensures.is_open (c.closes_cycle.ensures.closes.0 c.if-closes_cycle.true), refl))))))

pub returns-clause-clear : goal.returns-clause-clear
returns-clause-clear c =
    let gate = c.in-Ok.ensures.clear in
    let few : max_names < length (numbers_of c.args.on.now) → ⊥ = λ lt. omega (arith, lt, length-map c.args.on.now (λ n. n.0), c.if-on-gt-MAX_NAMES.false) in
    let known : NamesUnknown c.args.numbers (numbers_of c.args.on.now) → ⊥ = λ u. false≢true (sym c.if-names_unknown.false ∙ c.names_unknown.ensures.1 u) in
    (gate.0, (gate.1.0, (gate.1.1.0, (few, (known, ((λ a. false≢true (sym c.if-closes_cycle.false ∙ c.closes_cycle.ensures.closes.1 a)), tt))))))
