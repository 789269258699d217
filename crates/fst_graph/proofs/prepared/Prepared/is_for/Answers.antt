use Rattle.std.proofs.{Common.{◌∙◌, sym}, lemmas.Bool.Decides.Decides-eqb, lemmas.Slice.Eq.slice_eq-Decides}
use Rattle.fst_graph.proofs.{Readied.{name_decides, span_tested, no_gates_left}, prepared.Prepared.is_for.Goals.{then-self-block, else-self-block}}
use Rattle.fst_graph.proofs.prepared.Prepared.is_for.Goals as goal

pub returns-then-eq : goal.returns-then-eq
returns-then-eq c =
    let names = slice_eq-Decides name_decides c.as_slice.result.now c.args.names.now c.eq-then-eq.result c.eq-then-eq.ensures in
    elim c.if-self-block.branch [
      | then-self-block w ↦
          let span = span_tested c.args.self.now.span c.args.span (sym w.eq.ensures ∙ (sym w.value-is ∙ c.if-eq.true)) in
          (λ e. (w.if-self-block.true, span, sym c.as_slice.ensures.value ∙ names.0 e, no_gates_left c.args.self.now.gates (sym c.is_some.ensures ∙ c.if-is_some.false)), λ h. names.1 (c.as_slice.ensures.value ∙ h.2))
      | else-self-block w ↦ absurd (w.if-self-block.false ((Decides-eqb c.args.self.now.block c.args.block).0 (sym w.value-is ∙ c.if-eq.true)))
    ]
