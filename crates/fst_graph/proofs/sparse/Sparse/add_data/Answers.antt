use Rattle.std.proofs.{Common.{ap, sym, ◌∙◌}, lemmas.Bool.false≢true}
use Rattle.fst_graph.proofs.sparse.Sparse.add_data.Goals as goal

pub put-requires-2 : goal.put-requires-2
put-requires-2 c = (_, ap (λ k. k.prepared) c.in_default.ensures.prepared, tt)

pub returns-clause-prepared : goal.returns-clause-prepared
returns-clause-prepared c = λ n g e. absurd (false≢true (sym c.if-is_prepared.false ∙ c.is_prepared.ensures.1 (n, g, e)))

pub returns-in-Err-clause-prepared : goal.returns-in-Err-clause-prepared
returns-in-Err-clause-prepared c = λ n g e. absurd (false≢true (sym c.if-is_prepared.false ∙ c.is_prepared.ensures.1 (n, g, e)))
