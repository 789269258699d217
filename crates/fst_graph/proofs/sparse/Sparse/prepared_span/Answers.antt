use Rattle.std.proofs.Common.{refl}
use Rattle.fst_graph.specs.Ready.{prepared_of}
use Rattle.fst_graph.proofs.sparse.Sparse.prepared_span.Goals as goal

pub returns-in-Some-clause-some : goal.returns-in-Some-clause-some
returns-in-Some-clause-some c = (prepared_of c.self.inside.numbers c.in-Some.prepared, rw (← c.self.view_is, c.in-Some.is) refl, refl, refl, refl)
