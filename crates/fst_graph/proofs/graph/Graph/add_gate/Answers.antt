use Rattle.std.proofs.lemmas.Result.{on_err_weaker}
use Rattle.fst_graph.proofs.Grouped.{answered, fine, failed}
use Rattle.fst_graph.proofs.HeldWhole.{held_gate, held_unprepared, room_refuses, held_same}
use Rattle.fst_graph.proofs.graph.Graph.add_gate.Goals as goal

pub invariant_of-self : goal.invariant_of-self
invariant_of-self c = answered c.add_gate.result c.add_gate.ensures.ok c.add_gate.ensures.same (λ no a. (held_gate c.self.invariant a).1) (λ same. held_unprepared c.self.invariant same)

pub returns-clause-ok : goal.returns-clause-ok
returns-clause-ok c = rw (← c.self.view_is) (fine c.add_gate.result (λ no a. (held_gate c.self.invariant a).0) c.add_gate.ensures.ok)

pub returns-clause-refused : goal.returns-clause-refused
returns-clause-refused c = rw (← c.self.view_is) (failed c.add_gate.result (λ f r. room_refuses c.self.invariant r) c.add_gate.ensures.refused)

pub returns-clause-same : goal.returns-clause-same
returns-clause-same c = rw (← c.self.view_is) (on_err_weaker c.add_gate.result (held_same c.self.invariant) c.add_gate.ensures.same)

pub returns-clause-blocks : goal.returns-clause-blocks
returns-clause-blocks c = rw (← c.self.view_is) c.add_gate.ensures.blocks
