use Rattle.std.proofs.lemmas.Result.{on_err_weaker}
use Rattle.fst_graph.proofs.Grouped.{answered, fine, failed}
use Rattle.fst_graph.proofs.HeldWhole.{held_foreseen, held_prepared, held_unprepared, make_refuses, held_same, held_as}
use Rattle.fst_graph.proofs.graph.Graph.room.Goals as goal

pub returns-clause-ok : goal.returns-clause-ok
returns-clause-ok c = rw (← c.self.view_is) (fine c.room.result (λ made a. held_foreseen c.self.invariant a) c.room.ensures.ok)

pub returns-clause-refused : goal.returns-clause-refused
returns-clause-refused c = rw (← c.self.view_is) (failed c.room.result (λ f r. make_refuses c.self.invariant _ r) c.room.ensures.refused)

pub invariant_of-self : goal.invariant_of-self
invariant_of-self c =
    answered c.room.result c.room.ensures.prepared c.room.ensures.same
    (λ made same. held_prepared c.self.invariant tt same)
    (λ same. held_unprepared c.self.invariant same)

pub returns-clause-same : goal.returns-clause-same
returns-clause-same c = rw (← c.self.view_is) (on_err_weaker c.room.result (held_same c.self.invariant) c.room.ensures.same)

pub returns-clause-blocks : goal.returns-clause-blocks
returns-clause-blocks c = rw (← c.self.view_is) c.room.ensures.blocks

pub returns-clause-prepared : goal.returns-clause-prepared
returns-clause-prepared c = rw (← c.self.view_is) (fine c.room.result (λ made is. held_as c.self.invariant is) c.room.ensures.prepared)
