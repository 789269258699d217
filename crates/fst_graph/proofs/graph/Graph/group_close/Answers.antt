use Rattle.std.proofs.Common.{◌∙◌}
use Rattle.fst_graph.proofs.HeldWhole.{held_closed, held_unprepared, held_same}
use Rattle.fst_graph.proofs.graph.Graph.group_close.Goals as goal

pub invariant_of-self-2 : goal.invariant_of-self-2
invariant_of-self-2 c = rw c.close.ensures (held_closed c.self.invariant c.in_default.ensures.clear c.in_default.ensures.found c.seal_if_open.ensures.sealed c.seal_if_open-2.ensures.sealed).1

pub returns-clause-ok : goal.returns-clause-ok
returns-clause-ok c = rw (← c.self.view_is, c.close.ensures) (held_closed c.self.invariant c.in_default.ensures.clear c.in_default.ensures.found c.seal_if_open.ensures.sealed c.seal_if_open-2.ensures.sealed).0

pub returns-in-Some-clause-refused : goal.returns-in-Some-clause-refused
returns-in-Some-clause-refused c = rw (← c.self.view_is) c.in-Some.ensures.first

pub invariant_of-self : goal.invariant_of-self
invariant_of-self c = held_unprepared c.self.invariant c.unprepare.ensures

pub returns-in-Some-clause-same : goal.returns-in-Some-clause-same
returns-in-Some-clause-same c = rw (← c.self.view_is) (held_same c.self.invariant c.unprepare.ensures)

pub returns-clause-blocks : goal.returns-clause-blocks
returns-clause-blocks c = rw (← c.self.view_is) (c.seal_if_open-2.ensures.blocks ∙ c.seal_if_open.ensures.blocks)
