use Rattle.fst_graph.proofs.HeldWhole.{held_same}
use Rattle.fst_graph.proofs.{HeldWhole.held_unprepared, PlaceOf.none_then, WholeCalls.{pick_is, stuck_is}}
use Rattle.fst_graph.proofs.graph.Graph.pick.Goals as goal

pub returns-clause-least : goal.returns-clause-least
returns-clause-least c = rw (← c.self.view_is) (pick_is c.self.inside.rows.items c.self.inside.sparse c.self.invariant.whole _ c.pick.ensures.least)

pub returns-clause-never_stuck : goal.returns-clause-never_stuck
returns-clause-never_stuck c = rw (← c.self.view_is) (none_then c.pick.result (stuck_is c.self.inside.rows.items c.self.inside.sparse c.self.invariant.whole) c.pick.ensures.never_stuck)

pub invariant_of-self : goal.invariant_of-self
invariant_of-self c = held_unprepared c.self.invariant c.pick.ensures.same

pub returns-clause-same : goal.returns-clause-same
returns-clause-same c = rw (← c.self.view_is) (held_same c.self.invariant c.pick.ensures.same)
