use Rattle.fst_graph.proofs.HeldWhole.{held_land}
use Rattle.fst_graph.proofs.graph.Graph.land.Goals as goal

pub invariant_of-self : goal.invariant_of-self
invariant_of-self c = (held_land c.self.invariant c.land.ensures.landed).1

pub returns-clause-landed : goal.returns-clause-landed
returns-clause-landed c = rw (← c.self.view_is) (held_land c.self.invariant c.land.ensures.landed).0

pub returns-clause-blocks : goal.returns-clause-blocks
returns-clause-blocks c = rw (← c.self.view_is) c.land.ensures.blocks
