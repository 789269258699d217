use Rattle.fst_graph.proofs.HeldWhole.{held_forget}
use Rattle.fst_graph.proofs.graph.Graph.forget.Goals as goal

pub invariant_of-self : goal.invariant_of-self
invariant_of-self c = (held_forget c.self.invariant c.forget.ensures).1

pub returns : goal.returns
returns c = rw (← c.self.view_is) (held_forget c.self.invariant c.forget.ensures).0
