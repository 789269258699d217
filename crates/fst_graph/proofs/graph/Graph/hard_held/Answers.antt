use Rattle.fst_graph.proofs.HeldWhole.{held_same}
use Rattle.std.proofs.lemmas.Option.{IfSome_then}
use Rattle.fst_graph.proofs.{HeldWhole.held_unprepared, PlaceOf.none_then, WholeCalls.{held_was, least_held_is}}
use Rattle.fst_graph.proofs.graph.Graph.hard_held.Goals as goal

pub invariant_of-self : goal.invariant_of-self
invariant_of-self c = held_unprepared c.self.invariant c.hard_held.ensures.same

pub returns-clause-none : goal.returns-clause-none
returns-clause-none c = rw (← c.self.view_is) (none_then c.hard_held.result (λ none q h. let o = held_was c.self.inside.rows.items c.self.inside.sparse c.self.invariant.whole c.args.block.0 q h in none o.0 o.1) c.hard_held.ensures.none)

pub returns-clause-least : goal.returns-clause-least
returns-clause-least c = rw (← c.self.view_is) (IfSome_then c.hard_held.result c.hard_held.ensures.least (λ no l. least_held_is c.self.inside.rows.items c.self.inside.sparse c.self.invariant.whole c.args.block.0 no.0 l))

pub returns-clause-same : goal.returns-clause-same
returns-clause-same c = rw (← c.self.view_is) (held_same c.self.invariant c.hard_held.ensures.same)
