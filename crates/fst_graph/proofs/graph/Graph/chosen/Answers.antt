use Rattle.fst_heads.specs.Names.{numbers_of}
use Rattle.fst_graph.proofs.Grouped.{fine, failed}
use Rattle.fst_graph.proofs.HeldWhole.{held_unprepared, held_same}
use Rattle.fst_graph.proofs.WholeCalls.{choice_is, ready_is}
use Rattle.fst_graph.proofs.graph.Graph.chosen.Goals as goal

pub invariant_of-self : goal.invariant_of-self
invariant_of-self c = held_unprepared c.self.invariant c.chosen.ensures.same

pub returns-clause-ok : goal.returns-clause-ok
returns-clause-ok c = rw (← c.self.view_is) (fine c.chosen.result (λ ns a. choice_is c.self.inside.rows.items c.self.inside.sparse c.self.invariant.whole c.args.block.0 (numbers_of ns.items) a) c.chosen.ensures.ok)

pub returns-clause-refused : goal.returns-clause-refused
returns-clause-refused c = rw (← c.self.view_is) (failed c.chosen.result (λ f a. (ready_is c.self.inside.rows.items c.self.inside.sparse c.self.invariant.whole c.args.block.0 a.0, a.1)) c.chosen.ensures.refused)

pub returns-clause-same : goal.returns-clause-same
returns-clause-same c = rw (← c.self.view_is) (held_same c.self.invariant c.chosen.ensures.same)
