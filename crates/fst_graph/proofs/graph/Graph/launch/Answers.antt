use Rattle.fst_heads.specs.Names.{numbers_of}
use Rattle.fst_graph.specs.{Known.MayLaunch, Rows.whole_known}
use Rattle.fst_graph.proofs.{Grouped.may_launch, HeldWhole.held_launch, WholeCalls.may_launch_was, graph.Graph.launch.Goals.After-self}
use Rattle.fst_graph.proofs.graph.Graph.launch.Goals as goal

-- the chosen may be launched among the whole rows
may : (c : After-self) → MayLaunch (whole_known c.self.inside.rows.items c.self.inside.sparse) (numbers_of c.args.chosen.now)
may c = may_launch (whole_known c.self.inside.rows.items c.self.inside.sparse) _ c.self.inside.groups.items (numbers_of c.args.chosen.now) c.self.view_is c.requires

pub launch-requires : goal.launch-requires
launch-requires c = may_launch_was c.self.inside.rows.items c.self.inside.sparse c.self.invariant.whole (numbers_of c.args.chosen.now) (may (goal.at.launch-requires c).After-self)

pub invariant_of-self : goal.invariant_of-self
invariant_of-self c = (held_launch c.self.invariant (may (goal.at.invariant_of-self c).After-self) c.launch.ensures.launched).1

pub returns-clause-launched : goal.returns-clause-launched
returns-clause-launched c = rw (← c.self.view_is) (held_launch c.self.invariant (may (goal.at.returns-clause-launched c).After-self) c.launch.ensures.launched).0

pub returns-clause-blocks : goal.returns-clause-blocks
returns-clause-blocks c = rw (← c.self.view_is) c.launch.ensures.blocks
