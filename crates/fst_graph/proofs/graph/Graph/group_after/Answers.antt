use Rattle.fst_graph.proofs.HeldWhole.{held_after, held_after_refused, held_unprepared, held_same}
use Rattle.std.proofs.Common.{inl, map}
use Rattle.fst_graph.specs.Rows.{whole}
use Rattle.fst_graph.proofs.GroupCalls.{first_unstarted}
use Rattle.fst_graph.proofs.graph.Graph.group_after.Goals as goal

pub returns-in-Some-clause-refused : goal.returns-in-Some-clause-refused
returns-in-Some-clause-refused c = rw (← c.self.view_is) (inl (first_unstarted (map (whole c.self.inside.rows.items) c.self.inside.sparse.heads) c.self.inside.groups.items c.args.group.0 c.args.on.0 c.in-Some.fault c.in-Some.ensures.first))

pub invariant_of-self-in-Ok : goal.invariant_of-self-in-Ok
invariant_of-self-in-Ok c = rw c.note_after.ensures (held_after c.self.invariant c.in_default.ensures.clear c.in_default.ensures.found c.in_default.ensures.other c.in-Ok.ensures.ok).1

pub returns-in-Ok-clause-ok : goal.returns-in-Ok-clause-ok
returns-in-Ok-clause-ok c = rw (← c.self.view_is, c.note_after.ensures) (held_after c.self.invariant c.in_default.ensures.clear c.in_default.ensures.found c.in_default.ensures.other c.in-Ok.ensures.ok).0

pub returns-in-Err-clause-refused : goal.returns-in-Err-clause-refused
returns-in-Err-clause-refused c = rw (← c.self.view_is) (held_after_refused c.self.invariant c.in_default.ensures.clear c.in_default.ensures.found c.in_default.ensures.other c.in-Err.ensures.refused)

pub invariant_of-self : goal.invariant_of-self
invariant_of-self c = held_unprepared c.self.invariant c.unprepare.ensures

pub invariant_of-self-in-Err : goal.invariant_of-self-in-Err
invariant_of-self-in-Err c = held_unprepared c.self.invariant c.in-Err.ensures.same

pub returns-in-Some-clause-same : goal.returns-in-Some-clause-same
returns-in-Some-clause-same c = rw (← c.self.view_is) (held_same c.self.invariant c.unprepare.ensures)

pub returns-in-Err-clause-same : goal.returns-in-Err-clause-same
returns-in-Err-clause-same c = rw (← c.self.view_is) (held_same c.self.invariant c.in-Err.ensures.same)
