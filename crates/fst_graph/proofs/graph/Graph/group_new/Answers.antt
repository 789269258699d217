use Rattle.std.proofs.Common.{inl, inr, refl}
use Rattle.fst_graph.proofs.HeldWhole.{held_new_group, held_past, held_unprepared, held_same, held_new_refused}
use Rattle.fst_graph.proofs.graph.Graph.group_new.Goals as goal

pub add-requires-clause-past : goal.add-requires-clause-past
add-requires-clause-past c =
    let clear = rw (← c.self.view_is) at c.in_default.ensures.clear in
    rw c.reserve.ensures.items (held_past c.self.invariant c.in-Ok.ensures.ok clear.0)

pub invariant_of-self-in-Ok : goal.invariant_of-self-in-Ok
invariant_of-self-in-Ok c =
    let clear = rw (← c.self.view_is) at c.in_default.ensures.clear in
    rw (c.add.ensures, c.reserve.ensures.items) (held_new_group c.self.invariant c.in-Ok.ensures.ok clear.0).1

pub returns-in-Ok-clause-ok : goal.returns-in-Ok-clause-ok
returns-in-Ok-clause-ok c =
    let clear = rw (← c.self.view_is) at c.in_default.ensures.clear in
    rw (← c.self.view_is, c.add.ensures, c.reserve.ensures.items) (held_new_group c.self.invariant c.in-Ok.ensures.ok clear.0).0

pub invariant_of-self : goal.invariant_of-self
invariant_of-self c = held_unprepared c.self.invariant c.unprepare.ensures

pub invariant_of-self-then-is_err : goal.invariant_of-self-then-is_err
invariant_of-self-then-is_err c = rw c.reserve.ensures.items (held_unprepared c.self.invariant c.unprepare-then-is_err.ensures)

pub invariant_of-self-in-Err : goal.invariant_of-self-in-Err
invariant_of-self-in-Err c = rw c.reserve.ensures.items (held_unprepared c.self.invariant c.in-Err.ensures.same)

pub returns-in-Some-clause-refused : goal.returns-in-Some-clause-refused
returns-in-Some-clause-refused c = inl c.in-Some.ensures.first

pub returns-in-Some-clause-same : goal.returns-in-Some-clause-same
returns-in-Some-clause-same c = rw (← c.self.view_is) (held_same c.self.invariant c.unprepare.ensures)

pub returns-then-is_err-clause-refused : goal.returns-then-is_err-clause-refused
returns-then-is_err-clause-refused c = inr (c.in_default.ensures.clear, refl)

pub returns-then-is_err-clause-same : goal.returns-then-is_err-clause-same
returns-then-is_err-clause-same c = rw (← c.self.view_is, c.reserve.ensures.items) (held_same c.self.invariant c.unprepare-then-is_err.ensures)

pub returns-in-Err-clause-refused : goal.returns-in-Err-clause-refused
returns-in-Err-clause-refused c = let clear = rw (← c.self.view_is) at c.in_default.ensures.clear in rw (← c.self.view_is) (held_new_refused c.self.invariant clear.0 c.in-Err.ensures.refused)

pub returns-in-Err-clause-same : goal.returns-in-Err-clause-same
returns-in-Err-clause-same c = rw (← c.self.view_is, c.reserve.ensures.items) (held_same c.self.invariant c.in-Err.ensures.same)
