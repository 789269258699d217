use Rattle.std.proofs.lemmas.Result.{on_err_weaker}
use Rattle.std.proofs.Common.{inl, map}
use Rattle.fst_graph.specs.{Rows.whole, Whole.IsUnclosed}
use Rattle.fst_graph.proofs.{GroupCalls.first_closed, Grouped.{answered, fine, failed}, graph.Graph.group_room.Goals.In_default}
use Rattle.fst_graph.proofs.HeldWhole.{held_foretold, held_member_clear, held_member_refused, held_pairs, held_prepared, held_unprepared, held_same, held_as}
use Rattle.fst_graph.proofs.graph.Graph.group_room.Goals as goal

-- the group can get changes
unclosed : (c : In_default) → IsUnclosed c.self.inside.groups.items c.args.group.0
unclosed c = record { found = c.in_default.ensures.found; clear = c.in_default.ensures.clear }

pub member_room-requires-clause-gates : goal.member_room-requires-clause-gates
member_room-requires-clause-gates c = held_pairs c.self.invariant (unclosed (goal.at.member_room-requires-clause-gates c).In_default)

pub invariant_of-self-2 : goal.invariant_of-self-2
invariant_of-self-2 c =
    let u = unclosed (goal.at.invariant_of-self-2 c).In_default in
    answered c.member_room.result c.member_room.ensures.prepared c.member_room.ensures.same
    (λ made same. held_prepared c.self.invariant u same)
    (λ same. held_unprepared c.self.invariant same)

pub returns-clause-ok : goal.returns-clause-ok
returns-clause-ok c = rw (← c.self.view_is) (fine c.member_room.result (λ made t. held_foretold c.self.invariant (unclosed (goal.at.returns-clause-ok c).In_default) t) c.member_room.ensures.ok)

pub returns-clause-clear : goal.returns-clause-clear
returns-clause-clear c = rw (← c.self.view_is) (fine c.member_room.result (λ made m. held_member_clear c.self.invariant (unclosed (goal.at.returns-clause-clear c).In_default) m) c.member_room.ensures.clear)

pub returns-clause-refused : goal.returns-clause-refused
returns-clause-refused c = rw (← c.self.view_is) (failed c.member_room.result (λ f r. held_member_refused c.self.invariant (unclosed (goal.at.returns-clause-refused c).In_default) r) c.member_room.ensures.refused)

pub returns-in-Some-clause-refused : goal.returns-in-Some-clause-refused
returns-in-Some-clause-refused c =
    rw (← c.self.view_is) (inl (first_closed (map (whole c.self.inside.rows.items) c.self.inside.sparse.heads) c.self.inside.sparse.numbers c.self.inside.groups.items c.args.group.0 c.args.block.0 c.args.span.at c.args.span.len c.in-Some.fault c.in-Some.ensures.first))

pub invariant_of-self : goal.invariant_of-self
invariant_of-self c = held_unprepared c.self.invariant c.unprepare.ensures

pub returns-in-Some-clause-same : goal.returns-in-Some-clause-same
returns-in-Some-clause-same c = rw (← c.self.view_is) (held_same c.self.invariant c.unprepare.ensures)

pub returns-clause-same : goal.returns-clause-same
returns-clause-same c = rw (← c.self.view_is) (on_err_weaker c.member_room.result (held_same c.self.invariant) c.member_room.ensures.same)

pub returns-clause-blocks : goal.returns-clause-blocks
returns-clause-blocks c = rw (← c.self.view_is) c.member_room.ensures.blocks

pub returns-clause-next : goal.returns-clause-next
returns-clause-next c = rw (← c.self.view_is) c.member_room.ensures.next

pub returns-clause-prepared : goal.returns-clause-prepared
returns-clause-prepared c = rw (← c.self.view_is) (fine c.member_room.result (λ made is. held_as c.self.invariant is) c.member_room.ensures.prepared)
