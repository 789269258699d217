use Rattle.std.proofs.Common.{◌≡◌, Some, subst, sym}
use Rattle.fst_graph.specs.Known.{Known, Prepared}
use Rattle.fst_graph.proofs.HeldWhole.{held_put}
use Rattle.fst_graph.proofs.graph.Graph.put_down.Goals.{After-self}
use Rattle.fst_graph.proofs.graph.Graph.put_down.Goals as goal

-- what is prepared is for the group
ready : (c : After-self) → (x : Prepared) × (c.self.inside.sparse.prepared ≡ Some x) × (x.group ≡ Some c.args.group.0)
ready c = subst (λ (v : Known). (x : Prepared) × (v.prepared ≡ Some x) × (x.group ≡ Some c.args.group.0)) (sym c.self.view_is) c.requires

pub add_member-made-requires : goal.add_member-made-requires
add_member-made-requires c = ready (goal.at.add_member-made-requires c).After-self

pub invariant_of-self : goal.invariant_of-self
invariant_of-self c =
    let r = c.add_member-made.result in
    let x = c.in-Some.ensures.some in
    rw c.note_member.ensures (held_put c.self.invariant c.add_member-made.new.self r.0.0 r.1 (ready (goal.at.invariant_of-self c).After-self) c.add_member-made.ensures.added x.1 c.with-self-inside.ensures x.2 x.3 x.4).1

pub returns-clause-added : goal.returns-clause-added
returns-clause-added c =
    let r = c.add_member-made.result in
    let x = c.in-Some.ensures.some in
    rw (← c.self.view_is, c.note_member.ensures) (held_put c.self.invariant c.add_member-made.new.self r.0.0 r.1 (ready (goal.at.returns-clause-added c).After-self) c.add_member-made.ensures.added x.1 c.with-self-inside.ensures x.2 x.3 x.4).0

pub returns-clause-foreseen : goal.returns-clause-foreseen
returns-clause-foreseen c = rw (← c.self.view_is) c.add_member-made.ensures.foreseen
