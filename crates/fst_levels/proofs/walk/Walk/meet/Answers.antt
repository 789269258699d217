use Rattle.std.proofs.lemmas.Grind.{common_steps}
use Rattle.std.proofs.Common.{◌<◌, length, sym, subst, refl, inl, arith, length-set, true}
use Rattle.fst_levels.specs.Walks.{Trail}
use Rattle.fst_levels.proofs.Trails.{marked_push, once_push, room_to_meet, mark_of_index}
use Rattle.fst_levels.proofs.walk.Walk.meet.Goals as goal

pub push_reserved-requires : goal.push_reserved-requires
push_reserved-requires c =
    let s = c.self.invariant in
    let marks = c.self.inside.marks.items in
    let met = c.self.inside.met.items in
    let lt = subst (λ (t : Trail). c.args.index < length t.marks) (sym c.self.view_is) c.requires in
    let none = mark_of_index marks c.args.index c.index.result.now lt c.index.ensures c.if-not-index.true in
    let free = room_to_meet marks met s.marked c.args.index lt none s.once in
    omega (arith, free, s.few, s.met_room, c.self.inside.met.ok.0)

pub invariant_of-self : goal.invariant_of-self
invariant_of-self c =
    let s = c.self.invariant in
    let marks = c.self.inside.marks.items in
    let met = c.self.inside.met.items in
    let lt = subst (λ (t : Trail). c.args.index < length t.marks) (sym c.self.view_is) c.requires in
    let none = mark_of_index marks c.args.index c.index.result.now lt c.index.ensures c.if-not-index.true in
    rw c.push_reserved.ensures.items record {
      marked = marked_push marks met s.marked c.args.index lt;
      once = once_push marks met s.marked c.args.index none s.once;
      few = omega (arith, s.few, length-set marks c.args.index true);
      marks_room = s.marks_room;
      met_room = omega (arith, s.met_room, c.push_reserved.ensures.capacity);
    }

pub returns-else-not-index : goal.returns-else-not-index
returns-else-not-index c =
    let s = c.self.invariant in
    let marks = c.self.inside.marks.items in
    let lt = subst (λ (t : Trail). c.args.index < length t.marks) (sym c.self.view_is) c.requires in
    let some = mark_of_index marks c.args.index c.index.result.now lt c.index.ensures c.if-not-index.false in
    rw (← c.self.view_is) record { long = refl; room = refl; met = inl (s.marked.only c.args.index some, refl) }

pub returns-then-not-index : goal.returns-then-not-index
returns-then-not-index c = grind (arith, common_steps)
