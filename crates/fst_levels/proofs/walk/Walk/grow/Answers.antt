use Rattle.std.proofs.lemmas.Grind.{common_steps}
use Rattle.std.proofs.Common.{◌<◌, ◌∷◌, [], false, length, sym, subst, arith, length-append}
use Rattle.fst_levels.specs.Walks.{Trail}
use Rattle.fst_levels.proofs.Trails.{marked_grown}
use Rattle.fst_levels.proofs.walk.Walk.grow.Goals as goal

pub invariant_of-self : goal.invariant_of-self
invariant_of-self c =
    let s = c.self.invariant in
    let marks = c.self.inside.marks.items in
    let free = subst (λ (t : Trail). length t.marks < t.room) (sym c.self.view_is) c.requires in
    rw c.push_reserved.ensures.items record {
      marked = marked_grown marks c.self.inside.met.items s.marked;
      once = s.once;
      few = omega (arith, free, length-append marks (false ∷ []));
      marks_room = omega (arith, s.marks_room, c.push_reserved.ensures.capacity);
      met_room = s.met_room;
    }

pub returns-clause-marks : goal.returns-clause-marks
returns-clause-marks c = grind (arith, common_steps)

pub returns-clause-met : goal.returns-clause-met
returns-clause-met c = grind (arith, common_steps)

pub returns-clause-room : goal.returns-clause-room
returns-clause-room c = grind (arith, common_steps)
