use Rattle.std.proofs.{Common.{◌<◌, Contains, length, map, set, ap, sym, subst, arith}, lemmas.List.length-map}
use Rattle.fst_heads.specs.Heads.{patches_of}
use Rattle.fst_levels.proofs.{OneOfMany.{told_here, room_left}, Pruned.pruned_here, PutMore.numbers_in}
use Rattle.fst_levels.specs.Needing.{IsPruned, Needing}
use Rattle.fst_levels.proofs.needs.Needs.reserve.Goals.{After-make_places}
use Rattle.fst_levels.proofs.needs.Needs.reserve.Goals as goal

-- there is such a list
inside : (c : After-make_places) → c.args.block < length c.self.inside.lists.items
inside c = omega (arith, c.requires.block, ap (λ v. length v.lists) c.self.view_is, length-map c.self.inside.lists.items numbers_in)

-- some is left out
pruned : (c : After-make_places) → IsPruned (patches_of c.args.heads.now.list.items) c.args.block c.args.self.now.lists (map numbers_in (set c.self.inside.lists.items c.args.block c.make_places.new.needs))
pruned c =
    subst (λ ls. IsPruned (patches_of c.args.heads.now.list.items) c.args.block ls (map numbers_in (set c.self.inside.lists.items c.args.block c.make_places.new.needs))) (ap (λ v. v.lists) c.self.view_is)
    (pruned_here (patches_of c.args.heads.now.list.items) c.self.inside.lists.items c.args.block c.index_mut.result.now c.make_places.new.needs (inside c) c.index_mut.ensures.value c.make_places.ensures.left)

pub invariant_of-self : goal.invariant_of-self
invariant_of-self c =
    let s = c.self.inside in
    room_left s.lists.items c.args.block c.index_mut.result.now c.make_places.new.needs (inside (goal.at.invariant_of-self c).After-make_places) c.index_mut.ensures.value c.make_places.ensures.len c.make_places.ensures.capacity s.block s.room c.self.invariant

pub returns-in_err-make_places-clause-pruned : goal.returns-in_err-make_places-clause-pruned
returns-in_err-make_places-clause-pruned c = pruned (goal.at.returns-in_err-make_places-clause-pruned c).After-make_places

pub invariant_of-self-2 : goal.invariant_of-self-2
invariant_of-self-2 c =
    let s = c.self.inside in
    let lt = inside (goal.at.invariant_of-self-2 c).After-make_places in
    let len = told_here (λ l. l.len) s.lists.items c.args.block c.make_places.new.needs 0 lt in
    let cap = told_here (λ l. l.cap) s.lists.items c.args.block c.make_places.new.needs 0 lt in
    let room = c.in_ok-make_places.ensures.room in
    omega (arith, len, cap, room)

pub returns-clause-pruned : goal.returns-clause-pruned
returns-clause-pruned c = subst (IsPruned (patches_of c.args.heads.now.list.items) c.args.block c.args.self.now.lists) (sym c.reserve_way.ensures.lists) (pruned (goal.at.returns-clause-pruned c).After-make_places)

pub returns-in_err-make_places-clause-ways : goal.returns-in_err-make_places-clause-ways
returns-in_err-make_places-clause-ways c w kept = subst (λ ws. Contains ws w) (ap (λ (v : Needing). v.ways) c.self.view_is) kept

pub returns-clause-ways : goal.returns-clause-ways
returns-clause-ways c w kept = subst (λ ws. Contains ws w) (ap (λ (v : Needing). v.ways) c.self.view_is) (c.reserve_way.ensures.ways w kept)
