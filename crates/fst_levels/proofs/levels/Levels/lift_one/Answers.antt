use Rattle.std.proofs.Common.{◌∙◌, refl, ap, subst, map, get_or, length, arith}
use Rattle.fst_heads.specs.{Heads.{patch_of}, declared.head.Head.Head}
use Rattle.fst_heads.proofs.Indices.{patch_at}
use Rattle.fst_levels.proofs.{Raising.lifted_one}
use Rattle.fst_types.specs.Patches.{IsOn}
use Rattle.fst_levels.proofs.levels.Levels.lift_one.Goals as goal

pub raise_floor-requires : goal.raise_floor-requires
raise_floor-requires c k on =
    let heads = c.args.heads.now.list.items in
    let here = c.index.result.now in
    let inside = c.requires.inside (patch_of (get_or heads c.args.index here)) k (patch_at heads c.args.index here c.requires.index) (subst (λ (h : Head). IsOn (patch_of h) k) c.index.ensures on) in
    omega (arith, inside, ap (λ v. length v.floors) c.self.view_is)

pub returns : goal.returns
returns c =
    let heads = c.args.heads.now.list.items in
    let s = c.args.index in
    rw (← c.self.view_is)
    (lifted_one heads c.args.heads.now.rising s c.requires.index c.args.to (record { ranks = c.self.inside.ranks.list.items; floors = c.self.inside.floors.items; room = c.self.inside.room }) (record { ranks = c.raise.new.self.list.items; floors = c.raise_floor.new.floors.items; room = c.self.inside.room }) (ap (λ v. map (λ r. r.number) v.ranks) c.self.view_is ∙ c.requires.aligned)
    (c.raise.ensures.numbers)
    (c.raise_floor.ensures.long) refl
    c.raise.ensures.raised
    c.raise.ensures.beside
    c.raise.ensures.rest
    c.index.result.now c.index.ensures c.raise_floor.ensures.raised
    c.raise_floor.ensures.rest)
