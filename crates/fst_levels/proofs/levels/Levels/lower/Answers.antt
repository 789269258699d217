use Rattle.std.proofs.lemmas.Grind.{common_steps}
use Rattle.std.proofs.Common.{◌≤◌, ap, arith, get_or, length, refl, subst, sym, Contains}
use Rattle.fst_heads.specs.{Heads.patches_of}
use Rattle.fst_levels.specs.Leveling.{IsLeveled, Leveling, floor_of, level_of}
use Rattle.fst_levels.proofs.{Highest.{max_first, max_second}, Lowered.lowered_is_leveled}
use Rattle.fst_levels.proofs.levels.Levels.lower.Goals as goal

pub returns-then-level-clause-leveled : goal.returns-then-level-clause-leveled
returns-then-level-clause-leveled c =
    let heads = c.args.heads.now.list.items in
    let s = c.args.index in
    let old : Leveling = record { ranks = c.self.inside.ranks.list.items; floors = c.self.inside.floors.items; room = c.self.inside.room } in
    let new : Leveling = record { ranks = c.raise.new.self.list.items; floors = c.self.inside.floors.items; room = c.self.inside.room } in
    let first = max_first c.greatest-below.result c.own_level.result in
    let second = max_second c.greatest-below.result c.own_level.result in
    rw (← c.self.view_is)
    (lowered_is_leveled heads c.args.heads.now.rising s c.requires.index c.index-head.result.now c.index-head.ensures (length old.floors) c.max-level.result old new
    (λ q named.
    let under = c.greatest-below.ensures q (subst (λ row. Contains row q) (sym c.as_slice.ensures) named) in
    subst (λ (v : Leveling). level_of v.ranks q ≤ c.max-level.result) (sym c.self.view_is) (omega (arith, under, first, c.max-level.ensures)))
    (λ d. let k = c.level.ensures d in let e = ap (λ (v : Leveling). (get_or v.ranks s d).level) c.self.view_is in omega (arith, k, e, c.if-level.true))
    (λ b on. let over = c.own_level.ensures.change b on in subst (λ (v : Leveling). floor_of v.floors b ≤ c.max-level.result) (sym c.self.view_is) (omega (arith, over, second, c.max-level.ensures)))
    (λ is_open. let top = c.own_level.ensures.gate is_open in omega (arith, top, second, c.max-level.ensures))
    c.raise.ensures.numbers c.raise.ensures.raised c.raise.ensures.rest c.raise.ensures.beside refl
    (subst (λ (v : Leveling). IsLeveled (patches_of heads) (length v.floors) v) (sym c.self.view_is) c.requires.leveled))

pub returns-else-level-clause-leveled : goal.returns-else-level-clause-leveled
returns-else-level-clause-leveled c = grind (arith, common_steps)

pub returns-else-level-clause-room : goal.returns-else-level-clause-room
returns-else-level-clause-room c = grind (arith, common_steps)

pub returns-then-level-clause-room : goal.returns-then-level-clause-room
returns-then-level-clause-room c = grind (arith, common_steps)

pub level-requires : goal.level-requires
level-requires c = grind (arith, common_steps)

pub raise-requires : goal.raise-requires
raise-requires c = grind (arith, common_steps)
