use Rattle.std.proofs.lemmas.Grind.{common_steps}
use Rattle.std.proofs.Common.{ap, length, subst, arith}
use Rattle.fst_heads.specs.{Heads.patches_of, Indices.HasIndex}
use Rattle.fst_heads.proofs.Indices.{index_in, patch_index}
use Rattle.fst_levels.specs.{Leveling.Leveling, Lifting.IsLifted, Walks.numbers_met}
use Rattle.fst_levels.proofs.{Floored.{floored, lifted_within}, Raising.hard_told}
use Rattle.fst_levels.proofs.levels.Levels.lift.Goals.{After-lift_all}
use Rattle.fst_levels.proofs.levels.Levels.lift.Goals as goal

-- what was met went up
lifted : (c : After-lift_all) → IsLifted (patches_of c.args.heads.now.list.items) (numbers_met c.args.heads.now.list.items c.args.walk.now) c.args.rise.level c.args.self.now c.lift_all.new.self
lifted c = subst (λ (v : Leveling). IsLifted (patches_of c.args.heads.now.list.items) (numbers_met c.args.heads.now.list.items c.args.walk.now) c.args.rise.level v c.lift_all.new.self) c.count.ensures c.lift_all.ensures

pub returns-then-rise-clause-leveled : goal.returns-then-rise-clause-leveled
returns-then-rise-clause-leveled c =
    let heads = c.args.heads.now.list.items in
    let may = c.requires.may c.if-rise.true in
    rw (ap (λ v. v.ranks) c.self.view_is, ap (λ v. v.floors) c.self.view_is, ap (λ v. v.room) c.self.view_is)
    (floored (patches_of heads) c.requires.disk (length c.args.self.now.floors) c.args.block c.args.rise.level (numbers_met heads c.args.walk.now) c.args.self.now c.lift_all.new.self c.requires.leveled may c.requires.inside.0
    (λ n k.
    let live = may.meets.live n k in
    let at = index_in heads live.patch live.head in
    hard_told heads c.args.heads.now.rising n at.0 (subst (λ m. HasIndex heads m at.0) live.numbered (patch_index heads live.patch at.0 at.1 at.2)))
    (lifted (goal.at.returns-then-rise-clause-leveled c).After-lift_all))

pub returns-else-rise-clause-below : goal.returns-else-rise-clause-below
returns-else-rise-clause-below c = grind (arith, common_steps)

pub returns-else-rise-clause-leveled : goal.returns-else-rise-clause-leveled
returns-else-rise-clause-leveled c = grind (arith, common_steps)

pub returns-else-rise-clause-lifted : goal.returns-else-rise-clause-lifted
returns-else-rise-clause-lifted c = grind (arith, common_steps)

pub returns-else-rise-clause-room : goal.returns-else-rise-clause-room
returns-else-rise-clause-room c = grind (arith, common_steps)

pub returns-else-rise-clause-still : goal.returns-else-rise-clause-still
returns-else-rise-clause-still c = grind (arith, common_steps)

pub returns-then-rise-clause-below : goal.returns-then-rise-clause-below
returns-then-rise-clause-below c n low =
    rw (ap (λ v. v.ranks) c.self.view_is) (lifted_within (patches_of c.args.heads.now.list.items) (numbers_met c.args.heads.now.list.items c.args.walk.now) c.args.rise.level c.args.self.now c.lift_all.new.self (lifted (goal.at.returns-then-rise-clause-below c).After-lift_all) n low)

pub returns-then-rise-clause-lifted : goal.returns-then-rise-clause-lifted
returns-then-rise-clause-lifted c = grind (arith, common_steps)

pub returns-then-rise-clause-room : goal.returns-then-rise-clause-room
returns-then-rise-clause-room c = grind (arith, common_steps)

pub returns-then-rise-clause-still : goal.returns-then-rise-clause-still
returns-then-rise-clause-still c = grind (arith, common_steps)
