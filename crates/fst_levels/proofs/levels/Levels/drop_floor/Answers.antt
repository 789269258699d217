use Rattle.std.proofs.Common.{sym, subst}
use Rattle.fst_levels.specs.Leveling.{IsLeveled}
use Rattle.fst_levels.proofs.Dropped.{dropped_is_leveled}
use Rattle.fst_levels.proofs.levels.Levels.drop_floor.Goals as goal

pub returns-then-block-len-clause-leveled : goal.returns-then-block-len-clause-leveled
returns-then-block-len-clause-leveled c patches blocks none leveled =
    dropped_is_leveled patches blocks c.args.block 0 none (record { ranks = c.self.inside.ranks.list.items; floors = c.self.inside.floors.items; room = c.self.inside.room })
    (subst (IsLeveled patches blocks) (sym c.self.view_is) leveled)
