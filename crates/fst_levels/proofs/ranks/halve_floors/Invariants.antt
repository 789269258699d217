use Rattle.std.proofs.Common.{◌≡◌, ◌++◌, map, take, drop}
use Rattle.fst_levels.specs.Leveling.{halved}
use Rattle.fst_levels.proofs.ranks.halve_floors.Given as goal

abbrev pub invariant-loop-floor : goal.invariant-loop-floor
invariant-loop-floor l = l.floor-items ≡ map halved (take l.floor-index l.fn.floors.items) ++ drop l.floor-index l.fn.floors.items
