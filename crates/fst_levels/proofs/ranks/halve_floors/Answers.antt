use Rattle.std.proofs.Common.{◌<◌, length, get_or, arith, ap}
use Rattle.std.proofs.lemmas.List.{get_or_default, Edits.{map_over_more}}
use Rattle.fst_levels.specs.Leveling.{halved}
use Rattle.fst_levels.proofs.ranks.halve_floors.Goals as goal

pub loop-floor-preserved : goal.loop-floor-preserved
loop-floor-preserved c =
    let ys = c.loop-floor.floor-items in
    let i = c.loop-floor.floor-index in
    let x = get_or ys i 0 in
    let within : i < length ys = omega (arith, c.loop-floor-test.true, c.loop-floor.auto.floor-items) in
    let whole = ap length c.deref_mut-floor-items.ensures.value in
    let before : i < length c.args.floors.now.items = omega (arith, c.loop-floor-test.true, whole) in
    rw c.halved.ensures (map_over_more halved c.args.floors.now.items ys i x before c.loop-floor.invariant (get_or_default ys i 0 x within))
