use Rattle.std.proofs.Common.{◌<◌, length, get_or, arith, ap}
use Rattle.std.proofs.lemmas.List.{get_or_default, Edits.{map_over_more}}
use Rattle.fst_levels.specs.Leveling.{halved_rank}
use Rattle.fst_levels.proofs.Ranked.{no_rank}
use Rattle.fst_levels.proofs.ranks.halve_ranks.Goals as goal

pub loop-rank-preserved : goal.loop-rank-preserved
loop-rank-preserved c =
    let ys = c.loop-rank.rank-items in
    let i = c.loop-rank.rank-index in
    let x = get_or ys i no_rank in
    let within : i < length ys = omega (arith, c.loop-rank-test.true, c.loop-rank.auto.rank-items) in
    let whole = ap length c.deref_mut-rank-items.ensures.value in
    let before : i < length c.args.ranks.now.items = omega (arith, c.loop-rank-test.true, whole) in
    rw c.halved-rank.ensures (map_over_more halved_rank c.args.ranks.now.items ys i x before c.loop-rank.invariant (get_or_default ys i no_rank x within))
