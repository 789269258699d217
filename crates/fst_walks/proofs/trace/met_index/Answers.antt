use Rattle.fst_levels.proofs.MetNumbers.{number_of_met}
use Rattle.fst_walks.proofs.trace.met_index.Goals as goal

pub returns-then-has_met-clause-live : goal.returns-then-has_met-clause-live
returns-then-has_met-clause-live c =
    let n = c.args.number in
    c.requires.up.live n (number_of_met c.args.sight.now.heads.now.list.items c.args.up.now n c.in_ok-index.index c.in_ok-index.ensures.found (c.has_met.ensures.met.0 c.if-has_met.true))
