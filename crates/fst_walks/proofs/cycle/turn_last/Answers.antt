use Rattle.std.proofs.lemmas.Grind.{common_steps}
use Rattle.std.proofs.Common.{arith}
use Rattle.fst_heads.specs.{Heads.patches_of, Nodes.{nodes_of, pending_in}}
use Rattle.fst_walks.specs.Searching.{IsNext}
use Rattle.fst_levels.specs.Walks.{numbers_met}
use Rattle.fst_levels.proofs.MetNumbers.{long_met}
use Rattle.fst_walks.proofs.Ascended.{visits_on}
use Rattle.fst_walks.proofs.cycle.turn_last.Goals as goal

pub returns-then-before-now-clause-goes_on : goal.returns-then-before-now-clause-goes_on
returns-then-before-now-clause-goes_on c =
    let heads = c.args.sight.now.heads.now.list.items in
    let walk = c.args.walk.now in
    visits_on (IsNext c.args.way (patches_of heads) (pending_in (nodes_of heads))) c.turn_from_end-last.result (numbers_met heads walk) (numbers_met heads c.turn-met.new.walk) (omega (arith, c.turn_from_end-last.ensures, c.len-before.ensures.long, long_met heads walk)) c.turn-met.ensures.visits

pub returns-else-before-now-clause-goes_on : goal.returns-else-before-now-clause-goes_on
returns-else-before-now-clause-goes_on c = grind (arith, common_steps)

pub returns-else-before-now-clause-deep : goal.returns-else-before-now-clause-deep
returns-else-before-now-clause-deep c = grind (arith, common_steps)
