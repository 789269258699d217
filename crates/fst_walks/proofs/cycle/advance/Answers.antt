use Rattle.std.proofs.Common.{◌≤◌, length, arith}
use Rattle.fst_heads.specs.{Heads.patches_of, Nodes.{nodes_of, pending_in}}
use Rattle.fst_walks.specs.Searching.{Advances, IsNext}
use Rattle.fst_levels.specs.Walks.{numbers_met}
use Rattle.fst_walks.proofs.{Ascended.{advanced, advanced_on}, Visiting.visits_longer}
use Rattle.fst_levels.proofs.MetNumbers.{long_met}
use Rattle.fst_walks.proofs.cycle.advance.Goals.{After-turn}
use Rattle.fst_walks.proofs.cycle.advance.Goals as goal

-- what the walk has met is no fewer after the first step
longer : (c : After-turn) → length c.args.walk.now.met ≤ length c.turn.new.walk.met
longer c = let heads = c.args.sight.now.heads.now.list.items in
    omega (arith, visits_longer _ (numbers_met heads c.args.walk.now) (numbers_met heads c.turn.new.walk) c.turn.ensures.visits, long_met heads c.args.walk.now, long_met heads c.turn.new.walk)

first : (c : After-turn) → Advances (IsNext c.args.way (patches_of c.args.sight.now.heads.now.list.items) (pending_in (nodes_of c.args.sight.now.heads.now.list.items))) c.args.stand.now.at (numbers_met c.args.sight.now.heads.now.list.items c.args.walk.now) (numbers_met c.args.sight.now.heads.now.list.items c.turn.new.walk)
first c = let heads = c.args.sight.now.heads.now.list.items in
    advanced _ c.args.stand.now.at (numbers_met heads c.args.walk.now) (numbers_met heads c.turn.new.walk) (omega (arith, c.requires.at, long_met heads c.args.walk.now)) c.turn.ensures.visits

pub turn_last-requires-clause-apart : goal.turn_last-requires-clause-apart
turn_last-requires-clause-apart c = c.turn.ensures.apart c.if-turn.false

pub turn_last-requires-clause-at : goal.turn_last-requires-clause-at
turn_last-requires-clause-at c = omega (arith, c.requires.at, longer (goal.at.turn_last-requires-clause-at c).After-turn)

pub turn_last-requires-clause-deep : goal.turn_last-requires-clause-deep
turn_last-requires-clause-deep c = omega (arith, c.requires.deep, longer (goal.at.turn_last-requires-clause-deep c).After-turn)

pub returns-then-turn-clause-advances : goal.returns-then-turn-clause-advances
returns-then-turn-clause-advances c = first (goal.at.returns-then-turn-clause-advances c).After-turn

pub returns-clause-advances : goal.returns-clause-advances
returns-clause-advances c = advanced_on _ c.args.stand.now.at _ _ _ (first (goal.at.returns-clause-advances c).After-turn) c.turn_last.ensures.goes_on

pub returns-then-turn-clause-deep : goal.returns-then-turn-clause-deep
returns-then-turn-clause-deep c = omega (arith, c.requires.deep, longer (goal.at.returns-then-turn-clause-deep c).After-turn)
