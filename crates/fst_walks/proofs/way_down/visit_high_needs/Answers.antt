use Rattle.std.proofs.Common.{take, get_or, Contains, sym, subst, arith}
use Rattle.std.proofs.lemmas.List.{take_all, take_more}
use Rattle.fst_heads.specs.Heads.{patches_of}
use Rattle.fst_walks.specs.{BothEnds.{IsHigh, IsHighNeed}, Descending.Visits}
use Rattle.fst_levels.specs.{Leveling.{floor_of, level_of}, Needing.needs_of, Walks.numbers_met}
use Rattle.fst_levels.proofs.Leveled.{level_path}
use Rattle.fst_walks.proofs.Visiting.{visits_next, visits_none, visits_same}
use Rattle.fst_walks.proofs.way_down.visit_high_needs.Goals as goal

-- no need is higher than the floor
pub returns-then-floor-least-clause-visits : goal.returns-then-floor-least-clause-visits
returns-then-floor-least-clause-visits c =
    let sight = c.args.sight.now in
    let heads = sight.heads.now.list.items in
    visits_none (IsHighNeed (patches_of heads) (level_of sight.levels.now.ranks) c.args.least (needs_of sight.needs.now.lists) c.args.block) (numbers_met heads c.args.walk.now) (λ q k.
    let leveled = c.requires.sees.leveled.leveled in
    let n = c.requires.sees.needing.needed.named c.args.block q k.0.0 in
    let hard = leveled.hard c.args.block n.0 n.1.hard in
    let under = level_path (patches_of heads) (level_of sight.levels.now.ranks) (floor_of sight.levels.now.floors) leveled n.0 q (n.1.depends k.0.1.patch k.0.1.head k.0.1.numbered) in
    absurd (omega (arith, hard, under, k.1, c.floor.ensures, c.if-floor-least.true)))

pub of-needs-requires : goal.of-needs-requires
of-needs-requires c = omega (arith, c.requires.block, c.requires.sees.needing.long)

pub loop-need-preserved : goal.loop-need-preserved
loop-need-preserved c =
    let heads = c.args.sight.now.heads.now.list.items in
    let H = IsHigh (patches_of heads) (level_of c.args.sight.now.levels.now.ranks) c.args.least in
    let row = c.of-needs.result.now in
    let i = c.loop-need.need-index in
    record {
      visited = c.visit_high.ensures.visited;
      visits = rw (take_more row i 0 c.loop-need-test.true) (visits_next H H (take i row) (get_or row i 0) (numbers_met heads c.args.walk.now) (numbers_met heads c.loop-need.walk) (numbers_met heads c.visit_high.new.walk) (λ m h. h) (λ h. h) c.loop-need.invariant.visits c.visit_high.ensures.visits);
    }

pub returns-clause-visits : goal.returns-clause-visits
returns-clause-visits c =
    let sight = c.args.sight.now in
    let heads = sight.heads.now.list.items in
    let H = IsHigh (patches_of heads) (level_of sight.levels.now.ranks) c.args.least in
    let row = c.of-needs.result.now in
    let all = subst (λ ns. Visits (λ n. Contains ns n × H n) (numbers_met heads c.args.walk.now) (numbers_met heads c.loop-need.walk)) (take_all c.loop-need.need-index row (omega (arith, c.loop-need-test.false))) c.loop-need.invariant.visits in
    visits_same _ (IsHighNeed (patches_of heads) (level_of sight.levels.now.ranks) c.args.least (needs_of sight.needs.now.lists) c.args.block) (numbers_met heads c.args.walk.now) (numbers_met heads c.loop-need.walk)
    (λ q k. ((subst (λ ns. Contains ns q) c.of-needs.ensures k.0, k.1.0), k.1.1))
    (λ q k. (subst (λ ns. Contains ns q) (sym c.of-needs.ensures) k.0.0, (k.0.1, k.1)))
    all
