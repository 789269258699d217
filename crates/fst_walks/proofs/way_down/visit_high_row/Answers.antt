use Rattle.std.proofs.Common.{take, get_or, Contains, subst, arith}
use Rattle.std.proofs.lemmas.List.{take_all, take_more}
use Rattle.fst_heads.specs.Heads.{patches_of}
use Rattle.fst_walks.specs.{BothEnds.IsHigh, Descending.Visits}
use Rattle.fst_levels.specs.{Leveling.level_of, Walks.numbers_met}
use Rattle.fst_walks.proofs.Visiting.{visits_next}
use Rattle.fst_walks.proofs.way_down.visit_high_row.Goals as goal

pub loop-number-preserved : goal.loop-number-preserved
loop-number-preserved c =
    let heads = c.args.sight.now.heads.now.list.items in
    let H = IsHigh (patches_of heads) (level_of c.args.sight.now.levels.now.ranks) c.args.least in
    let row = c.args.row.now in
    let i = c.loop-number.number-index in
    let n = get_or row i 0 in
    record {
      visited = c.visit_high.ensures.visited;
      visits = rw (take_more row i 0 c.loop-number-test.true) (visits_next H H (take i row) n (numbers_met heads c.args.walk.now) (numbers_met heads c.loop-number.walk) (numbers_met heads c.visit_high.new.walk) (λ m h. h) (λ h. h) c.loop-number.invariant.visits c.visit_high.ensures.visits);
    }

pub returns-clause-visits : goal.returns-clause-visits
returns-clause-visits c =
    let heads = c.args.sight.now.heads.now.list.items in
    let H = IsHigh (patches_of heads) (level_of c.args.sight.now.levels.now.ranks) c.args.least in
    subst (λ ns. Visits (λ n. Contains ns n × H n) (numbers_met heads c.args.walk.now) (numbers_met heads c.loop-number.walk)) (take_all c.loop-number.number-index c.args.row.now (omega (arith, c.loop-number-test.false))) c.loop-number.invariant.visits
