use Rattle.std.proofs.Common.{◌∙◌, take, get_or, Contains, subst, arith}
use Rattle.std.proofs.lemmas.List.{Elements.Contains-get_or, take_all, take_more}
use Rattle.fst_heads.specs.Heads.{patches_of}
use Rattle.fst_walks.specs.{BothEnds.IsLow, Descending.Visits}
use Rattle.fst_levels.specs.{Leveling.level_of, Walks.numbers_met}
use Rattle.fst_walks.proofs.Visiting.{visits_next}
use Rattle.fst_walks.proofs.way_up.visit_low_row.Goals as goal

pub visit_low-requires-clause-live : goal.visit_low-requires-clause-live
visit_low-requires-clause-live c =
    let row = c.args.row.now in
    let i = c.loop-number.number-index in
    c.requires.live (get_or row i 0) (Contains-get_or row i 0 c.loop-number-test.true)

pub loop-number-preserved : goal.loop-number-preserved
loop-number-preserved c =
    let heads = c.args.sight.now.heads.now.list.items in
    let L = IsLow (patches_of heads) (level_of c.args.sight.now.levels.now.ranks) c.args.most in
    let row = c.args.row.now in
    let i = c.loop-number.number-index in
    let n = get_or row i 0 in
    record {
      visited = c.visit_low.ensures.visited;
      room = c.visit_low.ensures.room ∙ c.loop-number.invariant.room;
      visits = rw (take_more row i 0 c.loop-number-test.true) (visits_next L L (take i row) n (numbers_met heads c.args.walk.now) (numbers_met heads c.loop-number.walk) (numbers_met heads c.visit_low.new.walk) (λ m l. l) (λ l. l) c.loop-number.invariant.visits c.visit_low.ensures.visits);
    }

pub returns-clause-visits : goal.returns-clause-visits
returns-clause-visits c =
    let heads = c.args.sight.now.heads.now.list.items in
    let L = IsLow (patches_of heads) (level_of c.args.sight.now.levels.now.ranks) c.args.most in
    subst (λ ns. Visits (λ n. Contains ns n × L n) (numbers_met heads c.args.walk.now) (numbers_met heads c.loop-number.walk)) (take_all c.loop-number.number-index c.args.row.now (omega (arith, c.loop-number-test.false))) c.loop-number.invariant.visits
