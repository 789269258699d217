use Rattle.std.proofs.Common.{◌∙◌, get_or, Contains, ap, sym, subst}
use Rattle.fst_heads.specs.{Heads.patches_of, Nodes.{nodes_of, pending_in}, declared.head.Head.Head}
use Rattle.fst_walks.specs.Searching.{IsNext, row_on}
use Rattle.fst_levels.specs.Walks.{numbers_met}
use Rattle.fst_walks.proofs.{Stepped.{next_from, next_to}, Visiting.visits_same}
use Rattle.fst_levels.proofs.MetNumbers.{index_met}
use Rattle.fst_walks.proofs.cycle.step.Goals as goal

pub returns-clause-visits : goal.returns-clause-visits
returns-clause-visits c =
    let heads = c.args.sight.now.heads.now.list.items in
    let walk = c.args.walk.now in
    let met = numbers_met heads walk in
    let n = get_or met c.args.at 0 in
    let s = c.index_at-index.result in
    let index = index_met heads walk c.args.at s c.requires.visited.long c.requires.at c.index_at-index.ensures.index c.index_at-index.ensures.inside in
    let d : Head = c.index.result.now in
    let rising = c.args.sight.now.heads.now.rising in
    let row = c.row_of-row.ensures ∙ ap (row_on c.args.way) c.index.ensures in
    visits_same _ (IsNext c.args.way (patches_of heads) (pending_in (nodes_of heads)) n) met (numbers_met heads c.visit_row.new.walk)
    (λ q k. next_from heads rising c.requires.sees.linked n s d index c.args.way q (subst (λ r. Contains r q) row k.0) k.1)
    (λ q k. let r = next_to heads rising c.requires.sees.linked n s d index c.args.way q k in (subst (λ r. Contains r q) (sym row) r.0, r.1))
    c.visit_row.ensures.visits
