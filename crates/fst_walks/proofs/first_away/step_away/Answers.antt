use Rattle.std.proofs.lemmas.Grind.{common_steps}
use Rattle.std.proofs.Common.{◌∙◌, get_or, Contains, ap, sym, subst, inl, inr, arith}
use Rattle.fst_heads.specs.{Heads.patches_of, declared.head.Head.Head}
use Rattle.fst_heads.proofs.Indices.{direct_at, named_at}
use Rattle.fst_walks.specs.BothEnds.{StepsAway}
use Rattle.fst_levels.specs.{Leveling.{hard_over_of, level_of}, Walks.numbers_met}
use Rattle.fst_levels.proofs.MetNumbers.{index_met}
use Rattle.fst_walks.proofs.Visiting.{visits_same}
use Rattle.fst_walks.proofs.first_away.step_away.Goals as goal

pub returns-clause-only : goal.returns-clause-only
returns-clause-only c q met =
    let heads = c.args.sight.now.heads.now.list.items in
    let walk = c.args.walk.now in
    let n = get_or (numbers_met heads walk) c.args.at 0 in
    let s = c.index_at-index.result in
    let d : Head = c.index.result.now in
    let index = index_met heads walk c.args.at s c.requires.visited.long c.requires.at c.index_at-index.ensures.index c.index_at-index.ensures.inside in
    elim (c.visit_high_row.ensures.visits.only q met) [
      | inl old ↦ inl old
      | inr k ↦ inr ((c.goes_through.ensures n index).0 c.if-not-goes_through.false, direct_at heads n q s d index (subst (λ row. Contains row q) (c.as_slice-below.ensures ∙ ap (λ h. h.dependencies.items) c.index.ensures) (c.newest_few.ensures.only q k.0)), k.1)
    ]

pub returns-clause-visits : goal.returns-clause-visits
returns-clause-visits c few =
    let heads = c.args.sight.now.heads.now.list.items in
    let walk = c.args.walk.now in
    let n = get_or (numbers_met heads walk) c.args.at 0 in
    let s = c.index_at-index.result in
    let d : Head = c.index.result.now in
    let index = index_met heads walk c.args.at s c.requires.visited.long c.requires.at c.index_at-index.ensures.index c.index_at-index.ensures.inside in
    let through = (c.goes_through.ensures n index).0 c.if-not-goes_through.false in
    let all = c.newest_few.ensures.all few in
    visits_same _ (StepsAway (patches_of heads) (hard_over_of c.args.sight.now.levels.now.ranks) (level_of c.args.sight.now.levels.now.ranks) c.args.least c.args.block n) (numbers_met heads walk) (numbers_met heads c.visit_high_row.new.walk)
    (λ q k. (through, direct_at heads n q s d index (subst (λ row. Contains row q) (c.as_slice-below.ensures ∙ ap (λ h. h.dependencies.items) c.index.ensures) (c.newest_few.ensures.only q k.0)), k.1))
    (λ q k. (subst (λ row. Contains row q) (sym all) (subst (λ row. Contains row q) (sym (c.as_slice-below.ensures ∙ ap (λ h. h.dependencies.items) c.index.ensures)) (named_at heads n q s d c.args.sight.now.heads.now.rising index k.1)), k.2))
    c.visit_high_row.ensures.visits

pub returns-clause-visited : goal.returns-clause-visited
returns-clause-visited c = grind (arith, common_steps)

pub returns-then-not-goes_through-clause-visited : goal.returns-then-not-goes_through-clause-visited
returns-then-not-goes_through-clause-visited c = grind (arith, common_steps)

pub returns-then-not-goes_through-clause-visits : goal.returns-then-not-goes_through-clause-visits
returns-then-not-goes_through-clause-visits c = grind (arith, common_steps)
