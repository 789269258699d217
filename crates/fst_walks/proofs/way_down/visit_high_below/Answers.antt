use Rattle.std.proofs.Common.{◌∙◌, Contains, ap, sym, subst}
use Rattle.std.proofs.lemmas.Bool.{false≢true}
use Rattle.fst_heads.specs.{Heads.patches_of, declared.head.Head.Head}
use Rattle.fst_heads.proofs.Indices.{direct_at, named_at}
use Rattle.fst_walks.specs.BothEnds.{GoesBelow, StepsBelow}
use Rattle.fst_levels.specs.{Leveling.level_of, Walks.numbers_met}
use Rattle.fst_walks.proofs.Visiting.{visits_none, visits_same}
use Rattle.fst_walks.proofs.way_down.visit_high_below.Goals as goal

-- of a hard change in memory there is no such step
pub returns-then-is_any_hard-clause-visits : goal.returns-then-is_any_hard-clause-visits
returns-then-is_any_hard-clause-visits c =
    let heads = c.args.sight.now.heads.now.list.items in
    let hard = c.is_any_hard.ensures.0 c.if-is_any_hard.true in
    visits_none (StepsBelow (patches_of heads) (level_of c.args.sight.now.levels.now.ranks) c.args.least c.args.number) (numbers_met heads c.args.walk.now) (λ q k. absurd (k.0 hard.0 hard.1))

-- of another each direct dependency is one
pub returns-clause-visits : goal.returns-clause-visits
returns-clause-visits c =
    let heads = c.args.sight.now.heads.now.list.items in
    let patches = patches_of heads in
    let n = c.args.number in
    let s = c.args.index in
    let d : Head = c.index.result.now in
    let level = level_of c.args.sight.now.levels.now.ranks in
    let soft : GoesBelow patches n = λ b h. false≢true (sym c.if-is_any_hard.false ∙ c.is_any_hard.ensures.1 (b, h)) in
    visits_same _ (StepsBelow patches level c.args.least n) (numbers_met heads c.args.walk.now) (numbers_met heads c.visit_high_row.new.walk)
    (λ q k. (soft, direct_at heads n q s d c.requires.index (subst (λ row. Contains row q) (c.as_slice-below.ensures ∙ ap (λ h. h.dependencies.items) c.index.ensures) k.0), k.1))
    (λ q k. (subst (λ row. Contains row q) (sym (c.as_slice-below.ensures ∙ ap (λ h. h.dependencies.items) c.index.ensures)) (named_at heads n q s d c.args.sight.now.heads.now.rising c.requires.index k.1), k.2))
    c.visit_high_row.ensures.visits
