use Rattle.std.proofs.Common.{[], Contains, subst}
use Rattle.fst_heads.specs.Heads.{patches_of}
use Rattle.fst_walks.specs.{BothEnds.IsHigh, Descending.Visits}
use Rattle.fst_levels.specs.{Leveling.{hard_over_of, level_of}, Walks.numbers_met}
use Rattle.fst_walks.proofs.Meeting.{first_only, first_all}
use Rattle.fst_levels.proofs.MetNumbers.{none_met}
use Rattle.fst_walks.proofs.first_away.visit_first_away.Goals.{After-visit_high_row}
use Rattle.fst_walks.proofs.first_away.visit_first_away.Goals as goal

-- the row was visited, as far as it is not on disk and no lower
starts : (c : After-visit_high_row) → Visits (λ n. Contains c.args.row.now n × IsHigh (patches_of c.args.sight.now.heads.now.list.items) (level_of c.args.sight.now.levels.now.ranks) c.args.least n) [] (numbers_met c.args.sight.now.heads.now.list.items c.visit_high_row.new.walk)
starts c =
    let heads = c.args.sight.now.heads.now.list.items in
    subst (λ q. Visits (λ n. Contains c.args.row.now n × IsHigh (patches_of heads) (level_of c.args.sight.now.levels.now.ranks) c.args.least n) q (numbers_met heads c.visit_high_row.new.walk)) (none_met heads c.clear.new.self c.clear.ensures.met) c.visit_high_row.ensures.visits

pub returns-clause-only : goal.returns-clause-only
returns-clause-only c =
    let heads = c.args.sight.now.heads.now.list.items in
    let patches = patches_of heads in
    first_only patches (hard_over_of c.args.sight.now.levels.now.ranks) (level_of c.args.sight.now.levels.now.ranks) c.args.least c.args.block c.args.row.now (numbers_met heads c.visit_high_row.new.walk) (numbers_met heads c.walk_away-looked.new.walk) (numbers_met heads c.keep_away.new.walk) (starts (goal.at.returns-clause-only c).After-visit_high_row) c.walk_away-looked.ensures.only c.keep_away.ensures.kept

pub returns-clause-all : goal.returns-clause-all
returns-clause-all c few =
    let heads = c.args.sight.now.heads.now.list.items in
    let patches = patches_of heads in
    first_all patches (hard_over_of c.args.sight.now.levels.now.ranks) (level_of c.args.sight.now.levels.now.ranks) c.args.least c.args.block c.args.row.now (numbers_met heads c.visit_high_row.new.walk) (numbers_met heads c.walk_away-looked.new.walk) (numbers_met heads c.keep_away.new.walk) (starts (goal.at.returns-clause-all c).After-visit_high_row) (λ n. (c.walk_away-looked.ensures.led few n).1) c.keep_away.ensures.kept
