use Rattle.std.proofs.Common.{[], subst}
use Rattle.fst_heads.specs.Heads.{patches_of}
use Rattle.fst_walks.specs.{BothEnds.IsLowChange, Descending.Visits}
use Rattle.fst_levels.specs.{Leveling.level_of, Walks.numbers_met}
use Rattle.fst_walks.proofs.MetLow.{meets_low}
use Rattle.fst_levels.proofs.MetNumbers.{none_met}
use Rattle.fst_walks.proofs.lift.meet_low.Goals as goal

pub returns-clause-meets : goal.returns-clause-meets
returns-clause-meets c t =
    let heads = c.args.sight.now.heads.now.list.items in
    let patches = patches_of heads in
    let level = level_of c.args.sight.now.levels.now.ranks in
    let start = numbers_met heads c.visit_low_changes.new.walk in
    let starts : Visits (IsLowChange patches level c.args.most c.args.block) [] start =
    subst (λ ms. Visits (IsLowChange patches level c.args.most c.args.block) ms start) (none_met heads c.clear.new.self c.clear.ensures.met) c.visit_low_changes.ensures.visits in
    meets_low patches level c.args.block c.args.most c.show_only.new.reached c.show_only.ensures start (numbers_met heads c.climb_low.new.walk) starts (c.climb_low.ensures.met t)
