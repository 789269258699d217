use Rattle.std.proofs.Common.{Contains, get_or, subst, arith}
use Rattle.std.proofs.lemmas.Grind.{common_steps}
use Rattle.fst_heads.specs.Heads.{patches_of}
use Rattle.fst_walks.specs.{BothEnds.StepsLow, Descending.Visits}
use Rattle.fst_levels.specs.{Leveling.level_of, Walks.numbers_met}
use Rattle.fst_levels.proofs.MetNumbers.{long_met}
use Rattle.fst_walks.proofs.Visiting.{none_then, still_apart}
use Rattle.fst_walks.proofs.both_ends.turn_up.Goals as goal

pub returns-clause-apart : goal.returns-clause-apart
returns-clause-apart c =
    let sight = c.args.sight.now in
    let heads = sight.heads.now.list.items in
    let up = c.args.ends.now.up in
    let old = numbers_met heads up.walk in
    let new = numbers_met heads c.step_up-more.new.walk in
    none_then c.meets.result c.meets.ensures.apart (λ none. still_apart (StepsLow (patches_of heads) (level_of sight.levels.now.ranks) c.args.most up.crossed.items (get_or old c.args.at 0)) (Contains (numbers_met heads c.args.ends.now.down.walk)) old new c.len-from.result
    (subst (λ shown. Visits (StepsLow (patches_of heads) (level_of sight.levels.now.ranks) c.args.most shown (get_or old c.args.at 0)) old new) c.deref_mut.ensures.value c.step_up-more.ensures.visits)
    (omega (arith, c.len-from.ensures.long, long_met heads up.walk)) c.requires.apart (λ at past lt there. none at past (omega (arith, lt, long_met heads c.step_up-more.new.walk)) there))

pub returns-clause-met : goal.returns-clause-met
returns-clause-met c = grind (arith, common_steps)

pub returns-clause-crossed : goal.returns-clause-crossed
returns-clause-crossed c = grind (arith, common_steps)

pub returns-clause-down : goal.returns-clause-down
returns-clause-down c = grind (arith, common_steps)

pub returns-clause-up : goal.returns-clause-up
returns-clause-up c = grind (arith, common_steps)

pub returns-clause-visited : goal.returns-clause-visited
returns-clause-visited c = grind (arith, common_steps)

pub returns-clause-visits : goal.returns-clause-visits
returns-clause-visits c = grind (arith, common_steps)
