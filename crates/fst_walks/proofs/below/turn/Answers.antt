use Rattle.std.proofs.lemmas.Grind.{common_steps}
use Rattle.std.proofs.Common.{get_or, subst, arith}
use Rattle.fst_heads.specs.{Heads.patches_of, Indices.PassesAt}
use Rattle.fst_heads.specs.declared.test.Test.TheVariants as test
use Rattle.fst_walks.specs.{BothEnds.StepsHigh, Descending.Visits}
use Rattle.fst_levels.specs.{Leveling.level_of, Needing.needs_of, Walks.numbers_met}
use Rattle.fst_levels.proofs.MetNumbers.{long_met}
use Rattle.fst_walks.proofs.Visiting.{none_then, still_apart}
use Rattle.fst_walks.proofs.below.turn.Goals as goal

pub returns-clause-away : goal.returns-clause-away
returns-clause-away c =
    let sight = c.args.sight.now in
    let heads = sight.heads.now.list.items in
    let down = c.args.down.now in
    let old = numbers_met heads down.walk in
    let new = numbers_met heads c.step_down-looked.new.walk in
    none_then c.meets_change.result c.meets_change.ensures.none (λ none. still_apart (StepsHigh (patches_of heads) (level_of sight.levels.now.ranks) c.args.least (needs_of sight.needs.now.lists) down.crossed.items (get_or old c.args.at 0)) (PassesAt (test.LiveOn c.args.block) (patches_of heads)) old new c.len-from.result
    (subst (λ shown. Visits (StepsHigh (patches_of heads) (level_of sight.levels.now.ranks) c.args.least (needs_of sight.needs.now.lists) shown (get_or old c.args.at 0)) old new) c.deref_mut.ensures.value c.step_down-looked.ensures.visits)
    (omega (arith, c.len-from.ensures.long, long_met heads down.walk)) c.requires.away (λ at past lt there. none at past (omega (arith, lt, long_met heads c.step_down-looked.new.walk)) there))

pub returns-clause-crossed : goal.returns-clause-crossed
returns-clause-crossed c = grind (arith, common_steps)

pub returns-clause-down : goal.returns-clause-down
returns-clause-down c = grind (arith, common_steps)

pub returns-clause-met : goal.returns-clause-met
returns-clause-met c = grind (arith, common_steps)

pub returns-clause-visited : goal.returns-clause-visited
returns-clause-visited c = grind (arith, common_steps)

pub returns-clause-visits : goal.returns-clause-visits
returns-clause-visits c = grind (arith, common_steps)
