use Rattle.std.proofs.lemmas.Grind.{common_steps}
use Rattle.std.proofs.Common.{Contains, get_or, subst, arith}
use Rattle.std.proofs.lemmas.Option.{IfSome_then}
use Rattle.fst_heads.specs.Heads.{patches_of}
use Rattle.fst_walks.specs.{BothEnds.StepsHigh, Descending.Visits}
use Rattle.fst_levels.specs.{Leveling.level_of, Needing.needs_of, Walks.numbers_met}
use Rattle.fst_levels.proofs.MetNumbers.{long_met}
use Rattle.fst_walks.proofs.Visiting.{none_then, still_apart}
use Rattle.fst_walks.proofs.both_ends.turn_down.Goals as goal

pub returns-clause-apart : goal.returns-clause-apart
returns-clause-apart c =
    let sight = c.args.sight.now in
    let heads = sight.heads.now.list.items in
    let down = c.args.ends.now.down in
    let old = numbers_met heads down.walk in
    let new = numbers_met heads c.step_down-more.new.walk in
    none_then c.meets.result c.meets.ensures.apart (λ none n above below. still_apart (StepsHigh (patches_of heads) (level_of sight.levels.now.ranks) c.args.least (needs_of sight.needs.now.lists) down.crossed.items (get_or old c.args.at 0)) (Contains (numbers_met heads c.args.ends.now.up.walk)) old new c.len-from.result
    (subst (λ shown. Visits (StepsHigh (patches_of heads) (level_of sight.levels.now.ranks) c.args.least (needs_of sight.needs.now.lists) shown (get_or old c.args.at 0)) old new) c.deref_mut.ensures.value c.step_down-more.ensures.visits)
    (omega (arith, c.len-from.ensures.long, long_met heads down.walk)) (λ m there over. c.requires.apart m over there) (λ at past lt there. none at past (omega (arith, lt, long_met heads c.step_down-more.new.walk)) there) n below above)

pub returns-clause-crossed : goal.returns-clause-crossed
returns-clause-crossed c = grind (arith, common_steps)

pub returns-clause-down : goal.returns-clause-down
returns-clause-down c = grind (arith, common_steps)

pub returns-clause-up : goal.returns-clause-up
returns-clause-up c = grind (arith, common_steps)

pub returns-clause-met : goal.returns-clause-met
returns-clause-met c = IfSome_then c.meets.result c.meets.ensures.met (λ index met. (met.0, met.1, met.3, met.2))

pub returns-clause-visited : goal.returns-clause-visited
returns-clause-visited c = grind (arith, common_steps)

pub returns-clause-visits : goal.returns-clause-visits
returns-clause-visits c = grind (arith, common_steps)
