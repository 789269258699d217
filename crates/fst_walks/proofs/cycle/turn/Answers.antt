use Rattle.std.proofs.Common.{◌∙◌, Contains, get_or, sym, arith}
use Rattle.fst_heads.specs.{Heads.patches_of, Nodes.{nodes_of, pending_in}}
use Rattle.fst_walks.specs.Searching.{IsNext}
use Rattle.fst_levels.specs.Walks.{numbers_met}
use Rattle.fst_levels.proofs.MetNumbers.{long_met}
use Rattle.fst_walks.proofs.Visiting.{none_told, some_told, still_apart}
use Rattle.fst_walks.proofs.cycle.turn.Goals as goal

pub returns-clause-met : goal.returns-clause-met
returns-clause-met c met = some_told c.meets.result c.meets.ensures.met (sym c.is_some.ensures ∙ met) (λ index k. record { n = k.0; walk_met = k.2; other_met = k.3 })

pub returns-clause-apart : goal.returns-clause-apart
returns-clause-apart c not_met =
    let heads = c.args.sight.now.heads.now.list.items in
    let walk = c.args.walk.now in
    let old = numbers_met heads walk in
    let new = numbers_met heads c.step-more.new.walk in
    let none = none_told c.meets.result c.meets.ensures.apart (sym c.is_some.ensures ∙ not_met) in
    record {
      walk_live = c.step-more.ensures.visited;
      other_live = c.requires.apart.other_live;
      apart = still_apart (IsNext c.args.way (patches_of heads) (pending_in (nodes_of heads)) (get_or old c.args.at 0)) (Contains (numbers_met heads c.args.other.now)) old new c.len-from.result c.step-more.ensures.visits
          (omega (arith, c.len-from.ensures.long, long_met heads walk)) c.requires.apart.apart (λ at past lt there. none at past (omega (arith, lt, long_met heads c.step-more.new.walk)) there);
    }
