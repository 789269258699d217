use Rattle.std.proofs.Common.{◌-◌, length, take, drop, Contains, subst}
use Rattle.std.proofs.lemmas.{Iterator.Adapters.YieldsList-from_rev_slice, Iterator.Consumers.YieldsList-turn}
use Rattle.fst_levels.specs.{Needing.needs_of}
use Rattle.fst_walks.proofs.Traced.{in_rest, need_found}
use Rattle.fst_levels.proofs.Reversed.{in_reversed}
use Rattle.fst_walks.proofs.trace.met_need.Goals as goal

pub returns-then-is_some : goal.returns-then-is_some
returns-then-is_some c =
    let needs = c.of-needs.result.now in
    let from = c.saturating_sub.result in
    let few = take (length needs - from) (drop from needs) in
    let rest = c.iter.ensures.rest in
    let need = c.in-Some.need.now in
    let turn = YieldsList-turn (YieldsList-from_rev_slice few (cc)) c.loop-need.yielded _ c.loop-need.yielded_by _ _ c.in-Some.need c.in-Some.is c.next.ensures.steps in
    let there = in_rest needs from need (in_reversed few _ need turn.0 turn.1) in
    let kept = subst (λ ns. Contains ns need) c.of-needs.ensures there in
    need_found c.args.sight.now.heads.now.list.items (needs_of c.args.sight.now.needs.now.lists) c.args.block need kept c.met_index-index.result c.met_index-index.ensures.index c.met_index-index.ensures.live
