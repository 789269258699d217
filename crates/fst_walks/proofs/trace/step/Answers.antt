use Rattle.std.proofs.Common.{◌∙◌, Contains, ap, sym, subst, arith}
use Rattle.std.proofs.lemmas.{Iterator.Adapters.YieldsList-from_rev_slice, Iterator.Consumers.YieldsList-turn}
use Rattle.fst_types.specs.Patches.{block_of_kind}
use Rattle.fst_heads.specs.{Heads.kind_of, declared.head.Head.Head}
use Rattle.fst_heads.proofs.Indices.{patch_at}
use Rattle.fst_levels.specs.Needing.{needs_of}
use Rattle.fst_levels.proofs.Reversed.{in_reversed}
use Rattle.fst_walks.proofs.Traced.{next_across, next_in_row}
use Rattle.fst_walks.proofs.trace.step.Goals as goal

pub returns-then-is_some : goal.returns-then-is_some
returns-then-is_some c =
    let few = c.newest_few.result.now in
    let rest = c.iter.ensures.rest in
    let m = c.in-Some.number.now in
    let turn = YieldsList-turn (YieldsList-from_rev_slice few (cc)) c.loop-number.yielded _ c.loop-number.yielded_by _ _ c.in-Some.number c.in-Some.is c.next.ensures.steps in
    let named = subst (λ row. Contains row m) (c.as_slice.ensures ∙ ap (λ h. h.dependencies.items) c.index-head.ensures) (c.newest_few.ensures.only m (in_reversed few _ m turn.0 turn.1)) in
    next_in_row c.args.sight.now.heads.now.list.items (needs_of c.args.sight.now.needs.now.lists) c.args.block c.args.index c.index-head.result.now m named c.met_index-next.result c.met_index-next.ensures.index c.met_index-next.ensures.live

pub met_need-requires-clause-block : goal.met_need-requires-clause-block
met_need-requires-clause-block c = c.requires.sees.inside _ c.in-Change.own (patch_at c.args.sight.now.heads.now.list.items c.args.index _ c.requires.index) ((sym (ap (λ (h : Head). block_of_kind (kind_of h.kind)) c.index-head.ensures) ∙ ap (λ k. block_of_kind (kind_of k)) c.in-Change.is))

pub returns-else-own-block : goal.returns-else-own-block
returns-else-own-block c =
    let on = (sym (ap (λ (h : Head). block_of_kind (kind_of h.kind)) c.index-head.ensures) ∙ ap (λ k. block_of_kind (kind_of k)) c.in-Change.is) in
    next_across c.args.sight.now.heads.now.list.items (needs_of c.args.sight.now.needs.now.lists) c.args.sight.now.heads.now.rising c.args.block c.args.index c.index-head.result.now c.in-Change.own on (λ e. omega (arith, e, c.if-own-block.false)) c.met_need.result c.met_need.ensures
