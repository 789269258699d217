use Rattle.std.proofs.Common.{ap, subst, sym, ◌∙◌}
use Rattle.fst_heads.proofs.Indices.{index_here}
use Rattle.fst_heads.specs.{Heads.patch_of, Indices.HasIndex, Tests.passes}
use Rattle.fst_heads.specs.declared.test.Test.TheVariants as test
use Rattle.fst_levels.specs.Needing.{needs_of}
use Rattle.fst_levels.proofs.NearRow.{passes_here}
use Rattle.fst_walks.proofs.Traced.{traced_end, traced_next, traced_start}
use Rattle.fst_walks.proofs.trace.trace.Goals as goal

pub loop-init : goal.loop-init
loop-init c = traced_start c.args.sight.now.heads.now.list.items (needs_of c.args.sight.now.needs.now.lists) c.args.block c.args.index c.requires.index

pub returns-then-passes-clause-change : goal.returns-then-passes-clause-change
returns-then-passes-clause-change c =
    let heads = c.args.sight.now.heads.now.list.items in
    let at = c.loop.at in
    let d = c.index-head.result.now in
    passes_here heads c.args.sight.now.heads.now.rising _ at d (subst (λ n. HasIndex heads n at) (sym (ap (λ h. h.number) c.index-head.ensures)) (index_here heads at d c.loop.invariant.here.0)) (test.LiveOn c.args.block) (sym (c.passes.ensures ∙ ap (λ h. passes (test.LiveOn c.args.block) (patch_of h)) c.index-head.ensures) ∙ c.if-passes.true)

pub returns-then-passes-clause-path : goal.returns-then-passes-clause-path
returns-then-passes-clause-path c =
    let heads = c.args.sight.now.heads.now.list.items in
    traced_end heads (needs_of c.args.sight.now.needs.now.lists) c.args.block c.args.index c.loop.at _ c.loop.invariant (subst (λ n. HasIndex heads n c.loop.at) (sym (ap (λ h. h.number) c.index-head.ensures)) (index_here heads c.loop.at c.index-head.result.now c.loop.invariant.here.0))

pub loop-preserved : goal.loop-preserved
loop-preserved c = traced_next c.args.sight.now.heads.now.list.items (needs_of c.args.sight.now.needs.now.lists) c.args.block c.args.index c.loop.at c.in_ok-at.at c.loop.invariant c.in_ok-at.ensures
