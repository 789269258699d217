use Rattle.std.proofs.lemmas.Grind.{common_steps}
use Rattle.std.proofs.Common.{◌<◌, ◌∙◌, length, sym, subst, rules, arith}
use Rattle.std.proofs.lemmas.List.{length-map}
use Rattle.fst_types.specs.Tests.{is_live}
use Rattle.fst_heads.specs.Heads.{patch_of, patches_of}
use Rattle.fst_heads.proofs.FirstOnDisk.{IsBetween, between_start, high_dead, high_live, low_dead, low_inside, some_below}
use Rattle.fst_heads.proofs.places.first_on_disk.Goals.{After-loop-live_below, In-loop-live_below}
use Rattle.fst_heads.proofs.places.first_on_disk.Goals as goal

pub loop-live_below-init : goal.loop-live_below-init
loop-live_below-init c =
    let heads = c.args.heads.now in
    subst (λ n. IsBetween is_live (patches_of heads) 0 n c.args.live) (length-map heads patch_of) (between_start is_live (patches_of heads) c.args.live c.requires)

-- the low index is that of a head
low : (c : In-loop-live_below) → c.loop-live_below.low < length c.args.heads.now
low c = low_inside c.args.heads.now _ _ _ c.loop-live_below.invariant c.loop-live_below-test.true

pub offset_bounds-heads-low : goal.offset_bounds-heads-low
offset_bounds-heads-low c = let inside = low (goal.at.offset_bounds-heads-low c).In-loop-live_below in search rules

pub bounds-heads-low : goal.bounds-heads-low
bounds-heads-low c = low (goal.at.bounds-heads-low c).In-loop-live_below

pub returns-then-not-is_kept : goal.returns-then-not-is_kept
returns-then-not-is_kept c =
    low_dead c.args.heads.now _ _ _ c.loop-live_below.invariant c.loop-live_below-test.true c.index-heads-low.result c.index-heads-low.is (sym c.is_kept.ensures ∙ c.if-not-is_kept.true)

pub overflow_add-low : goal.overflow_add-low
overflow_add-low c = let inside = low (goal.at.overflow_add-low c).In-loop-live_below in search rules

pub overflow_sub-live_below : goal.overflow_sub-live_below
overflow_sub-live_below c =
    some_below c.args.heads.now _ _ _ c.loop-live_below.invariant c.loop-live_below-test.true c.index-heads-low.result c.index-heads-low.is c.index-heads-high.result c.index-heads-high.is
    (sym c.is_kept-in-loop-live_below.ensures ∙ c.if-is_kept.true)

pub loop-live_below-preserved-then-is_kept : goal.loop-live_below-preserved-then-is_kept
loop-live_below-preserved-then-is_kept c =
    high_live c.args.heads.now _ _ _ c.loop-live_below.invariant c.loop-live_below-test.true c.index-heads-low.result c.index-heads-low.is c.index-heads-high.result c.index-heads-high.is
    (sym c.is_kept.ensures ∙ c.if-not-is_kept.false) (sym c.is_kept-in-loop-live_below.ensures ∙ c.if-is_kept.true)

pub loop-live_below-preserved : goal.loop-live_below-preserved
loop-live_below-preserved c =
    high_dead c.args.heads.now _ _ _ c.loop-live_below.invariant c.loop-live_below-test.true c.index-heads-low.result c.index-heads-low.is c.index-heads-high.result c.index-heads-high.is
    (sym c.is_kept.ensures ∙ c.if-not-is_kept.false) (sym c.is_kept-in-loop-live_below.ensures ∙ c.if-is_kept.false)

pub offset_bounds-heads-high : goal.offset_bounds-heads-high
offset_bounds-heads-high c = grind (arith, common_steps)

pub bounds-heads-high : goal.bounds-heads-high
bounds-heads-high c = grind (arith, common_steps)

pub returns : goal.returns
returns c = grind (arith, common_steps)
