use Rattle.std.proofs.lemmas.Grind.{common_steps}
use Rattle.std.proofs.Common.{◌<◌, ◌∙◌, arith, sym}
use Rattle.fst_heads.proofs.LastOnDisk.{disk_apart, disk_here, disk_met, disk_no, disk_start, disk_yes}
use Rattle.fst_heads.proofs.places.end_on_disk.Goals.{In-loop-left, then-not-is_kept-2, else-not-is_kept-2}
use Rattle.fst_heads.proofs.places.end_on_disk.Goals as goal

pub loop-left-init : goal.loop-left-init
loop-left-init c = disk_start c.args.heads.now c.args.first c.requires.first c.args.live c.requires.live

-- some are still to be met
more : (c : In-loop-left) → 0 < c.loop-left.left
more c = omega (arith, c.loop-left-test.true)

pub overflow_sub-end : goal.overflow_sub-end
overflow_sub-end c =
    omega (arith, disk_apart c.args.heads.now c.args.first c.requires.first _ _ _ c.loop-left.invariant (more (goal.at.overflow_sub-end c).In-loop-left))

pub returns-then-not-is_kept : goal.returns-then-not-is_kept
returns-then-not-is_kept c =
    disk_here c.args.heads.now c.args.first c.requires.first _ _ _ c.loop-left.invariant (more (goal.at.returns-then-not-is_kept c).In-loop-left)
    c.index-heads-end.result c.index-heads-end.is (sym c.is_kept.ensures ∙ c.if-not-is_kept.true)

pub loop-left-preserved : goal.loop-left-preserved
loop-left-preserved c =
    let some = more (goal.at.loop-left-preserved c).In-loop-left in
    let last = sym c.is_kept.ensures ∙ c.if-not-is_kept.false in
    elim c.if-not-is_kept-2.branch [
      | then-not-is_kept-2 w ↦ rw w.left-is (disk_no c.args.heads.now c.args.first c.requires.first _ _ _ c.loop-left.invariant some
          c.index-heads-end.result c.index-heads-end.is last c.index-heads-index.result c.index-heads-index.is (sym c.is_kept-in-loop-left.ensures ∙ w.if-not-is_kept-2.true))
      | else-not-is_kept-2 w ↦ rw w.left-is (disk_yes c.args.heads.now c.args.first c.requires.first _ _ _ c.loop-left.invariant some
          c.index-heads-end.result c.index-heads-end.is last c.index-heads-index.result c.index-heads-index.is (sym c.is_kept-in-loop-left.ensures ∙ w.if-not-is_kept-2.false))
    ]

pub returns : goal.returns
returns c = disk_met c.args.heads.now c.args.first c.requires.first _ _ _ c.loop-left.invariant (omega (arith, c.loop-left-test.false))

pub overflow_sub-left : goal.overflow_sub-left
overflow_sub-left c = grind (arith, common_steps)

pub offset_bounds-heads-end : goal.offset_bounds-heads-end
offset_bounds-heads-end c = grind (arith, common_steps)

pub bounds-heads-end : goal.bounds-heads-end
bounds-heads-end c = grind (arith, common_steps)

pub overflow_sub-end-in-loop-left : goal.overflow_sub-end-in-loop-left
overflow_sub-end-in-loop-left c = grind (arith, common_steps)

pub offset_bounds-heads-index : goal.offset_bounds-heads-index
offset_bounds-heads-index c = grind (arith, common_steps)

pub bounds-heads-index : goal.bounds-heads-index
bounds-heads-index c = grind (arith, common_steps)

pub overflow_add-index : goal.overflow_add-index
overflow_add-index c = grind (arith, common_steps)

pub loop-left-smaller : goal.loop-left-smaller
loop-left-smaller c = grind (arith, common_steps)
