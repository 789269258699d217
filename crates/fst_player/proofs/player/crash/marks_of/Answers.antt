use Rattle.std.proofs.Common.{◌∙◌, true, refl, arith, length-set}
use Rattle.fst_types.specs.declared.number.BlockNo.{BlockNo}
use Rattle.fst_player.proofs.MarkLemmas.{none_marked, one_marked, past_marked}
use Rattle.fst_player.proofs.player.crash.marks_of.Goals as goal
use Rattle.fst_player.proofs.player.crash.marks_of.Goals.{then-at-lt4096, else-at-lt4096}

pub loop-block-init : goal.loop-block-init
loop-block-init c = (refl, λ b lt. none_marked 4096 b lt)

pub loop-block-preserved : goal.loop-block-preserved
loop-block-preserved c =
    let blocks = c.args.blocks.now in
    let i = c.loop-block.block-index in
    let marks = c.loop-block.marks in
    let none : BlockNo = record { 0 = 0 } in
    let long = c.loop-block.invariant.0 in
    let marked = c.loop-block.invariant.1 in
    elim c.if-at-lt4096.branch [
      | then-at-lt4096 w ↦
          let below = w.if-at-lt4096.true in
          rw w.marks-is (length-set marks _ true ∙ long, one_marked blocks i none c.loop-block-test.true marks (omega (arith, below, long)) marked)
      | else-at-lt4096 w ↦
          let past = w.if-at-lt4096.false in
          rw w.marks-is (long, past_marked blocks i none c.loop-block-test.true marks (omega (arith, past)) marked)
    ]
