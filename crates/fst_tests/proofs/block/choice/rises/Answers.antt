use Rattle.fst_tests.proofs.Tested.{rises_more}
use Rattle.fst_tests.proofs.block.choice.rises.Goals as goal

pub loop-i-preserved : goal.loop-i-preserved
loop-i-preserved c = rises_more c.args.chosen.now c.loop-i.i c.loop-i.auto.i c.loop-i-test.true c.if-chosen-i.false c.loop-i.invariant
