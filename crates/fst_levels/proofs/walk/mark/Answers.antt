use Rattle.std.proofs.Common.{take, get_or, subst, arith}
use Rattle.std.proofs.{lemmas.List.{take_all, take_more}, lemmas.List.Elements.Contains-get_or}
use Rattle.fst_levels.specs.Walks.{AreMarked}
use Rattle.fst_levels.proofs.Trails.{marked_push}
use Rattle.fst_levels.proofs.walk.mark.Goals as goal

pub bounds-marks-index : goal.bounds-marks-index
bounds-marks-index c =
    let lt = c.requires.inside (get_or c.args.met.now c.loop-index.index-index 0) (Contains-get_or c.args.met.now c.loop-index.index-index 0 c.loop-index-test.true) in
    omega (arith, lt, c.loop-index.auto.marks)

pub loop-index-preserved : goal.loop-index-preserved
loop-index-preserved c =
    let met = c.args.met.now in
    let i = c.loop-index.index-index in
    let n = get_or met i 0 in
    let lt = c.requires.inside n (Contains-get_or met i 0 c.loop-index-test.true) in
    rw (take_more met i 0 c.loop-index-test.true) (marked_push c.loop-index.marks (take i met) c.loop-index.invariant n (omega (arith, lt, c.loop-index.auto.marks)))

pub returns-clause-marked : goal.returns-clause-marked
returns-clause-marked c = subst (AreMarked c.loop-index.marks) (take_all c.loop-index.index-index c.args.met.now (omega (arith, c.loop-index-test.false))) c.loop-index.invariant
