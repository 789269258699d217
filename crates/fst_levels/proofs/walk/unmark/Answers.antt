use Rattle.std.proofs.Common.{take, get_or, subst, arith}
use Rattle.std.proofs.{lemmas.List.{take_all, take_more}, lemmas.List.Elements.Contains-get_or}
use Rattle.fst_levels.proofs.Trails.{Unmarking, met_inside, unmarking_more, unmarking_all}
use Rattle.fst_levels.proofs.walk.unmark.Goals as goal

pub bounds-marks-index : goal.bounds-marks-index
bounds-marks-index c =
    let lt = met_inside c.args.marks.now c.args.met.now c.requires (get_or c.args.met.now c.loop-index.index-index 0) (Contains-get_or c.args.met.now c.loop-index.index-index 0 c.loop-index-test.true) in
    omega (arith, lt, c.loop-index.auto.marks)

pub loop-index-preserved : goal.loop-index-preserved
loop-index-preserved c =
    let met = c.args.met.now in
    let i = c.loop-index.index-index in
    let n = get_or met i 0 in
    let lt = met_inside c.args.marks.now met c.requires n (Contains-get_or met i 0 c.loop-index-test.true) in
    rw (take_more met i 0 c.loop-index-test.true) (unmarking_more c.args.marks.now c.loop-index.marks (take i met) n (omega (arith, lt, c.loop-index.auto.marks)) c.loop-index.invariant)

pub returns-clause-clear : goal.returns-clause-clear
returns-clause-clear c =
    let all = subst (Unmarking c.args.marks.now c.loop-index.marks) (take_all c.loop-index.index-index c.args.met.now (omega (arith, c.loop-index-test.false))) c.loop-index.invariant in
    unmarking_all c.args.marks.now c.loop-index.marks c.args.met.now c.requires all
