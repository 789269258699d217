use Rattle.fst_heads.proofs.standings.least_between.Given as goal
use Rattle.fst_heads.specs.Standings.{NoneMarked}

abbrev pub invariant-loop-block : goal.invariant-loop-block
invariant-loop-block l = NoneMarked l.each l.first l.block
