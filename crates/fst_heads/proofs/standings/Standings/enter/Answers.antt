use Rattle.fst_heads.proofs.Basics.{ap, arith}
use Rattle.fst_heads.proofs.Words.{Standing}
use Rattle.fst_heads.specs.Standings.{without_changes}
use Rattle.fst_heads.proofs.standings.Standings.enter.Goals as goal

pub enter-requires-clause-ready : goal.enter-requires-clause-ready
enter-requires-clause-ready c = omega (arith, ap (λ (s : Standing). s.ready) (c.at-standing.ensures.inside without_changes c.requires.inside), c.requires.ready without_changes)

pub enter-requires-clause-held : goal.enter-requires-clause-held
enter-requires-clause-held c = omega (arith, ap (λ (s : Standing). s.held) (c.at-standing.ensures.inside without_changes c.requires.inside), c.requires.held without_changes)
