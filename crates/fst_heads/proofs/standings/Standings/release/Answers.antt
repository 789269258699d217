use Rattle.fst_heads.proofs.Basics.{ap, arith}
use Rattle.fst_heads.proofs.Words.{Standing}
use Rattle.fst_heads.specs.Standings.{without_changes}
use Rattle.fst_heads.proofs.standings.Standings.release.Goals as goal

pub release-requires-clause-ready : goal.release-requires-clause-ready
release-requires-clause-ready c = omega (arith, ap (λ (s : Standing). s.ready) (c.at-standing.ensures.inside without_changes c.requires.inside), c.requires.ready without_changes)

pub release-requires-clause-held : goal.release-requires-clause-held
release-requires-clause-held c hard = omega (arith, ap (λ (s : Standing). s.held) (c.at-standing.ensures.inside without_changes c.requires.inside), c.requires.held without_changes hard)
