use Rattle.std.proofs.Common.{refl}
use Rattle.fst_graph.proofs.Gathering.{index_number, no_group}
use Rattle.fst_graph.proofs.groups.is_group.Goals as goal

pub returns-in-Some : goal.returns-in-Some
returns-in-Some c = (λ t. index_number c.args.groups.now c.args.number _ c.in-Some.ensures.found, λ h. refl)

pub returns-in-None : goal.returns-in-None
returns-in-None c = (λ t. cc, λ h. absurd (no_group c.args.groups.now c.args.number c.in-None.ensures.none h))
