use Rattle.fst_heads.specs.Heads.{patches_of}
use Rattle.fst_levels.proofs.Ancestral.{leads_further, leads_on}
use Rattle.fst_levels.proofs.ancestors.first_off.Goals as goal

pub loop-preserved : goal.loop-preserved
loop-preserved c =
    let sight = c.args.sight.now in
    let L = c.requires.sees.leveled in
    leads_further (patches_of sight.heads.now.list.items) sight.levels.now.ranks L.aligned (λ r. r.ancestry.parent) L.parents c.args.number c.loop.at c.rank_of-at.result.ancestry.parent c.loop.invariant c.rank_of-at.ensures.parent

pub returns-in-Some-clause-under : goal.returns-in-Some-clause-under
returns-in-Some-clause-under c = leads_on (patches_of c.args.sight.now.heads.now.list.items) c.args.number c.loop.at c.in-Some.off c.loop.invariant c.in-Some.ensures.under
