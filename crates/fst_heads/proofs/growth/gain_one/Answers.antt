use Rattle.fst_heads.proofs.{Basics.arith, AtNumber.{at_index, at_none}}
use Rattle.fst_heads.proofs.PendingAt.{holds_at, gained_node}
use Rattle.fst_heads.proofs.growth.gain_one.Goals as goal

pub with-head-requires : goal.with-head-requires
with-head-requires c =
    let counted = holds_at c.args.heads.now.list.items c.args.gate c.in-Some.index c.index_mut-head.result.now c.in-Some.ensures.found c.index_mut-head.ensures.value c.requires.counted in
    record { fits = counted.1; other = c.requires.fits; room = counted.0 }

pub returns-in-Some-clause-nodes : goal.returns-in-Some-clause-nodes
returns-in-Some-clause-nodes c = grind (arith, at_index, gained_node)

pub returns-in_default-clause-nodes : goal.returns-in_default-clause-nodes
returns-in_default-clause-nodes c = grind (arith, at_none)
