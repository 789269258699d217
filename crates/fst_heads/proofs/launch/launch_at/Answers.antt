use Rattle.fst_heads.proofs.{Basics.{ap, arith}, Words.{node_of}, Framed.frames_set, Placed.{flies, launched_index, launched_none}}
use Rattle.fst_heads.proofs.launch.launch_at.Goals as goal

pub returns-in-Some-clause-nodes : goal.returns-in-Some-clause-nodes
returns-in-Some-clause-nodes c =
    let index = c.in-Some.ensures.found in
    launched_index c.args.heads.now.list.items c.args.number c.in-Some.index _ c.index_mut.result.now c.args.heads.now.rising index (ap (λ h. flies (node_of h)) c.index_mut.ensures.value)

pub returns-in-Some-clause-frames : goal.returns-in-Some-clause-frames
returns-in-Some-clause-frames c = grind (arith, frames_set)

pub returns-in_default-clause-nodes : goal.returns-in_default-clause-nodes
returns-in_default-clause-nodes c = launched_none c.args.heads.now.list.items c.args.number (c.in_default.ensures.none)
