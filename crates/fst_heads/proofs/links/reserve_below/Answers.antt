use Rattle.fst_heads.proofs.{Basics.{arith, common_steps}, Framed.below_set, Linking.nodes_set}
use Rattle.fst_heads.proofs.links.reserve_below.Goals as goal

pub returns-in_ok-reserve-clause-nodes : goal.returns-in_ok-reserve-clause-nodes
returns-in_ok-reserve-clause-nodes c = grind (arith, nodes_set)

pub returns-in_ok-reserve-clause-room : goal.returns-in_ok-reserve-clause-room
returns-in_ok-reserve-clause-room c =
    let heads = c.args.heads.now.list.items in
    let index = c.in-Some.ensures.found in
    below_set heads c.args.number c.in-Some.index _ c.args.heads.now.rising index c.in_ok-reserve.ensures.ok

pub returns-in_default : goal.returns-in_default
returns-in_default c = grind (arith, common_steps)

pub returns-in_err-reserve : goal.returns-in_err-reserve
returns-in_err-reserve c = grind (arith, common_steps)

pub returns-in_ok-reserve-clause-above : goal.returns-in_ok-reserve-clause-above
returns-in_ok-reserve-clause-above c = grind (arith, common_steps)

pub returns-in_ok-reserve-clause-capacity : goal.returns-in_ok-reserve-clause-capacity
returns-in_ok-reserve-clause-capacity c = grind (arith, common_steps)

pub returns-in_ok-reserve-clause-len : goal.returns-in_ok-reserve-clause-len
returns-in_ok-reserve-clause-len c = grind (arith, common_steps)
