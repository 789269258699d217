use Rattle.std.proofs.Common.{rules, ◌<◌, ◌^◌, length, ◌∙◌, arith}
use prog.Capped.{capped_is}
use Rattle.fst_chain.proofs.Small.{node_small}
use Rattle.fst_chain.proofs.node.room_for.Goals as goal

pub open-room-requires : goal.open-room-requires
open-room-requires g c =
    let bytes : length c.args.payload.now < 2 ^ 63 = search rules in
    (c.header_size.ensures ∙ capped_is _ (omega (arith, node_small (denote.Memory.lone g.row.T.mir) (denote.Param.layout g.row.T) _ c.requires)), omega (arith, bytes, c.in_ok-block.ensures))
