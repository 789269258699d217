use Rattle.std.proofs.Common.{◌∷◌, ◌∙◌, [], ap, refl, arith, length}
use Rattle.fst_heads.specs.Nodes.{nodes_of, pending_in}
use Rattle.fst_heads.proofs.{Sums.sums_few}
use Rattle.fst_graph.proofs.Made.{summed}
use Rattle.fst_graph.proofs.sparse.making.tie.Goals as goal

pub row_sums-sums-requires : goal.row_sums-sums-requires
row_sums-sums-requires c =
    let few = sums_few (pending_in (nodes_of c.args.heads.now.list.items)) c.as_slice.result.now in
    record { room = omega (arith, few, ap length c.as_slice.ensures, ap length c.row_of-row.ensures) }

pub gain_one-requires-clause-counted : goal.gain_one-requires-clause-counted
gain_one-requires-clause-counted c =
    rw (summed c.args.heads.now.list.items c.args.heads.now.list.items c.row_sums-sums.ensures.sums refl (c.as_slice.ensures ∙ c.row_of-row.ensures)) c.requires.counted

pub link-requires-clause-room : goal.link-requires-clause-room
link-requires-clause-room c = rw (c.as_slice-2.ensures, c.row_of-row.ensures) (c.gain_one.ensures.above (c.args.number ∷ []) c.requires.above)
