use Rattle.std.proofs.Common.{◌+◌}
use Rattle.fst_heads.specs.Heads.{patches_of}
use Rattle.fst_graph.specs.Sound.{remembered_of}
use Rattle.fst_graph.proofs.{Readied.{seen_member, member_seen, ready_member}, Sound.prepared_is}
use Rattle.fst_graph.proofs.sparse.Sparse.is_member_prepared.Goals as goal

pub returns-in-Some : goal.returns-in-Some
returns-in-Some c =
    let n = c.self.inside.numbers in
    let p = c.in-Some.prepared in
    let heads = patches_of c.self.inside.columns.heads.list.items in
    let blocks = c.self.inside.blocks in
    let ready = (prepared_is c.self.invariant.0 p c.in-Some.is).ready in
    rw (← c.self.view_is, c.in-Some.is) (
      λ e.
          let said = c.is_for_group.ensures.0 e in
          let r = ready_member n p c.args.head.0 heads (remembered_of c.self.inside.columns.heads.list.items) n blocks said.2 ready in
          (n + 1, p.told.grade, seen_member n p r.0 heads n blocks r.2 r.1 c.args.head.0 c.args.block.0 c.args.span said),
      λ h. c.is_for_group.ensures.1 (member_seen n p c.args.head.0 c.args.block.0 c.args.span h.0 h.1 h.2),
    )
