use Rattle.std.proofs.Common.{◌≡◌, ◌<◌, ◌∙◌, Contains, get_or, arith, false, length, sym, refl, ap, subst}
use Rattle.std.proofs.lemmas.List.{length_push, Elements.Contains-get_or}
use Rattle.fst_heads.specs.{Heads.{kind_of, patch_of, patches_of}, Nodes.{nodes_of, pending_in}, Pendings.{joined, joined_sums, of_kind, sums_of}, declared.head.Head.Head}
use Rattle.fst_graph.specs.Fresh.{patch_from}
use Rattle.fst_types.proofs.Finite.{In-from_Contains, Contains-from_In, In-map}
use Rattle.fst_heads.proofs.{Few.{apart_rising, row_few}, Framed.{pushed_above, pushed_below}, Sums.joined_exact}
use Rattle.fst_levels.proofs.Seen.{linked_patches}
use Rattle.fst_graph.proofs.Made.{put_nodes, summed}
use Rattle.fst_graph.proofs.columns.Columns.put_down.Goals.{After-link}
use Rattle.fst_graph.proofs.columns.Columns.put_down.Goals as goal

-- the sums of its row, and what is pending of it
sums : (c : goal.After-grow-2) → c.row_sums-sums.result ≡ sums_of (pending_in (nodes_of c.args.self.now.heads.list.items)) c.args.fresh.dependencies.items
sums c = summed c.args.self.now.heads.list.items c.args.self.now.heads.list.items c.row_sums-sums.ensures.sums refl c.as_slice-row.ensures

pending : (c : goal.After-grow-2) → c.pending_over-pending.result ≡ of_kind (kind_of c.args.fresh.kind) c.args.fresh.place (joined (pending_in (nodes_of c.args.self.now.heads.list.items)) c.args.fresh.dependencies.items)
pending c =
    let told = pending_in (nodes_of c.args.self.now.heads.list.items) in
    let row = c.args.fresh.dependencies.items in
    c.pending_over-pending.ensures ∙ ap (of_kind (kind_of c.args.fresh.kind) c.args.fresh.place) (c.joined.ensures ∙ (ap joined_sums (sums c) ∙ joined_exact told row))

pub row_sums-sums-requires : goal.row_sums-sums-requires
row_sums-sums-requires c =
    let heads = c.args.self.now.heads.list.items in
    let few = row_few (nodes_of heads) c.args.fresh.dependencies.items (apart_rising c.args.fresh.dependencies.items c.requires.once) in
    record { room = rw c.as_slice-row.ensures (omega (arith, few, c.requires.few)) }

-- the new head has the greatest number
lower : (c : After-link) (h : Head) → Contains c.link.new.heads.list.items h → h.number < c.args.fresh.number
lower c h there =
    c.requires.newest.heads (patch_of h) (subst (λ ps. Contains ps (patch_of h)) (linked_patches c.link.new.heads.list.items c.args.self.now.heads.list.items _ _ c.link.ensures.nodes)
    (Contains-from_In (patches_of c.link.new.heads.list.items) (patch_of h) (In-map patch_of c.link.new.heads.list.items h (patch_of h) (In-from_Contains c.link.new.heads.list.items h there) refl)))

pub push-requires-clause-newest : goal.push-requires-clause-newest
push-requires-clause-newest c k d lt =
    let at = (goal.at.push-requires-clause-newest c).After-link in
    lower at (get_or c.link.new.heads.list.items k d) (Contains-get_or c.link.new.heads.list.items k d lt)

pub returns-clause-put : goal.returns-clause-put
returns-clause-put c =
    record {
      nodes = put_nodes c.args.self.now.heads.list.items c.link.new.heads.list.items _ (patch_from c.args.fresh) c.link.ensures.nodes c.as_slice-row.ensures c.push.ensures.list (rw (pending c, sums c, c.new.ensures.items) refl);
      marks = c.grow.ensures.marks;
      crossed = c.grow.ensures.crossed;
      ranks = c.grow-2.ensures.ranks;
      floors = c.grow-2.ensures.floors;
      waiting = refl;
      wide = omega arith;
    }

pub returns-clause-pending : goal.returns-clause-pending
returns-clause-pending c = pending c

pub returns-clause-above : goal.returns-clause-above
returns-clause-above c =
    let at = (goal.at.returns-clause-above c).After-link in
    rw c.push.ensures.list (pushed_above c.link.new.heads.list.items _ c.args.fresh.number (λ h there same. omega (arith, lower at h there, same)) (omega (arith, ap length c.new.ensures.items, c.new.ensures.capacity)))

pub returns-clause-below : goal.returns-clause-below
returns-clause-below c n other room = rw c.push.ensures.list (pushed_below c.link.new.heads.list.items _ n (λ e. other (sym e)) (c.link.ensures.below n room))

pub returns-clause-places : goal.returns-clause-places
returns-clause-places c more P =
    let marks = c.args.self.now.ends.up.walk.marks in
    let below = c.args.self.now.ends.down.walk.marks in
    record {
      heads_free = omega (arith, P.heads_free, c.push.ensures.len, c.push.ensures.capacity, c.link.ensures.len, c.link.ensures.capacity);
      marks_free = omega (arith, P.marks_free, ap length c.grow.ensures.marks.0, length_push marks false, c.grow.ensures.room.0);
      below_free = omega (arith, P.below_free, ap length c.grow.ensures.marks.1, length_push below false, c.grow.ensures.room.1);
      ranks_free = omega (arith, P.ranks_free, ap length c.grow-2.ensures.ranks, length_push c.args.self.now.levels.ranks (record { number = c.args.fresh.number; level = c.args.level; ancestry = c.args.ancestry; hard_over = 0 }), c.grow-2.ensures.room);
    }
