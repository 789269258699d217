use Rattle.std.proofs.{Common.{◌≡◌, ◌<◌, ◌+◌, ◌++◌, ◌∷◌, ◌∙◌, [], count_by, length, refl, sym, ap, subst, arith}, lemmas.List.{length-map, length_push}}
use Rattle.fst_types.specs.{Facts.SparseAreLawful, Limits.max_heads, Making.fresh, Patches.OpenGate, Tests.is_live}
use Rattle.fst_heads.specs.{Heads.{patch_of, patches_of}, Nodes.{is_forgotten_in, nodes_of}}
use Rattle.fst_heads.proofs.{AtNumber.patches_in_nodes, Beside.waiting_live}
use Rattle.fst_graph.specs.{Fresh.{IsAdded, IsRoomier, MayAdd}, Sound.remembered_of}
use Rattle.fst_graph.proofs.{Adding.gate_may, Borne.ok_of, Flagged.{remembered_made, roomier_shelf}, Made.{added_over, added_sound, put_patches, roomier_over}, Paired.{adds_pair, head_lawful, pair_may, paired, with_head}, Remembered.remembered_lawful, RememberedLooks.live_few, Shelf.{put_remembered, same_view}, Sound.{roomier_sound, view_gone, view_long}}
use Rattle.fst_graph.proofs.GreatestNumber.{is_newest}
use Rattle.fst_graph.proofs.sparse.Sparse.add_pair.Goals.{After-add_two}
use Rattle.fst_graph.proofs.sparse.Sparse.add_pair.Goals as goal

pub add_two-requires-clause-newest : goal.add_two-requires-clause-newest
add_two-requires-clause-newest c = is_newest _ c.self.inside.numbers c.self.inside.blocks c.self.invariant.0.keeps.lawful c.self.invariant.0.leveled

pub add_two-requires-clause-few : goal.add_two-requires-clause-few
add_two-requires-clause-few c =
    let S = c.self.invariant.0 in
    let heads = c.self.inside.columns.heads.list.items in
    let full = c.in_default.ensures.clear.0 in
    omega (arith, full, waiting_live (nodes_of heads) c.self.inside.blocks S.tallies.settled, ap (count_by is_live) (patches_in_nodes heads), live_few (is_forgotten_in (nodes_of heads)) (patches_of heads) (view_gone c.self.invariant))

pub invariant_of-self-in_default-add_two : goal.invariant_of-self-in_default-add_two
invariant_of-self-in_default-add_two c =
    let R : IsRoomier c.self.inside.columns c.add_two.new.self = roomier_over _ c.in_default-add_two.ensures.roomier in
    rw c.let_go.ensures (roomier_sound c.self.invariant.0 R, roomier_shelf R.nodes c.reserve_landed.ensures.same c.reserve_landed.ensures.wide c.self.invariant.1)

pub returns-in_default-add_two-clause-same : goal.returns-in_default-add_two-clause-same
returns-in_default-add_two-clause-same c = rw (← c.self.view_is, c.let_go.ensures, same_view c.self.inside.columns.heads.list.items c.add_two.new.self.heads.list.items c.in_default-add_two.ensures.roomier.nodes) refl

-- nothing refuses the gates
few : (c : After-add_two) → count_by is_live (patches_of c.self.inside.columns.heads.list.items) + 1 < max_heads
few c =
    let heads = c.self.inside.columns.heads.list.items in
    let full = c.in_default.ensures.clear.0 in
    omega (arith, full, live_few (is_forgotten_in (nodes_of heads)) (patches_of heads) (view_gone c.self.invariant))

pub invariant_of-self-2 : goal.invariant_of-self-2
invariant_of-self-2 c =
    let S = c.self.invariant.0 in
    let heads = c.self.inside.columns.heads.list.items in
    let old = patches_of heads in
    let n = c.self.inside.numbers in
    let blocks = c.self.inside.blocks in
    let A = c.in-Ok.ensures.added in
    let most = few (goal.at.invariant_of-self-2 c).After-add_two in
    let head = fresh (n + 1) OpenGate [] in
    let tail = fresh (n + 1 + 1) OpenGate ((n + 1) ∷ []) in
    let patches : patches_of A.between.heads.list.items ≡ with_head old n = put_patches heads A.between.heads.list.items head A.head.head.nodes in
    let first_added : IsAdded head c.self.inside.columns A.between = added_over _ A.head in
    let one = added_sound S (gate_may old n head refl S.keeps.lawful (omega (arith, most))) {shelf = c.self.inside.landed} first_added {all = c.self.inside.live + 1} refl in
    let two = added_sound one (subst (λ ps. MayAdd ps (n + 1) tail) (sym patches) (pair_may old n S.keeps.lawful most)) {shelf = c.reserve_landed.new.landed} A.tail {all = c.self.inside.live + 2} (omega arith) in
    let place = ok_of c.reserve_landed.result _ c.reserve_landed.ensures.shelf (sym c.is_err.ensures.value ∙ c.if-is_err.false) in
    let full = c.in_default.ensures.clear.0 in
    let room : length heads + 1 < c.self.inside.forgotten + max_heads = omega (arith, full, view_long c.self.invariant) in
    let long : length A.between.heads.list.items ≡ length heads + 1 = omega (arith, ap length patches, length-map A.between.heads.list.items patch_of, length-map heads patch_of, length_push old head) in
    let first = put_remembered heads A.between.heads.list.items head n blocks A.head.head.nodes S.keeps.lawful.one_place_each refl one.tallies.settled {landed = c.self.inside.landed} {now = c.reserve_landed.new.landed}
    c.reserve_landed.ensures.same (omega (arith, room)) (omega (arith, place, c.len.ensures, c.self.inside.columns.heads.list.ok.0)) c.self.invariant.1 in
    rw c.let_go.ensures (
      two,
      put_remembered A.between.heads.list.items c.add_two.new.self.heads.list.items tail (n + 1) blocks A.tail.head.nodes one.keeps.lawful.one_place_each refl two.tallies.settled {landed = c.reserve_landed.new.landed} {now = c.reserve_landed.new.landed}
          refl (omega (arith, room, long)) (omega (arith, place, c.len.ensures, c.self.inside.columns.heads.list.ok.0, long)) first,
    )

pub returns-clause-ok : goal.returns-clause-ok
returns-clause-ok c =
    let n = c.self.inside.numbers in
    let old = c.self.inside.columns.heads.list.items in
    let A = c.in-Ok.ensures.added in
    let H = c.self.invariant.0.keeps.lawful in
    let head = fresh (n + 1) OpenGate [] in
    let tail = fresh (n + 1 + 1) OpenGate ((n + 1) ∷ []) in
    let one = put_patches old A.between.heads.list.items head A.head.head.nodes in
    let next = subst (λ ps. SparseAreLawful ps (n + 1)) (sym one) (head_lawful (patches_of old) n H) in
    let both : remembered_of c.add_two.new.self.heads.list.items ≡ paired (remembered_of old) n =
    remembered_made A.between.heads.list.items c.add_two.new.self.heads.list.items tail A.tail.head.nodes next.one_place_each refl (put_patches A.between.heads.list.items c.add_two.new.self.heads.list.items tail A.tail.head.nodes)
    ∙ ap (λ ps. ps ++ tail ∷ []) (remembered_made old A.between.heads.list.items head A.head.head.nodes H.one_place_each refl one) in
    let kept = remembered_lawful (is_forgotten_in (nodes_of old)) (patches_of old) n (view_gone c.self.invariant) H in
    rw (← c.self.view_is, c.let_go.ensures, both) (adds_pair (remembered_of old) n kept c.self.inside.blocks _ refl refl refl c.in_default.ensures.clear)
