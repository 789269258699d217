use Rattle.std.proofs.{Common.{◌≡◌, ◌<◌, ◌+◌, ◌∙◌, [], List, count_by, length, refl, sym, ap, arith}}
use Rattle.fst_types.specs.{Limits.max_heads, Making.fresh, Order.room_order, Patches.{OpenGate, Patch}, Refusals.NoneHolds, Tests.is_live}
use Rattle.fst_heads.specs.{Heads.patches_of, Nodes.{is_forgotten_in, nodes_of}, declared.head.Head.Head}
use Rattle.fst_heads.proofs.{Added.with_node, Beside.one_live}
use Rattle.fst_graph.specs.{Fresh.{patch_from, IsAdded, IsRoomier, MayAdd}, Known.Known, Sound.remembered_of}
use Rattle.fst_graph.proofs.{Adding.gate_may, Borne.{few_waiting, ok_of}, Flagged.{remembered_made, roomier_shelf}, Made.{added_over, added_sound, put_patches, roomier_over}, RememberedLooks.live_few, Shelf.{put_remembered, same_view}, Sound.{roomier_sound, view_gone, view_long}}
use Rattle.fst_graph.proofs.GreatestNumber.{is_newest}
use Rattle.fst_graph.proofs.sparse.Sparse.add_gate.Goals.{After-gate}
use Rattle.fst_graph.proofs.sparse.Sparse.add_gate.Goals as goal

-- nothing refuses the gate
clear : (c : After-gate) → NoneHolds (room_order (remembered_of c.self.inside.columns.heads.list.items) c.self.inside.numbers)
clear c = c.in_default.ensures.clear (remembered_of c.self.inside.columns.heads.list.items) (ap (λ (v : Known). length v.heads) c.self.view_is ∙ sym c.standing-standing.ensures)

gate : (c : After-gate) → patch_from c.gate.result ≡ fresh (c.self.inside.numbers + 1) OpenGate []
gate c = c.gate.ensures ∙ ap (fresh (c.self.inside.numbers + 1) OpenGate) c.new.ensures.items

few : (c : After-gate) → count_by is_live (patches_of c.self.inside.columns.heads.list.items) < max_heads
few c =
    let heads = c.self.inside.columns.heads.list.items in
    let full = (clear c).0 in
    omega (arith, full, live_few (is_forgotten_in (nodes_of heads)) (patches_of heads) (view_gone c.self.invariant))

may : (c : After-gate) → MayAdd (patches_of c.self.inside.columns.heads.list.items) c.self.inside.numbers (patch_from c.gate.result)
may c = gate_may (patches_of c.self.inside.columns.heads.list.items) c.self.inside.numbers _ (gate c) c.self.invariant.0.keeps.lawful (few c)

pub add_one-requires-clause-newest : goal.add_one-requires-clause-newest
add_one-requires-clause-newest c =
    let own : c.gate.result.number ≡ c.self.inside.numbers + 1 = ap (λ (q : Patch). q.number) c.gate.ensures in
    rw own (is_newest _ c.self.inside.numbers c.self.inside.blocks c.self.invariant.0.keeps.lawful c.self.invariant.0.leveled)

pub add_one-requires-clause-few : goal.add_one-requires-clause-few
add_one-requires-clause-few c = few_waiting c.self.inside.columns.heads.list.items c.self.invariant.0.tallies.settled c.self.invariant.0.beside

pub invariant_of-self-in_default-add_one : goal.invariant_of-self-in_default-add_one
invariant_of-self-in_default-add_one c =
    let R : IsRoomier c.self.inside.columns c.add_one.new.self = roomier_over _ c.in_default-add_one.ensures.roomier in
    rw c.let_go.ensures (roomier_sound c.self.invariant.0 R, roomier_shelf R.nodes c.reserve_landed.ensures.same c.reserve_landed.ensures.wide c.self.invariant.1)

pub returns-in_default-add_one-clause-same : goal.returns-in_default-add_one-clause-same
returns-in_default-add_one-clause-same c = rw (← c.self.view_is, c.let_go.ensures, same_view c.self.inside.columns.heads.list.items c.add_one.new.self.heads.list.items c.in_default-add_one.ensures.roomier.nodes) refl

-- the heads with the gate, the last of them
put : (c : After-gate) (new : List Head) → nodes_of new ≡ with_node (nodes_of c.self.inside.columns.heads.list.items) (patch_from c.gate.result) → nodes_of new ≡ with_node (nodes_of c.self.inside.columns.heads.list.items) (fresh (c.self.inside.numbers + 1) OpenGate [])
put c new made = made ∙ ap (with_node (nodes_of c.self.inside.columns.heads.list.items)) (gate c)

pub invariant_of-self-2 : goal.invariant_of-self-2
invariant_of-self-2 c =
    let at = (goal.at.invariant_of-self-2 c).After-gate in
    let heads = c.self.inside.columns.heads.list.items in
    let n = c.self.inside.numbers in
    let S = c.self.invariant.0 in
    let A : IsAdded (patch_from c.gate.result) c.self.inside.columns c.add_one.new.self = added_over _ c.in-Ok.ensures.added in
    let sound = added_sound S (may at) {shelf = c.reserve_landed.new.landed} A {all = c.self.inside.live + 1} (ap (λ p. c.self.inside.live + one_live p) (sym (gate at))) in
    let place = ok_of c.reserve_landed.result _ c.reserve_landed.ensures.shelf (sym c.is_err.ensures.value ∙ c.if-is_err.false) in
    let full = (clear at).0 in
    let room : length heads < c.self.inside.forgotten + max_heads = omega (arith, full, view_long c.self.invariant) in
    rw c.let_go.ensures (
      sound,
      put_remembered heads c.add_one.new.self.heads.list.items (fresh (n + 1) OpenGate []) n c.self.inside.blocks (put at c.add_one.new.self.heads.list.items A.head.nodes) S.keeps.lawful.one_place_each refl sound.tallies.settled
          c.reserve_landed.ensures.same room (omega (arith, place, c.len.ensures, c.self.inside.columns.heads.list.ok.0)) c.self.invariant.1,
    )

pub returns-clause-ok : goal.returns-clause-ok
returns-clause-ok c =
    let at = (goal.at.returns-clause-ok c).After-gate in
    let heads = c.self.inside.columns.heads.list.items in
    let new = c.add_one.new.self.heads.list.items in
    let gate = fresh (c.self.inside.numbers + 1) OpenGate [] in
    let made = put at new c.in-Ok.ensures.added.head.nodes in
    let added = remembered_made heads new gate made c.self.invariant.0.keeps.lawful.one_place_each refl (put_patches heads new gate made) in
    rw (← c.self.view_is, c.let_go.ensures) (record { clear = clear at; row = record { next = refl; added = added }; numbers = refl; blocks = refl; groups = refl; prepared = refl })
