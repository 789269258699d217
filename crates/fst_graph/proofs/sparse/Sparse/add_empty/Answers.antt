use Rattle.std.proofs.{Common.{◌≡◌, ◌<◌, ◌+◌, ◌++◌, ◌∷◌, ◌∙◌, [], Contains, length, if◌then◌else◌, refl, sym, ap, subst, arith}, lemmas.List.length-map}
use Rattle.fst_types.specs.{Dependencies.IsLiveNumber, Limits.max_heads, Lists.Lists, Making.EmptyIsMade, Order.make_order, Patches.Patch, Refusals.NoneHolds, Tests.is_at}
use Rattle.fst_heads.specs.{Heads.patches_of, Names.numbers_of, Nodes.{is_forgotten_in, node_of, nodes_of}}
use Rattle.fst_heads.proofs.{Added.with_node, Beside.weighs, Landed.landed_few}
use Rattle.fst_graph.specs.{Fresh.{patch_from, IsAdded, IsRoomier, MayAdd}, Known.Known, Sound.remembered_of}
use Rattle.fst_graph.proofs.{Adding.{empty_made, empty_may}, Borne.few_waiting, Emptying.new_empty, Flagged.{gone_past, remembered_made, roomier_shelf}, Made.{added_over, added_sound, put_patches, roomier_over}, Remembered.remembered_pushed}
use Rattle.fst_graph.proofs.{RememberedLooks.live_few, RememberedRows.emptied_remembered, Shelf.{put_remembered, same_view}, Sound.{roomier_sound, view_gone, view_long}}
use Rattle.fst_types.specs.declared.place.Place.TheVariants as place
use Rattle.fst_graph.proofs.GreatestNumber.{is_newest}
use Rattle.fst_graph.proofs.sparse.Sparse.add_empty.Goals.{After-add_one}
use Rattle.fst_graph.proofs.sparse.Sparse.add_empty.Goals as goal

pub add_one-requires-clause-newest : goal.add_one-requires-clause-newest
add_one-requires-clause-newest c =
    let own : c.in-Ok.fresh.number ≡ c.self.inside.numbers + 1 = ap (λ (q : Patch). q.number) c.in-Ok.ensures.empty in
    rw own (is_newest _ c.self.inside.numbers c.self.inside.blocks c.self.invariant.0.keeps.lawful c.self.invariant.0.leveled)

pub add_one-requires-clause-few : goal.add_one-requires-clause-few
add_one-requires-clause-few c = few_waiting c.self.inside.columns.heads.list.items c.self.invariant.0.tallies.settled c.self.invariant.0.beside

pub invariant_of-self-in_default : goal.invariant_of-self-in_default
invariant_of-self-in_default c =
    let R : IsRoomier c.self.inside.columns c.add_one.new.self = roomier_over _ c.in_default.ensures.roomier in
    rw c.let_go.ensures (roomier_sound c.self.invariant.0 R, roomier_shelf R.nodes c.in-Ok.ensures.same c.in-Ok.ensures.wide c.self.invariant.1)

pub returns-in_default-clause-same : goal.returns-in_default-clause-same
returns-in_default-clause-same c = rw (← c.self.view_is, c.let_go.ensures, same_view c.self.inside.columns.heads.list.items c.add_one.new.self.heads.list.items c.in_default.ensures.roomier.nodes) refl

-- the row has the named patches that are live, and nothing refuses the patch
row : (c : After-add_one) → Lists (λ n. IsLiveNumber (patches_of c.self.inside.columns.heads.list.items) n × Contains (numbers_of c.args.after.now) n) c.in-Ok.fresh.dependencies.items
row c = c.in-Ok.ensures.depends

clear : (c : After-add_one) → NoneHolds (make_order (remembered_of c.self.inside.columns.heads.list.items) c.self.inside.numbers (numbers_of c.args.after.now))
clear c = c.in-Ok.ensures.clear (remembered_of c.self.inside.columns.heads.list.items) (ap (λ (v : Known). length v.heads) c.self.view_is ∙ sym c.standing-standing.ensures)

may : (c : After-add_one) → MayAdd (patches_of c.self.inside.columns.heads.list.items) c.self.inside.numbers (patch_from c.in-Ok.fresh)
may c =
    let heads = c.self.inside.columns.heads.list.items in
    let full = (clear c).1.1.0 in
    empty_may (patches_of heads) c.self.inside.numbers c.self.invariant.0.keeps.lawful (numbers_of c.args.after.now) c.in-Ok.fresh.dependencies.items (row c) (patch_from c.in-Ok.fresh) c.in-Ok.ensures.empty
    (omega (arith, full, live_few (is_forgotten_in (nodes_of heads)) (patches_of heads) (view_gone c.self.invariant)))

-- there is a place for it among those that landed
spare : (c : After-add_one) → length c.self.inside.columns.heads.list.items < c.new_empty.new.landed.cap
spare c = c.in-Ok.ensures.shelf

pub note_rest-requires : goal.note_rest-requires
note_rest-requires c =
    let free = spare (goal.at.note_rest-requires c).After-add_one in
    let heads = c.self.inside.columns.heads.list.items in
    let same = ap length c.in-Ok.ensures.same in
    omega (arith, free, same, landed_few (nodes_of heads) c.self.inside.landed.items c.self.invariant.1.told, length-map heads node_of, c.new_empty.new.landed.ok.0)

pub invariant_of-self-2 : goal.invariant_of-self-2
invariant_of-self-2 c =
    let at = (goal.at.invariant_of-self-2 c).After-add_one in
    let heads = c.self.inside.columns.heads.list.items in
    let n = c.self.inside.numbers in
    let M = may at in
    let p = patch_from c.in-Ok.fresh in
    let A : IsAdded (patch_from c.in-Ok.fresh) c.self.inside.columns c.add_one.new.self = added_over _ c.in-Ok-add_one.ensures.added in
    let sound = added_sound c.self.invariant.0 M {shelf = c.note_rest.new.landed} A {all = c.self.inside.live + c.weight.result} (ap (λ w. c.self.inside.live + w) (c.weight.ensures ∙ weighs p)) in
    let full = (clear at).1.1.0 in
    let room : length heads < c.self.inside.forgotten + max_heads = omega (arith, full, view_long c.self.invariant) in
    let items = c.note_rest.ensures.noted ∙ ap (λ ns. if is_at p.place place.Disk then ns ++ p.number ∷ [] else ns) c.in-Ok.ensures.same in
    rw c.let_go.ensures (rw M.next (
      sound,
      put_remembered heads c.add_one.new.self.heads.list.items p n c.self.inside.blocks A.head.nodes c.self.invariant.0.keeps.lawful.one_place_each M.next sound.tallies.settled {landed = c.self.inside.landed} {now = c.note_rest.new.landed}
          items room (omega (arith, spare at, c.note_rest.ensures.shelf)) c.self.invariant.1,
    ))

pub returns-clause-ok : goal.returns-clause-ok
returns-clause-ok c =
    let at = (goal.at.returns-clause-ok c).After-add_one in
    let heads = c.self.inside.columns.heads.list.items in
    let new = c.add_one.new.self.heads.list.items in
    let n = c.self.inside.numbers in
    let after = numbers_of c.args.after.now in
    let deps = c.in-Ok.fresh.dependencies.items in
    let H = c.self.invariant.0.keeps.lawful in
    let gone = is_forgotten_in (nodes_of heads) in
    let e = gone_past heads n (n + 1) H.one_place_each (omega arith) in
    let made = empty_made (patches_of heads) n H after deps (row at) in
    let row = emptied_remembered gone (patches_of heads) n (view_gone c.self.invariant) H after (n + 1) (patches_of heads ++ new_empty n deps ∷ []) e made in
    let nodes = c.in-Ok-add_one.ensures.added.head.nodes ∙ ap (with_node (nodes_of heads)) c.in-Ok.ensures.empty in
    let added = remembered_made heads new (new_empty n deps) nodes H.one_place_each refl (put_patches heads new (new_empty n deps) nodes) in
    rw (← c.self.view_is, c.let_go.ensures, (may at).next, added)
    (record { clear = clear at; row = subst (EmptyIsMade (remembered_of heads) n after (n + 1)) (remembered_pushed gone (patches_of heads) (new_empty n deps) e) row; numbers = refl; blocks = refl; groups = refl; prepared = refl })
