use Rattle.std.proofs.Common.{◌≡◌, ◌<◌, ◌∙◌, get_or, map, sym, ap, subst, refl, arith, rules}
use Rattle.std.proofs.lemmas.List.{length-map}
use Rattle.fst_types.specs.{Writable.{IsWritable, IsWritableSet}, Writing.launched}
use Rattle.fst_heads.specs.{Heads.patches_of, Keeps.Beside, Names.numbers_of, Nodes.{is_forgotten_in, node_of, nodes_of, patches_in}, Spreading.{IsRisenOf, launches}, Standings.{ready_on, without_changes}}
use Rattle.fst_graph.specs.Known.{Known}
use Rattle.fst_types.proofs.Issuing.{alike_launched}
use Rattle.fst_heads.proofs.{AtNumber.patches_in_nodes, Carried.risen_spread, Indices.any_default}
use Rattle.fst_levels.proofs.Seen.{lawful_nodes}
use Rattle.fst_graph.proofs.{Flagged.{flags_map, flags_of, flags_spread, remembered_as, remembered_still}, Remembered.remembered_map, RememberedRows.launched_number, Risen.{beside_risen, landed_risen}}
use Rattle.fst_graph.proofs.{Borne.inside_nodes, Kept.{covered_moved, keeps_launched}, Launches.{some_chosen, first_named, none_first, block_found, block_some, chosen_ready, tallies_chosen}}
use Rattle.fst_graph.proofs.{Marking.writable_rests, NeedsNow.needing_launched, Ranks.leveled_moved, Sound.{as_many_standings, view_gone}, sparse.Sparse.launch.Goals.{After-block_of, After-launch-arg-2-1, After-launch}}
use Rattle.fst_graph.proofs.RememberedLooks as looks
use Rattle.fst_graph.proofs.sparse.Sparse.launch.Goals as goal

-- what is chosen may be written
writable : (c : After-block_of) → IsWritable (patches_of c.self.inside.columns.heads.list.items) c.requires.block
writable c =
    let heads = c.self.inside.columns.heads.list.items in
    (looks.writable (is_forgotten_in (nodes_of heads)) (patches_of heads) (view_gone c.self.invariant) c.self.invariant.0.keeps.lawful.on_disk_with_all c.requires.block).0 (subst (λ (v : Known). IsWritable v.heads c.requires.block) (sym c.self.view_is) c.requires.writable)

choice : (c : After-block_of) → IsWritableSet (patches_of c.self.inside.columns.heads.list.items) c.requires.block (numbers_of c.args.chosen.now)
choice c =
    let heads = c.self.inside.columns.heads.list.items in
    (looks.choice (is_forgotten_in (nodes_of heads)) (patches_of heads) (view_gone c.self.invariant) c.self.invariant.0.keeps.lawful.on_disk_with_all c.requires.block (numbers_of c.args.chosen.now)).0
    (subst (λ (v : Known). IsWritableSet v.heads c.requires.block (numbers_of c.args.chosen.now)) (sym c.self.view_is) c.requires.choice)

pub returns-in_default-clause-launched : goal.returns-in_default-clause-launched
returns-in_default-clause-launched c =
    absurd (some_chosen _ c.requires.block (numbers_of c.args.chosen.now) c.requires.writable c.requires.choice (none_first c.args.chosen.now c.in_default.ensures.value))

pub returns-in_default-block_of-clause-launched : goal.returns-in_default-block_of-clause-launched
returns-in_default-block_of-clause-launched c =
    let item = c.in-Some.ensures.item in
    let named = first_named c.args.chosen.now c.in-Some.first.now item.3.0 item.3.1 in
    let chosen = choice (goal.at.returns-in_default-block_of-clause-launched c).After-block_of in
    absurd (block_some (patches_of c.self.inside.columns.heads.list.items) c.requires.block (numbers_of c.args.chosen.now) c.in-Some.first.now.0 chosen named (λ p h e. c.in_default-block_of.ensures p h e))

-- it is of the block of the first
here : (c : After-launch-arg-2-1) → c.in-Some-block_of.block ≡ c.requires.block
here c =
    let item = c.in-Some.ensures.item in
    let named = first_named c.args.chosen.now c.in-Some.first.now item.3.0 item.3.1 in
    block_found (patches_of c.self.inside.columns.heads.list.items) c.requires.block c.in-Some-block_of.block (numbers_of c.args.chosen.now) c.in-Some.first.now.0 (choice (goal.at.launch-requires c).After-block_of) named
    (λ p h e. c.in-Some-block_of.ensures p h e)

nodes_writable : (c : After-launch-arg-2-1) → IsWritable (patches_in (nodes_of c.self.inside.columns.heads.list.items)) c.in-Some-block_of.block
nodes_writable c = rw (patches_in_nodes c.self.inside.columns.heads.list.items, here c) (writable (goal.at.launch-requires c).After-block_of)

-- it is what is ready of that block
ready : (c : After-launch-arg-2-1) → numbers_of c.args.chosen.now ≡ ready_on c.in-Some-block_of.block (nodes_of c.self.inside.columns.heads.list.items)
ready c =
    let s = c.self.inside in
    chosen_ready (nodes_of s.columns.heads.list.items) s.numbers s.blocks c.in-Some-block_of.block (numbers_of c.args.chosen.now) (lawful_nodes s.columns.heads.list.items s.numbers c.self.invariant.0.keeps.lawful) c.self.invariant.0.tallies.settled
    (rw (patches_in_nodes s.columns.heads.list.items, here c) (choice (goal.at.launch-requires c).After-block_of))

pub launch-requires : goal.launch-requires
launch-requires c =
    let s = c.self.inside in
    let K = c.self.invariant.0.keeps in
    let T = c.self.invariant.0.tallies in
    record {
      lawful = (s.numbers, K.lawful);
      settled = (s.blocks, search rules, K.inside, T.settled);
      linked = T.linked;
      distinct = T.distinct;
      chosen = ready c;
      room = (T.idle, omega (arith, T.room, length-map s.columns.heads.list.items node_of));
    }

inside : (c : After-launch-arg-2-1) → c.in-Some-block_of.block < c.self.inside.blocks
inside c =
    let s = c.self.inside in
    (writable_rests (nodes_of s.columns.heads.list.items) s.blocks c.in-Some-block_of.block s.standings without_changes (inside_nodes s.columns.heads.list.items s.blocks c.self.invariant.0.keeps.inside) c.self.invariant.0.tallies.standing (nodes_writable c)).0

pub launch-requires-2 : goal.launch-requires-2
launch-requires-2 c = omega (arith, inside (goal.at.launch-requires-2 c).After-launch-arg-2-1, as_many_standings c.self.invariant.0)

pub clear-requires : goal.clear-requires
clear-requires c = omega (arith, inside (goal.at.clear-requires c).After-launch-arg-2-1, c.self.invariant.0.needing.long)

-- none is marked by it
same_flags : (c : After-launch) → flags_of (nodes_of c.launch.new.heads.list.items) ≡ flags_of (nodes_of c.self.inside.columns.heads.list.items)
same_flags c =
    let nodes = nodes_of c.self.inside.columns.heads.list.items in
    let chosen = numbers_of c.args.chosen.now in
    let mid = map (launches chosen) nodes in
    flags_spread mid (nodes_of c.launch.new.heads.list.items) (risen_spread mid (nodes_of c.launch.new.heads.list.items) c.launch.ensures.spread)
    ∙ flags_map (launches chosen) (λ x. ap (λ n. (n, x.forgotten)) (launched_number chosen x.patch)) nodes

pub invariant_of-self-2 : goal.invariant_of-self-2
invariant_of-self-2 c =
    let heads = c.self.inside.columns.heads.list.items in
    let later = c.launch.new.heads.list.items in
    let n = c.self.inside.numbers in
    let blocks = c.self.inside.blocks in
    let chosen = numbers_of c.args.chosen.now in
    let b = c.in-Some-block_of.block in
    let at = (goal.at.invariant_of-self-2 c).After-launch-arg-2-1 in
    let K = c.self.invariant.0.keeps in
    let T = c.self.invariant.0.tallies in
    let H = lawful_nodes heads n K.lawful in
    let W : IsWritable (patches_of heads) b = rw (here at) (writable (goal.at.invariant_of-self-2 c).After-block_of) in
    let C : IsWritableSet (patches_of heads) b chosen = rw (here at) (choice (goal.at.invariant_of-self-2 c).After-block_of) in
    let new = c.launch.ensures.launched in
    let kept = keeps_launched _ n blocks b chosen c.self.inside.columns.ends.up.walk.marks K W C in
    let settled = c.launch.ensures.settled blocks T.settled in
    let risen = subst (λ ns. IsRisenOf (map (launches ns) (nodes_of heads)) (nodes_of later)) (ready at) c.launch.ensures.spread in (
      record {
        keeps = rw new kept;
        beside = subst (λ ps. Beside ps blocks c.self.inside.live c.self.inside.columns.ends.up.crossed.items) (patches_in_nodes later)
            (beside_risen (nodes_of heads) (nodes_of later) n blocks b H.one_place_each T.settled settled risen c.self.inside.live c.self.inside.columns.ends.up.crossed.items
            (subst (λ ps. Beside ps blocks c.self.inside.live c.self.inside.columns.ends.up.crossed.items) (sym (patches_in_nodes heads)) c.self.invariant.0.beside));
        tallies = rw (c.launch.ensures.empty, c.launch.ensures.capacity, c.launch-2.ensures without_changes)
            (tallies_chosen (nodes_of heads) (nodes_of later) n blocks b _ c.self.inside.standings _ _ chosen (get_or c.self.inside.standings b without_changes) _ H
            (lawful_nodes later n (rw new kept.lawful)) (inside_nodes heads blocks K.inside) T (nodes_writable at) (ready at) (any_default c.self.inside.standings b without_changes _ (omega (arith, inside at, as_many_standings c.self.invariant.0))) refl
            c.launch.ensures.spread settled c.launch.ensures.ready c.launch.ensures.held);
        covered = rw new (covered_moved (alike_launched (patches_of heads) n b chosen K.lawful W C) kept c.self.invariant.0.covered);
        along = c.self.invariant.0.along;
        leveled = rw new (leveled_moved (alike_launched (patches_of heads) n b chosen K.lawful W C) c.self.invariant.0.leveled);
        needing = rw new (needing_launched {cleared = c.clear.new.self} (patches_of heads) n b b chosen K.lawful kept.lawful W C refl c.clear.ensures.long c.clear.ensures.others c.clear.ensures.cleared c.clear.ensures.ways c.self.invariant.0.needing);
        given = rw c.clear.ensures.ways c.self.invariant.0.given;
        prepared = rw c.let_go.ensures tt;
      },
      rw c.let_go.ensures
          (remembered_still heads later (same_flags (goal.at.invariant_of-self-2 c).After-launch)
          (landed_risen (nodes_of heads) (nodes_of later) n blocks b H.one_place_each T.settled settled risen c.self.inside.landed.items c.self.invariant.1.told) refl c.self.invariant.1),
    )

pub returns-clause-launched : goal.returns-clause-launched
returns-clause-launched c =
    let heads = c.self.inside.columns.heads.list.items in
    let chosen = numbers_of c.args.chosen.now in
    let row = remembered_as heads c.launch.new.heads.list.items (same_flags (goal.at.returns-clause-launched c).After-launch) c.launch.ensures.launched ∙ remembered_map (is_forgotten_in (nodes_of heads)) (launched chosen) (launched_number chosen) (patches_of heads) in
    rw (← c.self.view_is, c.let_go.ensures) (record { row = row; numbers = refl; blocks = refl; groups = refl; prepared = refl })
