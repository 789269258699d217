use Rattle.fst_heads.proofs.Basics.{◌∙◌, length, filter, ap, subst, arith, length-map, length-filter, count_by-le-length}
use Rattle.fst_heads.proofs.Words.{IsRisenOf, Node, frame_of, launches, node_of, nodes_of, numbers_of, is_ready_on}
use Rattle.fst_heads.proofs.{Launching.{launch_starts, launch_leaves}, Placed.{links_mapped, launched_links, linked_kept, distinct_kept}}
use Rattle.fst_heads.proofs.launch.launch.Goals as goal

pub launch_all-requires-clause-room : goal.launch_all-requires-clause-room
launch_all-requires-clause-room c =
    let nodes = nodes_of c.args.heads.now.list.items in
    let ready = is_ready_on c.args.block in
    omega (arith, ap length c.requires.chosen, length-map c.args.chosen.now (λ n. n.0), length-map (filter ready nodes) (λ (x : Node). x.patch.number), length-filter ready nodes, count_by-le-length ready nodes, length-map c.args.heads.now.list.items node_of, c.requires.room.1)

pub rise-requires : goal.rise-requires
rise-requires c =
    let S = c.requires.settled in
    let nodes = nodes_of c.args.heads.now.list.items in
    let links = links_mapped (launches (numbers_of c.args.chosen.now)) nodes (launched_links (numbers_of c.args.chosen.now)) in
    let flying = c.launch_all.ensures in
    record {
      start = (
        S.0,
        S.1,
        rw flying.queued
            (launch_starts c.args.heads.now.list.items c.requires.lawful.0 S.0 c.args.block c.requires.lawful.1 S.2 S.3 (numbers_of c.args.chosen.now) c.requires.chosen c.launch_all.new.heads.list.items flying.nodes),
      );
      linked = rw flying.nodes (linked_kept nodes _ links c.requires.linked);
      distinct = rw flying.nodes (distinct_kept nodes _ links c.requires.distinct);
      room = omega (arith, ap length flying.frames, length-map c.launch_all.new.heads.list.items frame_of, length-map c.args.heads.now.list.items frame_of, c.requires.room.1, flying.capacity);
    }

pub returns : goal.returns
returns c =
    let S = c.requires.settled in
    let flying = c.launch_all.ensures in
    let risen = c.rise.ensures in
    let left = launch_leaves c.args.heads.now.list.items c.requires.lawful.0 S.0 c.args.block c.requires.lawful.1 S.2 S.3 (numbers_of c.args.chosen.now) c.requires.chosen c.launch_all.new.heads.list.items flying.nodes
    c.rise.new.heads.list.items risen.notified.0 risen.notified.1 risen.spread risen.rises in
    record {
      settled = left.settled;
      launched = left.patches;
      spread = subst (λ ns. IsRisenOf ns (nodes_of c.rise.new.heads.list.items)) flying.nodes risen.spread;
      ready = left.ready;
      held = left.held;
      frames = risen.frames ∙ flying.frames;
      places = risen.places ∙ flying.places;
      empty = risen.empty;
      capacity = risen.capacity ∙ flying.capacity;
    }
