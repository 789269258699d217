use Rattle.std.proofs.{Common.{◌-◌, rules, ◌<◌, [], None, ◌≡◌, ◌∙◌, length, sym, ap, subst, arith, refl, inl, inr}, lemmas.List.length-map}
use Rattle.fst_types.specs.{Gates.IsOpenNumber}
use Rattle.fst_heads.specs.{Frames.{frame_of, frames_of}, Heads.patches_of, Nodes.{is_forgotten_in, node_of, nodes_of}}
use Rattle.fst_graph.specs.{Known.Known, Remembered.remembered, Sound.{IsPrepared, remembered_of}}
use Rattle.fst_graph.proofs.{Flagged.{flags_of, remembered_as, remembered_still, rising_nodes, shut_flags, shut_landed, shut_long, spared, standing_as}, Remembered.was, RememberedCalls.begun_known}
use Rattle.fst_graph.proofs.{Borne.settled_fits, GateIndex.refused_closed, MemberReady.{put_begun, around_kept, places_kept, shut_begun}, Ranks.leveled_then, Readied.head_told}
use Rattle.fst_graph.proofs.{Shutting.{shut_ready, shut_few, shut_cascade, shut_lowers, shut_sound}, Sound.{if_prepared, open_given, rising_sound, view_gone, view_lawful, with_prepared}}
use Rattle.fst_graph.proofs.sparse.Sparse.seal_head.Goals.{After-cascade-landed, After-seal_at, In-Err}
use Rattle.fst_graph.proofs.sparse.Sparse.seal_head.Goals as goal

pub seal_at-requires-clause-fits : goal.seal_at-requires-clause-fits
seal_at-requires-clause-fits c = settled_fits (nodes_of c.self.inside.columns.heads.list.items) c.self.inside.blocks (omega (arith, c.self.ranges)) c.self.invariant.0.tallies.settled

-- the gate is open among the patches
gate : (c : After-seal_at) → IsOpenNumber (patches_of c.self.inside.columns.heads.list.items) c.args.head
gate c = c.in-Ok.ensures.is_open

pub cascade-landed-requires : goal.cascade-landed-requires
cascade-landed-requires c =
    let R = shut_ready c.self.invariant.0 (gate (goal.at.cascade-landed-requires c).After-seal_at) c.seal_at.new.heads c.seal_at.ensures.nodes c.seal_at.ensures.queued c.seal_at.ensures.capacity (search rules) in
    let I = c.self.invariant.1 in
    let long = shut_long c.self.inside.columns.heads.list.items c.seal_at.new.heads.list.items c.args.head c.seal_at.ensures.nodes in
    record {
      start = R.start;
      linked = R.linked;
      distinct = R.distinct;
      standing = R.standing;
      room = (R.narrow, R.room, let shelf = I.shelf in omega (arith, shelf, long));
      listed = shut_landed c.self.inside.columns.heads.list.items c.seal_at.new.heads.list.items c.args.head c.seal_at.ensures.nodes I.told;
    }

-- the same are forgotten
marks : (c : After-cascade-landed) → flags_of (nodes_of c.cascade-landed.new.heads.list.items) ≡ flags_of (nodes_of c.self.inside.columns.heads.list.items)
marks c = shut_flags c.self.inside.columns.heads.list.items c.seal_at.new.heads.list.items c.args.head c.seal_at.ensures.nodes c.cascade-landed.new.heads.list.items c.cascade-landed.ensures.spread

seen : (c : After-cascade-landed) → remembered_of c.cascade-landed.new.heads.list.items ≡ remembered (is_forgotten_in (nodes_of c.self.inside.columns.heads.list.items)) (patches_of c.cascade-landed.new.heads.list.items)
seen c = remembered_as c.self.inside.columns.heads.list.items c.cascade-landed.new.heads.list.items (marks c) refl

pub seal_at-requires-clause-room : goal.seal_at-requires-clause-room
seal_at-requires-clause-room c =
    let T = c.self.invariant.0.tallies in
    let s = c.self.inside in
    omega (arith, ap length T.idle, T.room, length-map s.columns.heads.list.items node_of, c.in-Ok.ensures.index.0, s.columns.queue.ok.0)

pub lower-requires : goal.lower-requires
lower-requires c =
    let at = (goal.at.lower-requires c).After-seal_at in
    (shut_lowers c.self.invariant.0 (gate at) c.seal_at.new.heads c.seal_at.ensures.nodes c.cascade-landed.new.heads c.cascade-landed.ensures.placed (c.in-Ok.ensures.index))

pub renew-requires-clause-leveled : goal.renew-requires-clause-leveled
renew-requires-clause-leveled c = leveled_then (sym c.lower.ensures.leveled.long) c.lower.ensures.leveled

pub renew-requires-clause-given : goal.renew-requires-clause-given
renew-requires-clause-given c = open_given c.self.invariant.0 (gate (goal.at.renew-requires-clause-given c).After-seal_at)

pub overflow_sub-self : goal.overflow_sub-self
overflow_sub-self c =
    let C = c.cascade-landed.ensures in
    shut_few c.self.invariant.0 (gate (goal.at.overflow_sub-self c).After-seal_at) c.seal_at.new.heads c.seal_at.ensures.nodes c.cascade-landed.new.heads C.placed c.cascade-landed.result C.settled C.landed

pub invariant_of-self : goal.invariant_of-self
invariant_of-self c =
    let s = c.self.inside in
    let g = c.args.head in
    let open_gate = gate (goal.at.invariant_of-self c).After-seal_at in
    let new = c.cascade-landed.new.heads in
    let C = c.cascade-landed.ensures in
    let cascade = shut_cascade c.self.invariant.0 open_gate c.seal_at.new.heads c.seal_at.ensures.nodes new C.placed in
    let frames : frames_of new.list.items ≡ frames_of s.columns.heads.list.items = C.frames ∙ c.seal_at.ensures.frames in
    let heads_long : new.list.len ≡ s.columns.heads.list.len = omega (arith, ap length frames, length-map new.list.items frame_of, length-map s.columns.heads.list.items frame_of, new.list.ok.0, s.columns.heads.list.ok.0) in
    let leveled = leveled_then (ap length c.renew.ensures.floors ∙ c.lower.ensures.leveled.long) c.renew.ensures.leveled in
    let at = (goal.at.invariant_of-self c).After-cascade-landed in
    let sound = shut_sound c.self.invariant.0 open_gate c.seal_at.new.heads c.seal_at.ensures.nodes new C.placed c.cascade-landed.result C.settled C.landed {told = c.cascade-landed.new.standings} {emptied = c.cascade-landed.new.queue} leveled C.spread C.standing C.empty (C.capacity ∙ c.seal_at.ensures.capacity) in
    let R = remembered_still s.columns.heads.list.items new.list.items (marks at) {now = c.cascade-landed.new.landed} C.listed C.shelf c.self.invariant.1 in
    let as_many : length (remembered_of new.list.items) ≡ length (remembered_of s.columns.heads.list.items) = standing_as s.columns.heads.list.items new.list.items (marks at) (rising_nodes s.columns.heads.list.items (rising_sound c.self.invariant.0)) (rising_nodes new.list.items (rising_sound sound)) in (
      with_prepared
          sound
          (if_prepared c.self.invariant.0 (IsPrepared (record s { columns = record s.columns { heads = new; levels = c.renew.new.levels; queue = c.cascade-landed.new.queue }; standings = c.cascade-landed.new.standings; landed = c.cascade-landed.new.landed; live = s.live - c.cascade-landed.result })) (λ p is k. record {
            ready = put_begun (patches_of s.columns.heads.list.items) s.numbers s.blocks s.columns.ends.up.walk.marks c.self.invariant.0.keeps g (patches_of new.list.items) open_gate cascade (remembered_of s.columns.heads.list.items) (remembered_of new.list.items) p as_many (head_told s.prepared s.numbers c.requires.0 g p (ap (λ k. k.prepared) c.self.view_is ∙ c.requires.1) c.requires.2 is) k.ready;
            places = places_kept heads_long (C.places ∙ c.seal_at.ensures.places) refl (c.renew.ensures.room.0 ∙ c.lower.ensures.room.0, c.renew.ensures.room.1 ∙ c.lower.ensures.room.1) k.places;
            waits = omega (arith, heads_long, C.capacity, c.seal_at.ensures.capacity, k.waits);
            around = around_kept new.list.items s.columns.heads.list.items frames p k.around;
            runs = k.runs;
            in_list = k.in_list;
            needed = k.needed;
          })),
      record { counted = R.counted; few = R.few; told = R.told; shelf = R.shelf; spare = if_prepared c.self.invariant.0 (λ p. length new.list.items < c.cascade-landed.new.landed.cap) (λ p is k. spared s.columns.heads new s.landed c.cascade-landed.new.landed s.prepared p is c.self.invariant.1.spare heads_long C.shelf) },
    )

pub returns-in-Ok-clause-begun : goal.returns-in-Ok-clause-begun
returns-in-Ok-clause-begun c =
    let open_gate = gate (goal.at.returns-in-Ok-clause-begun c).After-seal_at in
    let s = c.self.inside in
    let before : Known = record { heads = patches_of s.columns.heads.list.items; numbers = s.numbers; blocks = s.blocks; groups = []; prepared = None } in
    let after : Known = record { heads = patches_of c.cascade-landed.new.heads.list.items; numbers = s.numbers; blocks = s.blocks; groups = []; prepared = None } in
    rw (← c.self.view_is, seen (goal.at.returns-in-Ok-clause-begun c).After-cascade-landed)
    (begun_known (is_forgotten_in (nodes_of s.columns.heads.list.items)) before after (view_gone c.self.invariant) c.self.invariant.0.keeps.lawful c.args.head (record {
      row = inl (record { gate = open_gate; cascade = shut_cascade c.self.invariant.0 open_gate c.seal_at.new.heads c.seal_at.ensures.nodes c.cascade-landed.new.heads c.cascade-landed.ensures.placed });
      state = refl;
    }))

pub returns-in-Ok-clause-closed : goal.returns-in-Ok-clause-closed
returns-in-Ok-clause-closed c = λ is_open.
    let s = c.self.inside in
    let open_gate = gate (goal.at.returns-in-Ok-clause-closed c).After-seal_at in
    let o = subst (λ ps. IsOpenNumber ps c.args.head) (seen (goal.at.returns-in-Ok-clause-closed c).After-cascade-landed) is_open in
    shut_begun (patches_of s.columns.heads.list.items) s.numbers c.self.invariant.0.keeps.lawful c.args.head (patches_of c.cascade-landed.new.heads.list.items) open_gate
    (shut_cascade c.self.invariant.0 open_gate c.seal_at.new.heads c.seal_at.ensures.nodes c.cascade-landed.new.heads c.cascade-landed.ensures.placed)
    (record { patch = o.patch; head = (was _ (patches_of c.cascade-landed.new.heads.list.items) o.patch o.head).0; numbered = o.numbered; is_open = o.is_open })

-- the gate is not open, if it can't be sealed
shut : (c : In-Err) → IsOpenNumber (remembered_of c.self.inside.columns.heads.list.items) c.args.head → ⊥
shut c = refused_closed (remembered_of c.self.inside.columns.heads.list.items) c.self.inside.numbers c.args.head c.in-Err.field-0 (view_lawful c.self.invariant) (c.in-Err.ensures.refused)

pub returns-in-Err-clause-begun : goal.returns-in-Err-clause-begun
returns-in-Err-clause-begun c = rw (← c.self.view_is) (record { row = inr (shut (goal.at.returns-in-Err-clause-begun c).In-Err, refl); state = refl })

pub returns-in-Err-clause-closed : goal.returns-in-Err-clause-closed
returns-in-Err-clause-closed c = rw (← c.self.view_is) (shut (goal.at.returns-in-Err-clause-closed c).In-Err)
