use Rattle.std.proofs.lemmas.List.{length-map}
use Rattle.std.proofs.Common.{rules, ◌≡◌, ◌∙◌, [], None, option_map, length, sym, ap, arith, refl}
use Rattle.fst_types.specs.{Gates.IsOpenNumber}
use Rattle.fst_heads.specs.{Heads.patches_of, Nodes.{is_forgotten_in, node_of, nodes_of}}
use Rattle.fst_graph.specs.{Known.Known, Ready.prepared_of}
use Rattle.fst_graph.proofs.{Flagged.{flags_of, remembered_as, remembered_still, shut_flags, shut_landed, shut_long, unspared}, RememberedCalls.seal_known}
use Rattle.fst_graph.proofs.{Borne.settled_fits, Ranks.leveled_then, Shutting.{shut_ready, shut_few, shut_cascade, shut_lowers, shut_sound}, Sound.{open_given, view_gone, with_prepared}, sparse.Sparse.seal_alone.Goals.{After-cascade-landed, After-seal_at}}
use Rattle.fst_graph.proofs.sparse.Sparse.seal_alone.Goals as goal

pub returns-in-Err-clause-refused : goal.returns-in-Err-clause-refused
returns-in-Err-clause-refused c = rw (← c.self.view_is) c.in-Err.ensures.refused

pub seal_at-requires-clause-fits : goal.seal_at-requires-clause-fits
seal_at-requires-clause-fits c = settled_fits (nodes_of c.self.inside.columns.heads.list.items) c.self.inside.blocks (omega (arith, c.self.ranges)) c.self.invariant.0.tallies.settled

-- the gate is open among the patches
gate : (c : After-seal_at) → IsOpenNumber (patches_of c.self.inside.columns.heads.list.items) c.args.gate.0
gate c = c.in-Ok.ensures.is_open

pub cascade-landed-requires : goal.cascade-landed-requires
cascade-landed-requires c =
    let R = shut_ready c.self.invariant.0 (gate (goal.at.cascade-landed-requires c).After-seal_at) c.seal_at.new.heads c.seal_at.ensures.nodes c.seal_at.ensures.queued c.seal_at.ensures.capacity (search rules) in
    let I = c.self.invariant.1 in
    let long = shut_long c.self.inside.columns.heads.list.items c.seal_at.new.heads.list.items c.args.gate.0 c.seal_at.ensures.nodes in
    record {
      start = R.start;
      linked = R.linked;
      distinct = R.distinct;
      standing = R.standing;
      room = (R.narrow, R.room, let shelf = I.shelf in omega (arith, shelf, long));
      listed = shut_landed c.self.inside.columns.heads.list.items c.seal_at.new.heads.list.items c.args.gate.0 c.seal_at.ensures.nodes I.told;
    }

-- the same are forgotten
marks : (c : After-cascade-landed) → flags_of (nodes_of c.cascade-landed.new.heads.list.items) ≡ flags_of (nodes_of c.self.inside.columns.heads.list.items)
marks c = shut_flags c.self.inside.columns.heads.list.items c.seal_at.new.heads.list.items c.args.gate.0 c.seal_at.ensures.nodes c.cascade-landed.new.heads.list.items c.cascade-landed.ensures.spread

pub lower-requires : goal.lower-requires
lower-requires c =
    let at = (goal.at.lower-requires c).After-seal_at in
    (shut_lowers c.self.invariant.0 (gate at) c.seal_at.new.heads c.seal_at.ensures.nodes c.cascade-landed.new.heads c.cascade-landed.ensures.placed (c.in-Ok.ensures.index))

pub overflow_sub-self : goal.overflow_sub-self
overflow_sub-self c =
    let C = c.cascade-landed.ensures in
    shut_few c.self.invariant.0 (gate (goal.at.overflow_sub-self c).After-seal_at) c.seal_at.new.heads c.seal_at.ensures.nodes c.cascade-landed.new.heads C.placed c.cascade-landed.result C.settled C.landed

pub invariant_of-self-2 : goal.invariant_of-self-2
invariant_of-self-2 c =
    let C = c.cascade-landed.ensures in
    let leveled = leveled_then (ap length c.renew.ensures.floors ∙ c.lower.ensures.leveled.long) c.renew.ensures.leveled in
    rw c.let_go.ensures (
      shut_sound c.self.invariant.0 (gate (goal.at.invariant_of-self-2 c).After-seal_at) c.seal_at.new.heads c.seal_at.ensures.nodes c.cascade-landed.new.heads C.placed c.cascade-landed.result C.settled C.landed leveled C.spread C.standing C.empty (C.capacity ∙ c.seal_at.ensures.capacity),
      remembered_still c.self.inside.columns.heads.list.items c.cascade-landed.new.heads.list.items (marks (goal.at.invariant_of-self-2 c).After-cascade-landed) {now = c.cascade-landed.new.landed} C.listed C.shelf c.self.invariant.1,
    )

pub returns-clause-ok : goal.returns-clause-ok
returns-clause-ok c =
    let open_gate = gate (goal.at.returns-clause-ok c).After-seal_at in
    let s = c.self.inside in
    let old = patches_of s.columns.heads.list.items in
    let new = patches_of c.cascade-landed.new.heads.list.items in
    let before : Known = record { heads = old; numbers = s.numbers; blocks = s.blocks; groups = []; prepared = option_map (prepared_of s.numbers) s.prepared } in
    let after : Known = record { heads = new; numbers = s.numbers; blocks = s.blocks; groups = []; prepared = None } in
    rw (← c.self.view_is, c.let_go.ensures, remembered_as s.columns.heads.list.items c.cascade-landed.new.heads.list.items (marks (goal.at.returns-clause-ok c).After-cascade-landed) refl)
    (seal_known (is_forgotten_in (nodes_of s.columns.heads.list.items)) before after (view_gone c.self.invariant) c.self.invariant.0.keeps.lawful c.args.gate.0 (record {
      clear = c.in-Ok.ensures.clear;
      row = record { gate = open_gate; cascade = shut_cascade c.self.invariant.0 open_gate c.seal_at.new.heads c.seal_at.ensures.nodes c.cascade-landed.new.heads c.cascade-landed.ensures.placed };
      numbers = refl;
      blocks = refl;
      groups = refl;
      prepared = refl;
    }))

pub renew-requires-clause-leveled : goal.renew-requires-clause-leveled
renew-requires-clause-leveled c = leveled_then (sym c.lower.ensures.leveled.long) c.lower.ensures.leveled

pub renew-requires-clause-given : goal.renew-requires-clause-given
renew-requires-clause-given c = open_given c.self.invariant.0 (gate (goal.at.renew-requires-clause-given c).After-seal_at)

pub invariant_of-self : goal.invariant_of-self
invariant_of-self c = rw c.let_go.ensures (with_prepared c.self.invariant.0 tt, unspared c.self.invariant.1)

pub seal_at-requires-clause-room : goal.seal_at-requires-clause-room
seal_at-requires-clause-room c =
    let T = c.self.invariant.0.tallies in
    let s = c.self.inside in
    omega (arith, ap length T.idle, T.room, length-map s.columns.heads.list.items node_of, c.in-Ok.ensures.index.0, s.columns.queue.ok.0)
