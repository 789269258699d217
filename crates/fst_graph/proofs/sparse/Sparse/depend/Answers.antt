use Rattle.std.proofs.Common.{◌∙◌, [], length, option_map, refl, sym, ap, None, inl, inr, arith}
use Rattle.fst_types.specs.{Gates.IsOpenNumber, Order.depend_order, Refusals.NoneHolds}
use Rattle.fst_heads.specs.{Heads.patches_of, Names.numbers_of, Nodes.{is_forgotten_in, nodes_of}}
use Rattle.fst_levels.proofs.Seen.{same_patches}
use Rattle.fst_graph.specs.{Known.Known, Ready.prepared_of, Sound.AreSound}
use Rattle.fst_graph.proofs.{Flagged.{flags_of, gained_flags, gained_landed, remembered_as, remembered_still, roomier_shelf, unspared}, Remembered.open_known, RememberedCalls.depend_known, RememberedRules.depend_clear}
use Rattle.fst_graph.proofs.{Borne.{few_waiting, settled_fits}, Made.{gained_sound, named_patches}, Ranks.leveled_then, Sound.{leveled_sound, open_given, over_both, roomier_sound, searched_sound, sees_all, view_gone}}
use Rattle.fst_graph.proofs.sparse.Sparse.depend.Goals.{After-depend_fault, After-gain_names}
use Rattle.fst_graph.proofs.sparse.Sparse.depend.Goals as goal

pub depend_fault-requires-clause-sees : goal.depend_fault-requires-clause-sees
depend_fault-requires-clause-sees c = sees_all c.self.invariant.0 _ refl c.deref.ensures.value c.deref-2.ensures.value refl refl

pub depend_fault-requires-clause-gone : goal.depend_fault-requires-clause-gone
depend_fault-requires-clause-gone c = (view_gone c.self.invariant)

pub returns-in-Some-clause-refused : goal.returns-in-Some-clause-refused
returns-in-Some-clause-refused c = rw (← c.self.view_is) (inl c.in-Some.ensures.first)

pub gain_names-requires : goal.gain_names-requires
gain_names-requires c =
    let heads = c.self.inside.columns.heads.list.items in
    let T = c.self.invariant.0.tallies in
    record {
      linked = c.self.invariant.0.tallies.linked;
      summed = λ x k. (T.settled.summed x k, settled_fits (nodes_of heads) c.self.inside.blocks (omega (arith, c.self.ranges)) T.settled x k);
      distinct = T.distinct;
      few = few_waiting heads T.settled c.self.invariant.0.beside;
    }

-- the fields after the walks, and that nothing refuses it
walked : (c : After-depend_fault)
    → AreSound (record c.self.inside { columns = record c.self.inside.columns { ends = c.depend_fault.new.ends }; prepared = None })
walked c = searched_sound c.self.invariant.0 (c.depend_fault.ensures.over) c.depend_fault.ensures.crossed

gate : (c : After-gain_names) → IsOpenNumber (patches_of c.self.inside.columns.heads.list.items) c.args.gate.0
gate c = c.in_default.ensures.is_open

clear : (c : After-gain_names) → NoneHolds (depend_order (patches_of c.self.inside.columns.heads.list.items) c.self.inside.numbers c.args.gate.0 (numbers_of c.args.on.now))
clear c = c.in_default.ensures.clear

pub invariant_of-self-in_default-gain_names : goal.invariant_of-self-in_default-gain_names
invariant_of-self-in_default-gain_names c =
    let same = c.in_default-gain_names.ensures.same in
    rw c.let_go.ensures (
      roomier_sound (walked (goal.at.invariant_of-self-in_default-gain_names c).After-depend_fault) (record { nodes = same; marks = (refl, refl); crossed = (refl, refl); ranks = refl; floors = refl; waiting = refl; wide = omega arith }),
      roomier_shelf {landed = c.self.inside.landed} same refl (omega arith) c.self.invariant.1,
    )

pub returns-in_default-gain_names-clause-refused : goal.returns-in_default-gain_names-clause-refused
returns-in_default-gain_names-clause-refused c =
    let at = (goal.at.returns-in_default-gain_names-clause-refused c).After-gain_names in
    let heads = c.self.inside.columns.heads.list.items in
    let gone = is_forgotten_in (nodes_of heads) in
    let G = view_gone c.self.invariant in
    let D = c.self.invariant.0.keeps.lawful.on_disk_with_all in
    rw (← c.self.view_is) (inr (depend_clear gone (patches_of heads) c.self.inside.numbers G D c.args.gate.0 (numbers_of c.args.on.now) (open_known gone (patches_of heads) G D c.args.gate.0 (gate at)) (clear at), refl))

pub returns-in_default-gain_names-clause-same : goal.returns-in_default-gain_names-clause-same
returns-in_default-gain_names-clause-same c =
    let old = c.self.inside.columns.heads.list.items in
    let new = c.gain_names.new.heads.list.items in
    let same = c.in_default-gain_names.ensures.same in
    rw (← c.self.view_is, c.let_go.ensures, remembered_as old new (ap flags_of same) (same_patches new old same)) refl

pub renew-requires-clause-leveled : goal.renew-requires-clause-leveled
renew-requires-clause-leveled c =
    let at = goal.at.renew-requires-clause-leveled c in
    let G = c.in-Ok.ensures.gained in
    let L = (gained_sound (walked at.After-depend_fault) {new = c.gain_names.new.heads} c.args.gate.0 G.0 (numbers_of c.args.on.now) (gate at.After-gain_names) (clear at.After-gain_names) G.1 G.2).leveled in
    leveled_then (sym L.long) L

pub renew-requires-clause-given : goal.renew-requires-clause-given
renew-requires-clause-given c = open_given c.self.invariant.0 (gate (goal.at.renew-requires-clause-given c).After-gain_names)

pub invariant_of-self-2 : goal.invariant_of-self-2
invariant_of-self-2 c =
    let at = goal.at.invariant_of-self-2 c in
    let G = c.in-Ok.ensures.gained in
    let S = gained_sound (walked at.After-depend_fault) {new = c.gain_names.new.heads} c.args.gate.0 G.0 (numbers_of c.args.on.now) (gate at.After-gain_names) (clear at.After-gain_names) G.1 G.2 in
    let old = c.self.inside.columns.heads.list.items in
    let new = c.gain_names.new.heads.list.items in
    rw c.let_go.ensures (
      leveled_sound S (leveled_then (ap length c.renew.ensures.floors ∙ S.leveled.long) c.renew.ensures.leveled),
      remembered_still old new (gained_flags old new c.args.gate.0 G.0 _ G.2) {landed = c.self.inside.landed} (gained_landed old new c.args.gate.0 G.0 _ G.2 c.self.invariant.1.told) refl c.self.invariant.1,
    )

pub returns-clause-ok : goal.returns-clause-ok
returns-clause-ok c =
    let at = goal.at.returns-clause-ok c in
    let none = clear at.After-gain_names in
    let G = c.in-Ok.ensures.gained in
    let s = c.self.inside in
    let old = s.columns.heads.list.items in
    let new = c.gain_names.new.heads.list.items in
    let before : Known = record { heads = patches_of old; numbers = s.numbers; blocks = s.blocks; groups = []; prepared = option_map (prepared_of s.numbers) s.prepared } in
    let after : Known = record { heads = patches_of new; numbers = s.numbers; blocks = s.blocks; groups = []; prepared = None } in
    rw (← c.self.view_is, c.let_go.ensures, remembered_as old new (gained_flags old new c.args.gate.0 G.0 _ G.2) refl)
    (depend_known (is_forgotten_in (nodes_of old)) before after (view_gone c.self.invariant) c.self.invariant.0.keeps.lawful c.args.gate.0 (numbers_of c.args.on.now) (record {
      clear = none;
      row = record { gate = gate at.After-gain_names; clear = none.1.1.1.1.1.0; names = G.0; live = G.1; gained = named_patches old new c.args.gate.0 G.0 G.2 };
      numbers = refl;
      blocks = refl;
      groups = refl;
      prepared = refl;
    }))

pub depend_fault-requires-clause-over : goal.depend_fault-requires-clause-over
depend_fault-requires-clause-over c = (over_both c.self.invariant.0)

pub invariant_of-self : goal.invariant_of-self
invariant_of-self c = rw c.let_go.ensures (walked (goal.at.invariant_of-self c).After-depend_fault, unspared c.self.invariant.1)
