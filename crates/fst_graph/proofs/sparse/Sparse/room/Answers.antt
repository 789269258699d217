use Rattle.std.proofs.Common.{◌≡◌, ◌+◌, ◌++◌, ◌∷◌, [], ◌<◌, ◌∙◌, arith, length, None, Some, inl, inr, ap, sym, subst, refl}
use Rattle.fst_types.specs.{Order.make_order, Refusals.NoneHolds}
use Rattle.fst_heads.specs.{Heads.patches_of, Names.numbers_of, Nodes.{is_forgotten_in, nodes_of}}
use Rattle.fst_types.specs.declared.fault.Fault.TheVariants as fault
use Rattle.fst_graph.specs.{Known.{Known, Refuses}, Ready.{change_of, IsReady, IsReadyFor, MayBePut}, Sound.{AreSound, remembered_of}}
use Rattle.fst_levels.proofs.Seen.{same_patches}
use Rattle.fst_graph.proofs.{Borne.ok_of, Flagged.{gone_past, unspared}, Readied.{found_as, ready_adds, ready_found, ready_made}, RememberedSparse.pushed_remembered, Reserved.{around_sound, inside_sound, ready_sound}, Shelf.same_view, Sound.roomier_sound}
use Rattle.fst_graph.proofs.Sound.{as_many_lists, over_down, over_then, over_up, sees_all, view_gone, walked_then, with_prepared}
use Rattle.fst_graph.proofs.sparse.Sparse.room.Goals.{After-deref, After-reserve_around-around}
use Rattle.fst_graph.proofs.sparse.Sparse.room.Goals as goal

pub returns-in-Some-clause-refused : goal.returns-in-Some-clause-refused
returns-in-Some-clause-refused c = rw (← c.self.view_is) (inl (c.in-Some.ensures.first (remembered_of c.self.inside.columns.heads.list.items) (ap (λ (v : Known). length v.heads) c.self.view_is ∙ sym c.standing-standing.ensures)))

-- the block is one of those that there are
inside : (c : After-deref) → c.args.block.0 < c.self.inside.blocks
inside c = subst (λ (v : Known). c.args.block.0 < v.blocks) (sym c.self.view_is) c.requires

pub prepare-requires : goal.prepare-requires
prepare-requires c = record {
  sees = sees_all c.self.invariant.0 _ refl c.deref.ensures.value c.deref-2.ensures.value refl refl;
  up = over_then refl c.deref.ensures.value (over_up c.self.invariant.0);
  down = over_then refl c.deref.ensures.value (over_down c.self.invariant.0);
  block = omega (arith, inside (goal.at.prepare-requires c).After-deref, as_many_lists c.self.invariant.0, ap length c.deref.ensures.value);
}

-- nothing refuses it
clear : (c : After-deref) → NoneHolds (make_order (remembered_of c.self.inside.columns.heads.list.items) c.self.inside.numbers (numbers_of c.args.after.now))
clear c = c.in_default.ensures.clear (remembered_of c.self.inside.columns.heads.list.items) (ap (λ (v : Known). length v.heads) c.self.view_is ∙ sym c.standing-standing.ensures)

-- the fields after the walks, and with room around the change
walked : (c : After-reserve_around-around)
    → AreSound (record c.self.inside { columns = record c.self.inside.columns { ends = c.prepare.new.ends }; prepared = None })
walked c = walked_then c.self.invariant.0 {walked = c.prepare.new.ends} refl c.deref.ensures.value c.prepare.ensures.up c.prepare.ensures.down

same : (c : After-reserve_around-around) → remembered_of c.reserve_around-around.new.columns.heads.list.items ≡ remembered_of c.self.inside.columns.heads.list.items
same c = same_view c.self.inside.columns.heads.list.items c.reserve_around-around.new.columns.heads.list.items c.reserve_around-around.ensures.roomier.nodes

-- what was found is ready
ready : (c : After-reserve_around-around) → c.args.block.0 < c.self.inside.blocks → NoneHolds (make_order (remembered_of c.self.inside.columns.heads.list.items) c.self.inside.numbers (numbers_of c.args.after.now))
    → IsReady (patches_of c.self.inside.columns.heads.list.items) (remembered_of c.self.inside.columns.heads.list.items) c.self.inside.numbers c.self.inside.blocks c.in-Ok.prepared
ready c lt none =
    let made = c.in-Ok.ensures in
    ready_found c.self.invariant.0.keeps c.in-Ok.prepared made.names made.block made.span lt none refl made.depends made.told

pub returns-clause-ok : goal.returns-clause-ok
returns-clause-ok c =
    let s = c.self.inside in
    let made = c.in-Ok.ensures in
    let heads = s.columns.heads.list.items in
    let gone = is_forgotten_in (nodes_of heads) in
    let K = c.self.invariant.0.keeps.lawful in
    let at = goal.at.returns-clause-ok c in
    let R = ready at.After-reserve_around-around (inside at.After-deref) (clear at.After-deref) in
    let p = c.in-Ok.prepared in
    let row = pushed_remembered gone (patches_of heads) s.numbers (view_gone c.self.invariant) K p.block p.span.at p.span.len (numbers_of p.names.items) (s.numbers + 1) p.told.grade (change_of s.numbers p)
    (gone_past heads s.numbers (s.numbers + 1) K.one_place_each (omega arith)) refl (ready_made R) in
    rw (← c.self.view_is, ← made.block, ← made.span, ← made.names) (
      record { heads = remembered_of heads ++ change_of s.numbers p ∷ []; numbers = s.numbers + 1; blocks = s.blocks; groups = []; prepared = None },
      ready_adds R row,
    )

-- memory was refused, and nothing else refuses it
short : (c : After-deref) → Refuses (make_order c.args.self.now.heads c.args.self.now.numbers (numbers_of c.args.after.now)) fault.Memory
short c = rw (← c.self.view_is) (inr (clear c, refl))

pub returns-in_default-prepare-clause-refused : goal.returns-in_default-prepare-clause-refused
returns-in_default-prepare-clause-refused c = short (goal.at.returns-in_default-prepare-clause-refused c).After-deref

pub returns-then-is_err-clause-refused : goal.returns-then-is_err-clause-refused
returns-then-is_err-clause-refused c = rw c.given_up.ensures (short (goal.at.returns-then-is_err-clause-refused c).After-deref)

pub returns-then-is_err-2-clause-refused : goal.returns-then-is_err-2-clause-refused
returns-then-is_err-2-clause-refused c = rw c.given_up-then-is_err-2.ensures (short (goal.at.returns-then-is_err-2-clause-refused c).After-deref)

pub invariant_of-self : goal.invariant_of-self
invariant_of-self c = rw c.let_go.ensures (with_prepared c.self.invariant.0 tt, unspared c.self.invariant.1)

pub invariant_of-self-in_default-prepare : goal.invariant_of-self-in_default-prepare
invariant_of-self-in_default-prepare c = rw c.let_go.ensures (walked_then c.self.invariant.0 {walked = c.prepare.new.ends} refl c.deref.ensures.value c.prepare.ensures.up c.prepare.ensures.down, unspared c.self.invariant.1)

pub invariant_of-self-then-is_err : goal.invariant_of-self-then-is_err
invariant_of-self-then-is_err c =
    let A = c.reserve_around-around.ensures in
    rw c.let_go.ensures (around_sound (walked (goal.at.invariant_of-self-then-is_err c).After-reserve_around-around) c.self.invariant.1 A.roomier A.same A.wide)

pub returns-then-is_err-clause-same : goal.returns-then-is_err-clause-same
returns-then-is_err-clause-same c = rw (← c.self.view_is, c.let_go.ensures, same (goal.at.returns-then-is_err-clause-same c).After-reserve_around-around) refl

pub reserve_in-inside-requires : goal.reserve_in-inside-requires
reserve_in-inside-requires c =
    let S = c.self.invariant.0 in
    let at = goal.at.reserve_in-inside-requires c in
    let A = c.reserve_around-around.ensures in
    let lt = inside at.After-deref in
    let block = c.in-Ok.ensures.block in
    let around = roomier_sound (walked at.After-reserve_around-around) {landed = c.reserve_around-around.new.landed} A.roomier in
    record {
      disk = around.keeps.lawful.on_disk_with_all;
      settled = (c.self.inside.blocks, around.tallies.settled);
      list = omega (arith, lt, block, as_many_lists S);
      cover = omega (arith, lt, block, S.covered.long);
      needs = omega (arith, lt, block, S.needing.long);
    }

pub invariant_of-self-then-is_err-2 : goal.invariant_of-self-then-is_err-2
invariant_of-self-then-is_err-2 c =
    let A = c.reserve_around-around.ensures in
    let B = c.reserve_in-inside.ensures in
    rw c.let_go.ensures (inside_sound (walked (goal.at.invariant_of-self-then-is_err-2 c).After-reserve_around-around) c.self.invariant.1 A.roomier A.same A.wide B.entries B.covered B.pruned B.ways)

pub returns-then-is_err-2-clause-same : goal.returns-then-is_err-2-clause-same
returns-then-is_err-2-clause-same c = rw (← c.self.view_is, c.let_go.ensures, same (goal.at.returns-then-is_err-2-clause-same c).After-reserve_around-around) refl

pub invariant_of-self-2 : goal.invariant_of-self-2
invariant_of-self-2 c =
    let places = goal.at.invariant_of-self-2 c in
    let at = places.After-reserve_around-around in
    let A = c.reserve_around-around.ensures in
    let B = c.reserve_in-inside.ensures in
    let s = c.self.inside in
    let p = c.in-Ok.prepared in
    let first = sym c.is_err.ensures.value ∙ c.if-is_err.false in
    let second = sym c.is_err-2.ensures.value ∙ c.if-is_err-2.false in
    let patches = same_patches c.reserve_around-around.new.columns.heads.list.items s.columns.heads.list.items A.roomier.nodes in
    let shelf = ok_of c.reserve_around-around.result _ A.shelf first in
    let put : MayBePut (patches_of s.columns.heads.list.items) (remembered_of s.columns.heads.list.items) s.numbers s.blocks p = subst (λ g. IsReadyFor g (patches_of s.columns.heads.list.items) (remembered_of s.columns.heads.list.items) s.numbers s.blocks p) (sym c.in-Ok.ensures.gates) (ready at (inside places.After-deref) (clear places.After-deref)) in
    rw c.keep.ensures (ready_sound (walked at) c.self.invariant.1 A.roomier A.same A.wide B.entries B.covered B.pruned B.ways p (record {
      ready = rw (same at, patches) put;
      places = ok_of c.reserve_around-around.result _ A.places first;
      waits = ok_of c.reserve_around-around.result _ A.waits first;
      around = ok_of c.reserve_around-around.result _ A.around first;
      in_list = ok_of c.reserve_in-inside.result _ B.in_list second;
      runs = ok_of c.reserve_in-inside.result _ B.runs second;
      needed = ok_of c.reserve_in-inside.result _ B.needed second;
    }) (omega (arith, shelf, c.reserve_around-around.new.columns.heads.list.ok.0)))

pub returns-clause-prepared : goal.returns-clause-prepared
returns-clause-prepared c =
    let s = c.self.inside in
    let made = c.in-Ok.ensures in
    rw (← c.self.view_is, c.keep.ensures, same (goal.at.returns-clause-prepared c).After-reserve_around-around)
    (ap (λ q. record { heads = remembered_of s.columns.heads.list.items; numbers = s.numbers; blocks = s.blocks; groups = []; prepared = Some q }) (found_as c.in-Ok.prepared s.numbers made.block made.span made.names made.gates))

pub overflow_add-made : goal.overflow_add-made
overflow_add-made c = let left = (clear (goal.at.overflow_add-made c).After-deref).1.1.1.0 in omega (arith, left)
