use Rattle.std.proofs.lemmas.Grind.{common_steps}
use Rattle.std.proofs.{Common.{◌≡◌, ◌+◌, ◌++◌, ◌∷◌, [], ◌<◌, ◌∙◌, ◌↔◌, Bool, true, false, arith, length, None, Some, inl, inr, ap, sym, subst, refl}, lemmas.Bool.false≢true}
use Rattle.fst_types.specs.{Order.room_order, Refusals.NoneHolds}
use Rattle.fst_heads.specs.{Heads.patches_of, Nodes.{is_forgotten_in, nodes_of}}
use Rattle.fst_types.specs.declared.fault.Fault.TheVariants as fault
use Rattle.fst_levels.proofs.Seen.{same_patches}
use Rattle.fst_graph.specs.{Known.{Known, Refuses}, Membering.{ArePaired, OverlapReaches, member_order}, Ready.{change_of, IsMemberReady, MayBePut}, Sound.{AreSound, remembered_of}}
use Rattle.fst_graph.proofs.{Borne.ok_of, Flagged.gone_past, MemberReady.{foretold, member_found}, Readied.{member_found_as, member_put}, RememberedRules.{overlap_reaches, paired_was}, RememberedSealing.foretells_known, Reserved.{around_sound, inside_sound, ready_sound}, Shelf.same_view, Sound.roomier_sound}
use Rattle.fst_graph.proofs.Sound.{as_many_lists, over_both, sees_all, view_gone, walked_then}
use Rattle.fst_graph.proofs.sparse.Sparse.member_room.Goals.{After-deref, After-reserve_around-around}
use Rattle.fst_graph.proofs.sparse.Sparse.member_room.Goals as goal

-- the block is one of those that there are, and the gates are those of a group
inside : (c : After-deref) → c.args.block.0 < c.self.inside.blocks
inside c = subst (λ (v : Known). c.args.block.0 < v.blocks) (sym c.self.view_is) c.requires.block

paired : (c : After-deref) → ArePaired (patches_of c.self.inside.columns.heads.list.items) c.self.inside.numbers c.args.gates.head c.args.gates.tail
paired c =
    let gates = c.args.gates in
    let s = c.self.inside in
    let known = subst (λ (k : Known). ArePaired k.heads k.numbers gates.head gates.tail) (sym c.self.view_is) (record { given = c.requires.gates.given; tail_open = c.requires.gates.tail_open; tied = c.requires.gates.tied; follows = c.requires.gates.follows }) in
    paired_was (is_forgotten_in (nodes_of s.columns.heads.list.items)) (patches_of s.columns.heads.list.items) s.numbers (view_gone c.self.invariant) c.self.invariant.0.keeps.lawful.on_disk_with_all gates.head gates.tail known

pub reaches_tail-requires : goal.reaches_tail-requires
reaches_tail-requires c = record {
  sees = sees_all c.self.invariant.0 _ refl c.deref.ensures.value c.deref-2.ensures.value refl refl;
  over = (over_both c.self.invariant.0);
  block = omega (arith, inside (goal.at.reaches_tail-requires c).After-deref, as_many_lists c.self.invariant.0, ap length c.deref.ensures.value);
  is_open = (paired (goal.at.reaches_tail-requires c).After-deref).tail_open;
}

-- what reaches the tail among those that are not forgotten does so among all, and the other way round
reaches : (c : After-deref) → OverlapReaches (remembered_of c.self.inside.columns.heads.list.items) c.args.gates.tail c.args.block.0 c.args.span.at c.args.span.len ↔ OverlapReaches (patches_of c.self.inside.columns.heads.list.items) c.args.gates.tail c.args.block.0 c.args.span.at c.args.span.len
reaches c =
    let s = c.self.inside in
    overlap_reaches (is_forgotten_in (nodes_of s.columns.heads.list.items)) (patches_of s.columns.heads.list.items) s.numbers (view_gone c.self.invariant) c.self.invariant.0.keeps.lawful.on_disk_with_all c.args.gates.tail c.args.block.0 c.args.span.at c.args.span.len (paired c).tail_open

-- nothing reaches it
apart : (c : After-deref) (r : Bool) → r ≡ false → (r ≡ true) ↔ OverlapReaches (patches_of c.self.inside.columns.heads.list.items) c.args.gates.tail c.args.block.0 c.args.span.at c.args.span.len
    → OverlapReaches (patches_of c.self.inside.columns.heads.list.items) c.args.gates.tail c.args.block.0 c.args.span.at c.args.span.len → ⊥
apart c r off told o = false≢true (sym off ∙ told.1 (o))

-- so many are not forgotten
many : (c : After-deref) → length (remembered_of c.self.inside.columns.heads.list.items) ≡ c.standing-standing.result
many c = ap (λ (v : Known). length v.heads) c.self.view_is ∙ sym c.standing-standing.ensures

-- nothing refuses it
clear : (c : After-deref) → (OverlapReaches (patches_of c.self.inside.columns.heads.list.items) c.args.gates.tail c.args.block.0 c.args.span.at c.args.span.len → ⊥) → NoneHolds (room_order (remembered_of c.self.inside.columns.heads.list.items) c.self.inside.numbers)
    → NoneHolds (member_order (remembered_of c.self.inside.columns.heads.list.items) c.self.inside.numbers c.args.gates.tail c.args.block.0 c.args.span.at c.args.span.len)
clear c none room = (λ o. none ((reaches c).0 o), room)

pub returns-then-reaches_tail-clause-refused : goal.returns-then-reaches_tail-clause-refused
returns-then-reaches_tail-clause-refused c =
    let d = (goal.at.returns-then-reaches_tail-clause-refused c).After-deref in
    let o = c.reaches_tail.ensures.reaches.0 c.if-reaches_tail.true in
    rw (← c.self.view_is) (inl (inl ((reaches d).1 (o), refl)))

pub returns-in-Some-clause-refused : goal.returns-in-Some-clause-refused
returns-in-Some-clause-refused c =
    let d = (goal.at.returns-in-Some-clause-refused c).After-deref in
    rw (← c.self.view_is) (inl (inr ((λ o. apart d c.reaches_tail.result c.if-reaches_tail.false c.reaches_tail.ensures.reaches ((reaches d).0 o)), c.in-Some.ensures.first (remembered_of c.self.inside.columns.heads.list.items) (many d))))

pub prepare_member-requires-clause-counted : goal.prepare_member-requires-clause-counted
prepare_member-requires-clause-counted c = c.self.invariant.0.tallies.counted

pub prepare_member-requires-clause-sees : goal.prepare_member-requires-clause-sees
prepare_member-requires-clause-sees c = sees_all c.self.invariant.0 _ refl c.deref.ensures.value c.deref-2.ensures.value refl refl

-- memory was refused, and nothing else refuses it
short : (c : After-deref) → (OverlapReaches (patches_of c.self.inside.columns.heads.list.items) c.args.gates.tail c.args.block.0 c.args.span.at c.args.span.len → ⊥) → NoneHolds (room_order (remembered_of c.self.inside.columns.heads.list.items) c.self.inside.numbers)
    → Refuses (member_order c.args.self.now.heads c.args.self.now.numbers c.args.gates.tail c.args.block.0 c.args.span.at c.args.span.len) fault.Memory
short c none room = rw (← c.self.view_is) (inr (clear c none room, refl))

pub returns-in_default-prepare_member-clause-refused : goal.returns-in_default-prepare_member-clause-refused
returns-in_default-prepare_member-clause-refused c =
    let d = (goal.at.returns-in_default-prepare_member-clause-refused c).After-deref in
    short d (apart d c.reaches_tail.result c.if-reaches_tail.false c.reaches_tail.ensures.reaches) (c.in_default.ensures.clear (remembered_of c.self.inside.columns.heads.list.items) (many d))

pub returns-then-is_err-clause-refused : goal.returns-then-is_err-clause-refused
returns-then-is_err-clause-refused c =
    let d = (goal.at.returns-then-is_err-clause-refused c).After-deref in
    rw c.given_up.ensures (short d (apart d c.reaches_tail.result c.if-reaches_tail.false c.reaches_tail.ensures.reaches) (c.in_default.ensures.clear (remembered_of c.self.inside.columns.heads.list.items) (many d)))

pub returns-then-is_err-2-clause-refused : goal.returns-then-is_err-2-clause-refused
returns-then-is_err-2-clause-refused c =
    let d = (goal.at.returns-then-is_err-2-clause-refused c).After-deref in
    rw c.given_up-then-is_err-2.ensures (short d (apart d c.reaches_tail.result c.if-reaches_tail.false c.reaches_tail.ensures.reaches) (c.in_default.ensures.clear (remembered_of c.self.inside.columns.heads.list.items) (many d)))

pub returns-clause-clear : goal.returns-clause-clear
returns-clause-clear c =
    let d = (goal.at.returns-clause-clear c).After-deref in
    rw (← c.self.view_is) (clear d (apart d c.reaches_tail.result c.if-reaches_tail.false c.reaches_tail.ensures.reaches) (c.in_default.ensures.clear (remembered_of c.self.inside.columns.heads.list.items) (many d)))

-- the fields after the walks, and with room around the change
walked : (c : After-reserve_around-around)
    → AreSound (record c.self.inside { columns = record c.self.inside.columns { ends = c.prepare_member.new.ends }; prepared = None })
walked c = walked_then c.self.invariant.0 {walked = c.prepare_member.new.ends} refl c.deref.ensures.value c.prepare_member.ensures.up c.prepare_member.ensures.down

same : (c : After-reserve_around-around) → remembered_of c.reserve_around-around.new.columns.heads.list.items ≡ remembered_of c.self.inside.columns.heads.list.items
same c = same_view c.self.inside.columns.heads.list.items c.reserve_around-around.new.columns.heads.list.items c.reserve_around-around.ensures.roomier.nodes

-- what was found is ready
ready : (c : After-reserve_around-around) → c.args.block.0 < c.self.inside.blocks → ArePaired (patches_of c.self.inside.columns.heads.list.items) c.self.inside.numbers c.args.gates.head c.args.gates.tail → (OverlapReaches (patches_of c.self.inside.columns.heads.list.items) c.args.gates.tail c.args.block.0 c.args.span.at c.args.span.len → ⊥)
    → NoneHolds (room_order (remembered_of c.self.inside.columns.heads.list.items) c.self.inside.numbers) → IsMemberReady (patches_of c.self.inside.columns.heads.list.items) (remembered_of c.self.inside.columns.heads.list.items) c.self.inside.numbers c.self.inside.blocks c.args.gates c.in-Ok.prepared
ready c lt pair none room =
    let made = c.in-Ok.ensures in
    member_found c.self.invariant.0.keeps c.args.gates pair c.in-Ok.prepared made.names made.block made.span lt refl none room made.depends made.told

pub returns-clause-ok : goal.returns-clause-ok
returns-clause-ok c =
    let s = c.self.inside in
    let made = c.in-Ok.ensures in
    let heads = s.columns.heads.list.items in
    let K = c.self.invariant.0.keeps.lawful in
    let at = goal.at.returns-clause-ok c in
    let d = at.After-deref in
    let p = c.in-Ok.prepared in
    let R = ready at.After-reserve_around-around (inside d) (paired d) (apart d c.reaches_tail.result c.if-reaches_tail.false c.reaches_tail.ensures.reaches) (c.in_default.ensures.clear (remembered_of heads) (many d)) in
    let known : Known = record { heads = patches_of heads; numbers = s.numbers; blocks = s.blocks; groups = []; prepared = None } in
    rw (← c.self.view_is, ← made.block, ← made.span)
    (foretells_known (is_forgotten_in (nodes_of heads)) known (view_gone c.self.invariant) K c.args.gates.head p.block p.span.at p.span.len (s.numbers + 1) p.told.grade (gone_past heads s.numbers (s.numbers + 1) K.one_place_each (omega arith))
    (λ begun begin. (begun ++ change_of s.numbers p ∷ [], foretold c.args.gates p R begun begin)))

pub invariant_of-self-then-is_err : goal.invariant_of-self-then-is_err
invariant_of-self-then-is_err c =
    let A = c.reserve_around-around.ensures in
    rw c.let_go.ensures (around_sound (walked (goal.at.invariant_of-self-then-is_err c).After-reserve_around-around) c.self.invariant.1 A.roomier A.same A.wide)

pub returns-then-is_err-clause-same : goal.returns-then-is_err-clause-same
returns-then-is_err-clause-same c = rw (← c.self.view_is, c.let_go.ensures, same (goal.at.returns-then-is_err-clause-same c).After-reserve_around-around) refl

pub invariant_of-self-then-is_err-2 : goal.invariant_of-self-then-is_err-2
invariant_of-self-then-is_err-2 c =
    let A = c.reserve_around-around.ensures in
    let B = c.reserve_in-inside.ensures in
    rw c.let_go.ensures (inside_sound (walked (goal.at.invariant_of-self-then-is_err-2 c).After-reserve_around-around) c.self.invariant.1 A.roomier A.same A.wide B.entries B.covered B.pruned B.ways)

pub returns-then-is_err-2-clause-same : goal.returns-then-is_err-2-clause-same
returns-then-is_err-2-clause-same c = rw (← c.self.view_is, c.let_go.ensures, same (goal.at.returns-then-is_err-2-clause-same c).After-reserve_around-around) refl

pub invariant_of-self-2 : goal.invariant_of-self-2
invariant_of-self-2 c =
    let places = goal.at.invariant_of-self-2 c in
    let at = places.After-reserve_around-around in
    let d = places.After-deref in
    let A = c.reserve_around-around.ensures in
    let B = c.reserve_in-inside.ensures in
    let s = c.self.inside in
    let p = c.in-Ok.prepared in
    let first = sym c.is_err.ensures.value ∙ c.if-is_err.false in
    let second = sym c.is_err-2.ensures.value ∙ c.if-is_err-2.false in
    let patches = same_patches c.reserve_around-around.new.columns.heads.list.items s.columns.heads.list.items A.roomier.nodes in
    let shelf = ok_of c.reserve_around-around.result _ A.shelf first in
    let R = ready at (inside d) (paired d) (apart d c.reaches_tail.result c.if-reaches_tail.false c.reaches_tail.ensures.reaches) (c.in_default.ensures.clear (remembered_of s.columns.heads.list.items) (many d)) in
    let put : MayBePut (patches_of s.columns.heads.list.items) (remembered_of s.columns.heads.list.items) s.numbers s.blocks p = member_put p c.args.gates (patches_of s.columns.heads.list.items) s.numbers s.blocks c.in-Ok.ensures.gates R in
    rw c.keep.ensures (ready_sound (walked at) c.self.invariant.1 A.roomier A.same A.wide B.entries B.covered B.pruned B.ways p (record {
      ready = rw (same at, patches) put;
      places = ok_of c.reserve_around-around.result _ A.places first;
      waits = ok_of c.reserve_around-around.result _ A.waits first;
      around = ok_of c.reserve_around-around.result _ A.around first;
      in_list = ok_of c.reserve_in-inside.result _ B.in_list second;
      runs = ok_of c.reserve_in-inside.result _ B.runs second;
      needed = ok_of c.reserve_in-inside.result _ B.needed second;
    }) (omega (arith, shelf, c.reserve_around-around.new.columns.heads.list.ok.0)))

pub returns-clause-prepared : goal.returns-clause-prepared
returns-clause-prepared c =
    let s = c.self.inside in
    let made = c.in-Ok.ensures in
    rw (← c.self.view_is, c.keep.ensures, same (goal.at.returns-clause-prepared c).After-reserve_around-around)
    (ap (λ q. record { heads = remembered_of s.columns.heads.list.items; numbers = s.numbers; blocks = s.blocks; groups = []; prepared = Some q }) (member_found_as c.in-Ok.prepared s.numbers c.args.gates made.block made.span made.names made.gates))

pub reserve_in-inside-requires-clause-disk : goal.reserve_in-inside-requires-clause-disk
reserve_in-inside-requires-clause-disk c =
    let at = (goal.at.reserve_in-inside-requires-clause-disk c).After-reserve_around-around in
    let around = roomier_sound (walked at) {landed = c.reserve_around-around.new.landed} c.reserve_around-around.ensures.roomier in
    around.keeps.lawful.on_disk_with_all

pub invariant_of-self : goal.invariant_of-self
invariant_of-self c = grind (arith, common_steps)

pub invariant_of-self-in-Some : goal.invariant_of-self-in-Some
invariant_of-self-in-Some c = grind (arith, common_steps)

pub prepare_member-requires-clause-up : goal.prepare_member-requires-clause-up
prepare_member-requires-clause-up c = grind (arith, common_steps)

pub prepare_member-requires-clause-down : goal.prepare_member-requires-clause-down
prepare_member-requires-clause-down c = grind (arith, common_steps)

pub prepare_member-requires-clause-block : goal.prepare_member-requires-clause-block
prepare_member-requires-clause-block c = grind (arith, common_steps)

pub invariant_of-self-in_default-prepare_member : goal.invariant_of-self-in_default-prepare_member
invariant_of-self-in_default-prepare_member c = grind (arith, common_steps)

pub reserve_in-inside-requires-clause-list : goal.reserve_in-inside-requires-clause-list
reserve_in-inside-requires-clause-list c = grind (arith, common_steps)
