use Rattle.std.proofs.lemmas.Grind.{common_steps}
use Rattle.std.proofs.Common.{◌≡◌, ◌<◌, ◌+◌, ◌++◌, ◌∷◌, ◌∙◌, [], ℕ, Option, None, Some, IfSome, IfNone, option_map, Contains, length, arith, sym, subst, refl, ap, map}
use Rattle.std.specs.Vec.{with_item}
use Rattle.fst_types.specs.{Dependencies.{DirectlyOn, IsLiveNumber}, Gating.gains, Limits.max_heads, Lists.Lists}
use Rattle.fst_heads.specs.{Frames.HasRoomBelow, Heads.patches_of, Names.numbers_of, Nodes.{is_forgotten_in, nodes_of, pending_in}, Pendings.sums_of}
use Rattle.fst_graph.specs.{Known.{Known, DependsGate}, Ready.change_of, Remembered.remembered_known, Sound.{AreRemembered, AreSound, remembered_of}, Sparse.AddsSparse, declared.prepared.Gates.Gates}
use Rattle.fst_graph.proofs.{Borne.{few_waiting, gain_room}, Made.{change_sound, gained_sound, may_enlist, may_lift, may_need, may_put, may_rise, named_patches, put_patches}, PutNow.{number_free, put_now, IsPutDown, IsPutNow}}
use Rattle.fst_graph.proofs.{Flagged.{gained_flags, gained_landed, gone_past, remembered_as, remembered_made, remembered_still}, Remembered.open_number, RememberedCalls.depend_known, RememberedLooks.live_few, RememberedSparse.pushed_remembered}
use Rattle.fst_graph.proofs.{Readied.{ready_adds, ready_made}, Sound.{view_gone, view_long}, Shelf.put_remembered, TailGains.{member_kept, tail_may, tail_small}}
use Rattle.fst_graph.proofs.GreatestNumber.{is_newest}
use Rattle.fst_graph.proofs.sparse.Sparse.put_alone.Goals.{After-as_slice-row, After-put_down-pending, After-put-2}
use Rattle.fst_graph.proofs.sparse.Sparse.put_alone.Goals as goal

-- what is prepared may be put down
now : (c : After-as_slice-row)
    → IsPutNow c.self.inside c.in-Some.prepared
now c =
    let old = patches_of c.self.inside.columns.heads.list.items in
    let G = view_gone c.self.invariant in
    put_now c.self.invariant.0 c.in-Some.prepared c.args.self.now (live_few _ old G) (λ n o. (open_number _ old G c.self.invariant.0.keeps.lawful.on_disk_with_all n).1 o) c.self.view_is c.requires (sym c.take.ensures.value ∙ c.in-Some.is)

pub index_mut-requires : goal.index_mut-requires
index_mut-requires c = omega (arith, (now (goal.at.index_mut-requires c).After-as_slice-row).down.ready.inside, c.self.invariant.0.covered.long, c.self.inside.covers.ok.0)

pub rise_of-rise-requires : goal.rise_of-rise-requires
rise_of-rise-requires c =
    may_rise c.self.invariant.0 (now (goal.at.rise_of-rise-requires c).After-as_slice-row).down _ refl c.deref.ensures.value c.deref-2.ensures.value refl refl c.deref_mut.ensures.value

pub lift-requires : goal.lift-requires
lift-requires c =
    may_lift c.self.invariant.0 (now (goal.at.lift-requires c).After-as_slice-row).down c.rise_of-rise.new.walk refl c.as_slice-row.ensures c.rise_of-rise.ensures.rise c.rise_of-rise.ensures.long refl

pub put-requires : goal.put-requires
put-requires c = may_need c.self.invariant.0 (now (goal.at.put-requires c).After-as_slice-row).down refl c.as_slice-row.ensures

pub put_down-pending-requires : goal.put_down-pending-requires
put_down-pending-requires c =
    let D = (now (goal.at.put_down-pending-requires c).After-as_slice-row).down in
    record {
      newest = is_newest _ c.self.inside.numbers _ c.self.invariant.0.keeps.lawful c.lift.ensures.leveled;
      once = D.ready.depends.rising;
      above = D.prepared.around.0;
      few = few_waiting c.self.inside.columns.heads.list.items c.self.invariant.0.tallies.settled c.self.invariant.0.beside;
      places = may_put c.self.invariant.0 D c.rise_of-rise.new.walk c.rise_of-rise.new.crossed c.rise_of-rise.ensures.long refl c.rise_of-rise.ensures.room c.lift.ensures.room;
    }

pub enlist-requires : goal.enlist-requires
enlist-requires c = may_enlist c.self.invariant.0 (now (goal.at.enlist-requires c).After-as_slice-row).down

added : (c : After-put_down-pending) → patches_of c.put_down-pending.new.self.heads.list.items ≡ patches_of c.self.inside.columns.heads.list.items ++ change_of c.self.inside.numbers c.in-Some.prepared ∷ []
added c = put_patches c.self.inside.columns.heads.list.items c.put_down-pending.new.self.heads.list.items (change_of c.self.inside.numbers c.in-Some.prepared) c.put_down-pending.ensures.put.nodes

-- the fields with the change, of which no tail has the name yet
sound : (c : After-put-2)
    → IsPutDown c.self.inside c.in-Some.prepared
    → AreSound (record c.self.inside {
      columns = c.put_down-pending.new.self;
      needs = c.note.new.self;
      lists = c.enlist.new.lists;
      covers = with_item c.self.inside.covers c.in-Some.prepared.block c.put-2.new.self;
      standings = c.enlist.new.standings;
      live = c.self.inside.live + 1;
      numbers = c.self.inside.numbers + 1;
      prepared = None;
    })
sound c D =
    change_sound c.self.invariant.0 D
    c.rise_of-rise.new.walk c.rise_of-rise.new.crossed c.put_down-pending.ensures.put c.put_down-pending.ensures.pending refl c.as_slice-row.ensures c.rise_of-rise.ensures.rise c.rise_of-rise.ensures.long
    refl c.lift.ensures.leveled c.lift.ensures.below c.lift.ensures.lifted c.lift.ensures.still
    refl c.as_slice-row.ensures (c.ancestry_over-ancestry.ensures _ _ c.lift.ensures.leveled (omega arith))
    refl c.as_slice-row.ensures (rw c.note.ensures.lists c.put.ensures.put)
    (rw (← c.put.ensures.ways) c.note.ensures.noted)
    c.enlist.ensures.listed
    c.index_mut.ensures.value c.put-2.ensures refl
    c.enlist.ensures.entered

-- what is forgotten stays so, and of what landed nothing else
still : (c : After-put-2)
    → IsPutDown c.self.inside c.in-Some.prepared
    → AreRemembered c.put_down-pending.new.self.heads.list.items c.self.inside.landed c.self.inside.forgotten None
still c D =
    let s = c.self.inside in
    let new = c.put_down-pending.new.self.heads in
    let made = change_of s.numbers c.in-Some.prepared in
    let I = c.self.invariant.1 in
    let room : length s.columns.heads.list.items < s.forgotten + max_heads = let full = D.ready.clear.1.1.0 in let kept = view_long c.self.invariant in omega (arith, full, kept) in
    let shelf = subst (λ o. IfSome o (λ p. length s.columns.heads.list.items < s.landed.cap)) (sym c.take.ensures.value ∙ c.in-Some.is) I.spare in
    put_remembered s.columns.heads.list.items new.list.items made s.numbers s.blocks c.put_down-pending.ensures.put.nodes c.self.invariant.0.keeps.lawful.one_place_each refl (sound c D).tallies.settled {landed = s.landed} {now = s.landed} refl room shelf I

-- and the patches that are not forgotten are those with the change
seen : (c : After-put_down-pending) → remembered_of c.put_down-pending.new.self.heads.list.items ≡ remembered_of c.self.inside.columns.heads.list.items ++ change_of c.self.inside.numbers c.in-Some.prepared ∷ []
seen c = remembered_made c.self.inside.columns.heads.list.items c.put_down-pending.new.self.heads.list.items (change_of c.self.inside.numbers c.in-Some.prepared) c.put_down-pending.ensures.put.nodes c.self.invariant.0.keeps.lawful.one_place_each refl (added c)

-- it is the change that was foreseen among these too
adds : (c : After-put_down-pending)
    → IsPutDown c.self.inside c.in-Some.prepared
    → AddsSparse (record { heads = remembered_of c.self.inside.columns.heads.list.items; numbers = c.self.inside.numbers; blocks = c.self.inside.blocks; groups = []; prepared = None })
    c.in-Some.prepared.block c.in-Some.prepared.span.at c.in-Some.prepared.span.len (numbers_of c.in-Some.prepared.names.items) (c.self.inside.numbers + 1) c.in-Some.prepared.told.grade
    (record { heads = remembered_of c.self.inside.columns.heads.list.items ++ change_of c.self.inside.numbers c.in-Some.prepared ∷ []; numbers = c.self.inside.numbers + 1; blocks = c.self.inside.blocks; groups = []; prepared = None })
adds c D =
    let s = c.self.inside in
    let p = c.in-Some.prepared in
    let old = patches_of s.columns.heads.list.items in
    let gone = is_forgotten_in (nodes_of s.columns.heads.list.items) in
    let H = c.self.invariant.0.keeps.lawful in
    let free = gone_past s.columns.heads.list.items s.numbers (s.numbers + 1) H.one_place_each (omega arith) in
    ready_adds D.ready (pushed_remembered gone old s.numbers (view_gone c.self.invariant) H p.block p.span.at p.span.len (numbers_of p.names.items) (s.numbers + 1) p.told.grade (change_of s.numbers p) free refl (ready_made D.ready))

pub invariant_of-self-in-None : goal.invariant_of-self-in-None
invariant_of-self-in-None c =
    let at = goal.at.invariant_of-self-in-None c in
    let D = (now at.After-as_slice-row).down in
    rw c.take.ensures.after (sound at.After-put-2 D, still at.After-put-2 D)

pub tie-requires : goal.tie-requires
tie-requires c =
    let at = goal.at.tie-requires c in
    let s = c.self.inside in
    let p = c.in-Some.prepared in
    let tail = c.in-Some-gates.gates.tail in
    let P = now at.After-as_slice-row in
    let K = c.self.invariant.0.keeps.lawful in
    let R = member_kept p c.in-Some-gates.gates (patches_of s.columns.heads.list.items) (remembered_of s.columns.heads.list.items) s.numbers s.blocks c.in-Some-gates.is P.down.prepared.ready in
    let S = sound at.After-put-2 P.down in
    let heads = c.put_down-pending.new.self.heads.list.items in
    let T = tail_may (patches_of s.columns.heads.list.items) (remembered_of s.columns.heads.list.items) s.numbers s.blocks s.columns.ends.up.walk.marks c.self.invariant.0.keeps c.in-Some-gates.gates p c.in-Some-gates.is P.down.prepared.ready P.closed P.down.keeps.lawful in
    let gains : Lists (λ n. IsLiveNumber (patches_of heads) n × Contains ((s.numbers + 1) ∷ []) n × (DirectlyOn (patches_of heads) tail n → ⊥)) ((s.numbers + 1) ∷ []) = rw (added at.After-put_down-pending) T.gains in
    let below_tail : HasRoomBelow s.columns.heads.list.items tail = subst (λ g. IfSome g (λ x. HasRoomBelow s.columns.heads.list.items x.tail)) c.in-Some-gates.is P.down.prepared.around.1 in
    record {
      counted = gain_room heads s.blocks tail ((s.numbers + 1) ∷ []) (omega (arith, c.self.ranges)) S.tallies.settled S.tallies.distinct (few_waiting heads S.tallies.settled S.beside) gains.rising (λ n h. (gains.only n h).2);
      below = c.put_down-pending.ensures.below tail (λ e. let k = tail_small (patches_of s.columns.heads.list.items) s.numbers K R in omega (arith, e, k)) below_tail;
      above = c.put_down-pending.ensures.above;
    }

pub invariant_of-self : goal.invariant_of-self
invariant_of-self c =
    let at = goal.at.invariant_of-self c in
    let s = c.self.inside in
    let old = patches_of s.columns.heads.list.items in
    let p = c.in-Some.prepared in
    let gates = c.in-Some-gates.gates in
    let n = s.numbers + 1 in
    let P = now at.After-as_slice-row in
    let T = tail_may old (remembered_of s.columns.heads.list.items) s.numbers s.blocks s.columns.ends.up.walk.marks c.self.invariant.0.keeps gates p c.in-Some-gates.is P.down.prepared.ready P.closed P.down.keeps.lawful in
    let mid = c.put_down-pending.new.self.heads.list.items in
    let names = n ∷ [] in
    let sums = sums_of (pending_in (nodes_of mid)) names in
    let R = still at.After-put-2 P.down in
    let told = gained_landed mid c.tie.new.heads.list.items gates.tail names sums c.tie.ensures R.told in
    rw c.take.ensures.after (
      gained_sound (sound at.After-put-2 P.down) gates.tail ((s.numbers + 1) ∷ []) ((s.numbers + 1) ∷ []) (rw (added at.After-put_down-pending) T.there) (rw (added at.After-put_down-pending) T.clear) (rw (added at.After-put_down-pending) T.gains) c.tie.ensures,
      remembered_still mid c.tie.new.heads.list.items (gained_flags mid c.tie.new.heads.list.items gates.tail names sums c.tie.ensures) {now = s.landed} told refl R,
    )

pub returns-in-Some-gates-clause-tied : goal.returns-in-Some-gates-clause-tied
returns-in-Some-gates-clause-tied c =
    let at = goal.at.returns-in-Some-gates-clause-tied c in
    let s = c.self.inside in
    let old = patches_of s.columns.heads.list.items in
    let p = c.in-Some.prepared in
    let n = s.numbers + 1 in
    let gates = c.in-Some-gates.gates in
    let P = now at.After-as_slice-row in
    let S = sound at.After-put-2 P.down in
    let mid = c.put_down-pending.new.self.heads.list.items in
    let sums = sums_of (pending_in (nodes_of mid)) (n ∷ []) in
    let T = tail_may old (remembered_of s.columns.heads.list.items) s.numbers s.blocks s.columns.ends.up.walk.marks c.self.invariant.0.keeps gates p c.in-Some-gates.is P.down.prepared.ready P.closed P.down.keeps.lawful in
    let before : Known = record { heads = remembered_of s.columns.heads.list.items; numbers = s.numbers; blocks = s.blocks; groups = []; prepared = None } in
    let between : Known = record { heads = patches_of mid; numbers = n; blocks = s.blocks; groups = []; prepared = None } in
    let after : Known = record { heads = patches_of c.tie.new.heads.list.items; numbers = n; blocks = s.blocks; groups = []; prepared = None } in
    let gone = is_forgotten_in (nodes_of mid) in
    let with_change = remembered_known gone between in
    let later = remembered_known gone after in
    let gained = named_patches mid c.tie.new.heads.list.items gates.tail (n ∷ []) c.tie.ensures ∙ ap (map (gains gates.tail (n ∷ []))) (added at.After-put_down-pending) in
    let depends : DependsGate between (gates.head + 1) (n ∷ []) after = rw (added at.After-put_down-pending, ← T.follows) record {
      clear = T.clear;
      row = record { gate = T.there; clear = T.clear.1.1.1.1.1.0; names = n ∷ []; live = T.gains; gained = gained };
      numbers = refl;
      blocks = refl;
      groups = refl;
      prepared = refl;
    } in
    let known = depend_known gone between after (view_gone (S, still at.After-put-2 P.down)) S.keeps.lawful (gates.head + 1) (n ∷ []) depends in
    let made : AddsSparse before p.block p.span.at p.span.len (gates.head ∷ []) n p.told.grade with_change = rw (seen at.After-put_down-pending, ← T.names) (adds at.After-put_down-pending P.down) in
    rw (← c.self.view_is, sym c.take.ensures.value ∙ c.in-Some.is, c.take.ensures.after, remembered_as mid c.tie.new.heads.list.items (gained_flags mid c.tie.new.heads.list.items gates.tail (n ∷ []) sums c.tie.ensures) refl) (
    subst (λ g. IfSome (option_map (λ (x : Gates). x.head) g) (λ head. (w : Known) × AddsSparse before p.block p.span.at p.span.len (head ∷ []) n p.told.grade w × DependsGate w (head + 1) (n ∷ []) later))
    (sym c.in-Some-gates.is) (with_change, made, known)
    )

pub returns-clause-alone : goal.returns-clause-alone
returns-clause-alone c =
    let at = goal.at.returns-clause-alone c in
    let s = c.self.inside in
    let p = c.in-Some.prepared in
    let n = s.numbers + 1 in
    let before : Known = record { heads = remembered_of s.columns.heads.list.items; numbers = s.numbers; blocks = s.blocks; groups = []; prepared = None } in
    let after : Known = record { heads = remembered_of s.columns.heads.list.items ++ change_of s.numbers p ∷ []; numbers = n; blocks = s.blocks; groups = []; prepared = None } in
    rw (← c.self.view_is, sym c.take.ensures.value ∙ c.in-Some.is, c.take.ensures.after, seen at.After-put_down-pending) (
    subst (λ g. IfNone (option_map (λ (x : Gates). x.head) g) (AddsSparse before p.block p.span.at p.span.len (numbers_of p.names.items) n p.told.grade after)) (sym c.in-None.is) (adds at.After-put_down-pending (now at.After-as_slice-row).down)
    )

-- what was prepared had that number and grade
pub returns-clause-foreseen : goal.returns-clause-foreseen
returns-clause-foreseen c = rw (← c.self.view_is, sym c.take.ensures.value ∙ c.in-Some.is) (refl, refl)

pub returns-in-Some-gates-clause-foreseen : goal.returns-in-Some-gates-clause-foreseen
returns-in-Some-gates-clause-foreseen c = rw (← c.self.view_is, sym c.take.ensures.value ∙ c.in-Some.is) (refl, refl)

-- it was for a group or for none
for_none : (g : Option Gates) (P : ℕ → Type 0) → g ≡ None → IfSome (option_map (λ x. x.head) g) P
for_none g P e = rw e tt

for_group : (g : Option Gates) (gates : Gates) (P : Type 0) → g ≡ Some gates → IfNone (option_map (λ x. x.head) g) P
for_group g gates P e = rw e tt

pub returns-clause-tied : goal.returns-clause-tied
returns-clause-tied c = rw (← c.self.view_is, sym c.take.ensures.value ∙ c.in-Some.is) (for_none c.in-Some.prepared.gates _ c.in-None.is)

pub returns-in-Some-gates-clause-alone : goal.returns-in-Some-gates-clause-alone
returns-in-Some-gates-clause-alone c = rw (← c.self.view_is, sym c.take.ensures.value ∙ c.in-Some.is) (for_group c.in-Some.prepared.gates _ _ c.in-Some-gates.is)

pub overflow_add-number : goal.overflow_add-number
overflow_add-number c = let free = number_free c.self.invariant.0 c.in-Some.prepared (sym c.take.ensures.value ∙ c.in-Some.is) in omega (arith, free)

pub overflow_add-self : goal.overflow_add-self
overflow_add-self c =
    let S = c.self.invariant.0 in
    omega (arith, S.beside.few)

pub overflow_cast-block : goal.overflow_cast-block
overflow_cast-block c = omega (arith, (now (goal.at.overflow_cast-block c).After-as_slice-row).down.ready.inside, c.self.ranges)

pub overflow_cast-kind : goal.overflow_cast-kind
overflow_cast-kind c = grind (arith, common_steps)
