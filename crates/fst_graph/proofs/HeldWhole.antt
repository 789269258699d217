-- What each call of the patches with sparse rows is of those with whole rows beside their groups, and that it leaves what holds of them.
use Rattle.std.proofs.Common.{◌≡◌, ◌+◌, ◌≤◌, ◌<◌, ◌∷◌, [], ℕ, List, All, Some, length, refl, sym, ap, subst, ◌∙◌}
use Rattle.std.proofs.lemmas.{List.length-map, Option.same_Some}
use Rattle.std.specs.Prelude.{IfSome}
use Rattle.fst_types.specs.Grouping.{with_new, put_after, with_member, with_closed}
use Rattle.fst_types.specs.{Groups.{Group, IsGroupGate, IsGroupNumber}, Limits.max_groups, Order.{room_order, group_new_order, make_order, depend_order, group_after_order, group_close_order, group_patch_order}}
use Rattle.fst_types.specs.{Refusals.{◌when◌, NoneHolds}, declared.fault.Fault.Fault, declared.grade.Grade.Grade}
use Rattle.fst_graph.specs.Grouping.{pair_order, unstarted_order, AddsGroup, AddsMember, AddsPair, ClosesGroup, ForeseesMember, PutsAfter, SealsIfOpen}
use Rattle.fst_graph.specs.Known.{Known, Prepared, unprepared, with_groups, Foresees, Refuses, AddsGate, AddsEmpty, AddsChange, SealsGate, DependsGate, Launches, LandsBlock, MayLaunch, Forgets}
use Rattle.fst_graph.specs.{Membering.{ArePaired, GainsMember, member_order}, Rows.{AreWhole, whole, whole_known, with_row}, Sparse.{AddsSparse, ForeseesSparse, ForetellsSparse, GainsSparse}, Whole.{IsHeldWhole, IsUnclosed}}
use Rattle.fst_graph.proofs.GroupCalls.{new_group, past_tails, puts_after, after_refused, pairs, tail_after, member_clear, member_refused, foretold, put_adds, put_grouped, closes_group}
use Rattle.fst_graph.proofs.Grouped.{past_rule, grouped_unprepared, grouped_prepared, grouped_gate, grouped_empty, grouped_seal, grouped_depend, grouped_change, grouped_forget, grouped_launch, grouped_land, beside_empty, beside_depend, beside_change, beside_foreseen}
use Rattle.fst_graph.proofs.WholeCalls.{same_over, gate_known, empty_known, seal_known, begun_known, gains_known, depend_refuses, launch_over, launch_made, land_known, forget_known, pair_known, change_known, foresees_is, member_known, foretells_is, member_clear_is, member_refuses, paired_was}
use Rattle.fst_types.specs.declared.fault.What.TheVariants as what
use Rattle.fst_types.specs.declared.fault.Fault.TheVariants as fault

module _ {rows : List (ℕ × List ℕ)} {p : Known} {gs : List Group} (G : IsHeldWhole rows p gs) where
  abbrev P : Known
  P = whole_known rows p

  -- there are as many with whole rows
  pub room_refuses : {f : Fault} → Refuses (room_order p.heads p.numbers) f → Refuses (room_order P.heads p.numbers) f
  room_refuses r = rw (length-map p.heads (whole rows)) r

  pub make_refuses : (after : List ℕ) {f : Fault} → Refuses (make_order p.heads p.numbers after) f → Refuses (make_order P.heads p.numbers after) f
  make_refuses after r = rw (length-map p.heads (whole rows)) r

  pub held_foreseen : {b at len n : ℕ} {after : List ℕ} {grade : Grade} → ForeseesSparse (unprepared p) b at len after n grade → Foresees (unprepared (with_groups P gs)) b at len after n grade
  held_foreseen {b} {at} {len} {n} {after} {grade} x = beside_foreseen P gs b at len n after grade (foresees_is rows p G.whole b at len after n grade x)

  -- a call of patches alone
  module _ {q : Known} where
    -- the rest is as it is among the patches
    pub held_as : {k : Known} → q ≡ k → with_groups (whole_known rows q) gs ≡ with_groups (whole_known rows k) gs
    held_as same = ap (λ k. with_groups (whole_known rows k) gs) same

    pub held_same : q ≡ unprepared p → with_groups (whole_known rows q) gs ≡ unprepared (with_groups P gs)
    held_same same = held_as same

    pub held_unprepared : q ≡ unprepared p → IsHeldWhole rows q gs
    held_unprepared same = record { whole = same_over rows p G.whole q same; grouped = grouped_unprepared P (whole_known rows q) gs G.grouped (ap (whole_known rows) same) }

    pub held_prepared : {ready : Prepared} → IfSome ready.group (IsUnclosed gs) → q ≡ record p { prepared = Some ready } → IsHeldWhole rows q gs
    held_prepared {ready} meant same = record {
      whole = subst (λ (k : Known). AreWhole rows k.heads k.numbers) (sym same) G.whole;
      grouped = grouped_prepared P (whole_known rows q) gs G.grouped ready meant (ap (whole_known rows) same);
    }

    pub held_gate : {n : ℕ} → AddsGate p n q → AddsGate (with_groups P gs) n (with_groups (whole_known rows q) gs) × IsHeldWhole rows q gs
    held_gate {n} a =
        let k = gate_known rows p G.whole q n a in
        (record { clear = k.0.clear; row = k.0.row; numbers = k.0.numbers; blocks = k.0.blocks; groups = refl; prepared = k.0.prepared }, record { whole = k.1; grouped = grouped_gate P (whole_known rows q) gs G.grouped n k.0 })

    pub held_empty : {after : List ℕ} {n : ℕ} → AddsEmpty p after n q → AddsEmpty (with_groups P gs) after n (with_groups (whole_known rows q) gs) × IsHeldWhole rows q gs
    held_empty {after} {n} a =
        let k = empty_known rows p G.whole q after n a in
        (beside_empty P (whole_known rows q) gs after n k.0, record { whole = k.1; grouped = grouped_empty P (whole_known rows q) gs G.grouped after n k.0 })

    pub held_seal : {g : ℕ} → (IsGroupGate gs g → ⊥) → SealsGate p g q → SealsGate (with_groups P gs) g (with_groups (whole_known rows q) gs) × IsHeldWhole rows q gs
    held_seal {g} plain a =
        let k = seal_known rows p G.whole q g a in
        (record { clear = k.0.clear; row = k.0.row; numbers = k.0.numbers; blocks = k.0.blocks; groups = refl; prepared = k.0.prepared }, record { whole = k.1; grouped = grouped_seal P (whole_known rows q) gs G.grouped g plain k.0 })

    pub held_depend : {g : ℕ} {on : List ℕ} → DependsGate p g on q → DependsGate (with_groups P gs) g on (with_groups (whole_known rows q) gs) × IsHeldWhole rows q gs
    held_depend {g} {on} a =
        let k = gains_known rows p G.whole q g on a in
        (beside_depend P (whole_known rows q) gs g on k.0, record { whole = k.1; grouped = grouped_depend P (whole_known rows q) gs G.grouped g on k.0 })

    pub held_launch : {chosen : List ℕ} → MayLaunch P chosen → Launches p chosen q → Launches (with_groups P gs) chosen (with_groups (whole_known rows q) gs) × IsHeldWhole rows q gs
    held_launch {chosen} may a =
        let k = launch_made rows p G.whole q chosen a in
        (record { row = k.row; numbers = k.numbers; blocks = k.blocks; groups = refl; prepared = k.prepared }, record { whole = launch_over rows p G.whole q chosen may a; grouped = grouped_launch P (whole_known rows q) gs G.grouped chosen may k })

    pub held_land : {b : ℕ} → LandsBlock p b q → LandsBlock (with_groups P gs) b (with_groups (whole_known rows q) gs) × IsHeldWhole rows q gs
    held_land {b} a =
        let k = land_known rows p G.whole q b a in
        (record { row = k.0.row; numbers = k.0.numbers; blocks = k.0.blocks; groups = refl; prepared = k.0.prepared }, record { whole = k.1; grouped = grouped_land P (whole_known rows q) gs G.grouped b k.0 })

    pub held_forget : {dropped : ℕ} → Forgets p dropped q → Forgets (with_groups P gs) dropped (with_groups (whole_known rows q) gs) × IsHeldWhole rows q gs
    held_forget {dropped} a =
        let k = forget_known rows p G.whole q dropped a in
        (record { row = k.0.row; numbers = k.0.numbers; blocks = k.0.blocks; groups = refl; prepared = k.0.prepared }, record { whole = k.1; grouped = grouped_forget P (whole_known rows q) gs G.grouped dropped k.0 })

    pub held_change : {b at len n : ℕ} {after : List ℕ} {grade : Grade} → AddsSparse (unprepared p) b at len after n grade q
        → AddsChange (unprepared (with_groups P gs)) b at len after n grade (with_groups (whole_known (with_row rows q.heads n after b at len) q) gs) × IsHeldWhole (with_row rows q.heads n after b at len) q gs
    held_change {b} {at} {len} {n} {after} {grade} a =
        let more = with_row rows q.heads n after b at len in
        let k = change_known rows p G.whole q b at len after n grade a in
        let still = grouped_unprepared P (unprepared P) gs G.grouped refl in
        (beside_change (unprepared P) (whole_known more q) gs b at len n after grade k.0, record { whole = k.1; grouped = grouped_change (unprepared P) (whole_known more q) gs still b at len n after grade k.0 })

    -- a call of groups
    pub held_new_group : {n : ℕ} → AddsPair p n q → (max_groups ≤ length gs → ⊥) → AddsGroup (with_groups P gs) n (with_groups (whole_known rows q) (with_new gs n)) × IsHeldWhole rows q (with_new gs n)
    held_new_group {n} a few =
        let k = pair_known rows p G.whole q n a in
        let made = new_group P (whole_known rows q) gs G.grouped n k.0 few in
        (made.0, record { whole = k.1; grouped = made.1 })

    -- its number is past all tails
    pub held_past : {n : ℕ} → AddsPair p n q → (max_groups ≤ length gs → ⊥) → All (λ g. g.tail < n) gs
    held_past {n} a few = past_tails P (whole_known rows q) gs G.grouped n (pair_known rows p G.whole q n a).0 few

    pub held_after : {n m : ℕ} → NoneHolds (unstarted_order gs n m) → IsGroupNumber gs n → IsGroupNumber gs m → DependsGate p n ((m + 1) ∷ []) q
        → PutsAfter (with_groups P gs) n m (with_groups (whole_known rows q) (put_after gs n m)) × IsHeldWhole rows q (put_after gs n m)
    held_after {n} {m} clear found other a =
        let k = gains_known rows p G.whole q n ((m + 1) ∷ []) a in
        let put = puts_after P (whole_known rows q) gs G.grouped n m clear found other k.0 in
        (put.0, record { whole = k.1; grouped = put.1 })

  pub held_after_refused : {n m : ℕ} → NoneHolds (unstarted_order gs n m) → IsGroupNumber gs n → IsGroupNumber gs m → {f : Fault}
      → Refuses (depend_order p.heads p.numbers n ((m + 1) ∷ [])) f → Refuses (group_after_order P.heads gs n m) f
  held_after_refused {n} {m} clear found other {f} r = after_refused P P gs G.grouped n m clear found other f (depend_refuses rows p G.whole n ((m + 1) ∷ []) f r)

  pub held_new_refused : (max_groups ≤ length gs → ⊥) → {f : Fault} → Refuses (pair_order p.heads p.numbers) f → Refuses (group_new_order P.heads p.numbers gs) f
  held_new_refused few {f} r = past_rule (fault.Full what.Groups when (max_groups ≤ length gs)) (pair_order P.heads p.numbers) f few (rw (length-map p.heads (whole rows)) r)

  -- a change of a group
  module _ {n : ℕ} (u : IsUnclosed gs n) where
    paired : ArePaired P.heads p.numbers n (n + 1)
    paired = pairs P gs G.grouped n u

    pub held_pairs : ArePaired p.heads p.numbers n (n + 1)
    held_pairs = paired_was rows p G.whole n (n + 1) paired

    pub held_foretold : {b at len number : ℕ} {grade : Grade} → ForetellsSparse (unprepared p) n b at len number grade → ForeseesMember (unprepared (with_groups P gs)) n b at len number grade
    held_foretold {b} {at} {len} {number} {grade} told = foretold P gs G.grouped n u b at len number grade (foretells_is rows p G.whole n (n + 1) b at len number grade told)

    pub held_member_clear : {b at len : ℕ} → NoneHolds (member_order p.heads p.numbers (n + 1) b at len) → NoneHolds (group_patch_order P.heads p.numbers gs n b at len)
    held_member_clear {b} {at} {len} clear = member_clear P.heads p.numbers gs n b at len (tail_after P gs G.grouped n u) u.clear (member_clear_is rows p G.whole (n + 1) b at len held_pairs.tail_open clear)

    pub held_member_refused : {b at len : ℕ} {f : Fault} → Refuses (member_order p.heads p.numbers (n + 1) b at len) f → Refuses (group_patch_order P.heads p.numbers gs n b at len) f
    held_member_refused {b} {at} {len} {f} r = member_refused P.heads p.numbers gs n b at len f (tail_after P gs G.grouped n u) u (member_refuses rows p G.whole (n + 1) b at len held_pairs.tail_open f r)

  -- the change that is prepared for a group is put down
  module _ (q : Known) {n : ℕ} (number : ℕ) (grade : Grade) (ready : (y : Prepared) × (p.prepared ≡ Some y) × (y.group ≡ Some n))
      (gains : IfSome p.prepared (λ y. GainsSparse (unprepared p) n (n + 1) y.block y.at y.len number grade q)) where
    abbrev Added : List (ℕ × List ℕ) → Type 0
    Added more =
        IfSome p.prepared (λ y. AddsMember (unprepared (with_groups P gs)) n y.block y.at y.len number grade (with_groups (whole_known more q) (with_member gs n number)))
        × IsHeldWhole more q (with_member gs n number)

    added : Added (with_row rows q.heads number (n ∷ []) ready.0.block ready.0.at ready.0.len)
    added =
        let x = ready.0 in
        let more = with_row rows q.heads number (n ∷ []) x.block x.at x.len in
        let own = subst (λ o. IfSome o (λ y. GainsSparse (unprepared p) n (n + 1) y.block y.at y.len number grade q)) ready.1 gains in
        let k = member_known rows p G.whole q n (n + 1) x.block x.at x.len number grade own in
        let whole_gains = subst (λ o. IfSome o (λ y. GainsMember (unprepared P) n (n + 1) y.block y.at y.len number grade (whole_known more q))) (sym ready.1) k.0 in
        (put_adds P (whole_known more q) gs G.grouped n number grade ready whole_gains, record { whole = k.1; grouped = put_grouped P (whole_known more q) gs G.grouped n number grade ready whole_gains })

    pub held_put : {more : List (ℕ × List ℕ)} {x : Prepared} {b at len : ℕ} → p.prepared ≡ Some x → more ≡ with_row rows q.heads number (n ∷ []) b at len → x.block ≡ b → x.at ≡ at → x.len ≡ len → Added more
    held_put {more} {x} {b} {at} {len} is told block first long = rw (told, ← block, ← first, ← long, same_Some x ready.0 (sym is ∙ ready.1)) added

  -- a group is closed
  pub held_closed : {r q : Known} {n : ℕ} → NoneHolds (group_close_order gs n) → IsGroupNumber gs n → SealsIfOpen p n r → SealsIfOpen r (n + 1) q
      → ClosesGroup (with_groups P gs) n (with_groups (whole_known rows q) (with_closed gs n)) × IsHeldWhole rows q (with_closed gs n)
  held_closed {r} {q} {n} clear found begin end =
      let k = begun_known rows p G.whole r n begin in
      let l = begun_known rows r k.1 q (n + 1) end in
      let closed = closes_group P (whole_known rows r) (whole_known rows q) gs G.grouped n clear found k.0 l.0 in
      (closed.0, record { whole = l.1; grouped = closed.1 })
