-- An accepted call has one reply and one new state.
use Rattle.std.proofs.Common.{◌≡◌, ℕ, ◌+◌, true, false, List, [], ◌∷◌, ◌++◌, length, map, Option, Some, None, refl, sym, ap, subst, ◌∙◌, inl, inr, arith}
use Rattle.std.specs.Prelude.{slice_set}
use Rattle.fst_types.specs.declared.grade.Grade.{Grade}
use Rattle.fst_types.specs.Patches.{Empty, OpenGate, Patch}
use Rattle.fst_types.specs.State.{State, flight_of, with_flight}
use Rattle.fst_types.specs.Cascade.{IsCascadeOf}
use Rattle.fst_types.specs.Bytes.{image_of}
use Rattle.fst_types.specs.Flights.{IsOut}
use Rattle.fst_types.specs.Groups.{Group, IsGroup}
use Rattle.fst_types.specs.Facts.{HeadsAreLawful, IsLawful}
use Rattle.fst_types.specs.Making.{fresh, GateIsMade, ChangeIsMade, MakesEmpty, MakesChange, MakesGate}
use Rattle.fst_types.specs.Gating.{GateGains, GateIsSealed, Depends, Seals, gains, sealed}
use Rattle.fst_types.specs.Grouping.{GateIsSealedIfOpen, with_new, put_after, with_member, with_closed, MakesGroup, PutsAfter, MakesMember, ClosesGroup}
use Rattle.fst_types.specs.Writing.{Issues, Lands, Stalls, Loses, Retries, launched, landed}
use Rattle.fst_types.specs.Looks.{IsPick, IsStalledPick}
use Rattle.fst_types.specs.Events.{Event, MakeEmpty, Reply, MadeChange, Made, Job, Forgot, Chosen, Block}
use Rattle.fst_types.specs.Step.{Row, change, empty, gate, depend, seal, issue, land, stall, lose, retry, evict, forget, choose, pick, show, ask_place, ask_flight, ask_stalled, ask_stat, GroupRow, group_new, group_after, group_patch, group_close, group}
use Rattle.fst_types.specs.Laws.{RowsAreFixed}
use Rattle.fst_types.proofs.Moves.{flight_out, same_some}
use Rattle.fst_types.proofs.Whole.{whole_issue, whole_forget}
use Rattle.fst_types.proofs.Heads.{heads_row}
use Rattle.fst_types.proofs.Sealing.{heads_sealed, sparse_sealed}
use Rattle.fst_types.proofs.Landing.{sparse_landed}
use Rattle.fst_types.proofs.Apart.{same_group}
use Rattle.fst_types.proofs.OneList.{lists_same, cascade_same}
use Rattle.fst_types.proofs.OneChange.{changes_fixed}
use Rattle.fst_types.proofs.Loosened.{loosened}

-- the rows that change patches; a row of the heads fixes them
seals_fixed : (heads later also : List Patch) (numbers g : ℕ) → HeadsAreLawful heads numbers → GateIsSealed heads g later → GateIsSealed heads g also → later ≡ also
seals_fixed heads later also numbers g H m k =
    cascade_same (map (sealed g) heads) later also numbers m.cascade k.cascade (sparse_sealed heads later numbers g (loosened H) m.gate m.cascade) (sparse_sealed heads also numbers g (loosened H) k.gate k.cascade)

gains_fixed : (heads later also : List Patch) (g : ℕ) (on : List ℕ) → GateGains heads g on later → GateGains heads g on also → later ≡ also
gains_fixed heads later also g on m k = m.gained ∙ (ap (λ xs. map (gains g xs) heads) (lists_same _ _ m.names k.names m.live k.live (λ x h. h) (λ x h. h)) ∙ sym k.gained)

seals_same : (old new other : State) (g : ℕ) → HeadsAreLawful old.heads old.numbers → Seals old g new → Seals old g other → new ≡ other
seals_same old new other g H m k = m.state ∙ (ap (λ h. record old { heads = h }) (seals_fixed old.heads new.heads other.heads old.numbers g H m.row k.row) ∙ sym k.state)

lands_same : (old new other : State) (t b : ℕ) (image : List ℕ) → HeadsAreLawful old.heads old.numbers → Lands old t b image new → Lands old t b image other → new ≡ other
lands_same old new other t b image H m k =
    let same = cascade_same (map (landed b) old.heads) new.heads other.heads old.numbers m.row k.row (sparse_landed old.heads new.heads old.numbers b (loosened H) m.row) (sparse_landed old.heads other.heads old.numbers b (loosened H) k.row) in
    m.state ∙ (ap (λ h. record old { heads = h; blocks = slice_set old.blocks b (record { committed = image; flight = None }) }) same ∙ sym k.state)

empties_same : (old new other : State) (after : List ℕ) (number also : ℕ) → HeadsAreLawful old.heads old.numbers → MakesEmpty old after number new → MakesEmpty old after also other → (number ≡ also) × (new ≡ other)
empties_same old new other after number also H m k =
    let n : number ≡ also = m.row.next ∙ sym k.row.next in
    let ds = lists_same _ _ m.row.dependencies k.row.dependencies m.row.depends k.row.depends (λ x h. h) (λ x h. h) in
    let HA = subst (HeadsAreLawful new.heads) (ap (λ s. s.numbers) m.state) (heads_row old new (MakeEmpty 0 after) (Made number) (empty m) H) in
    let HB = subst (HeadsAreLawful other.heads) (ap (λ s. s.numbers) k.state ∙ sym n) (heads_row old other (MakeEmpty 0 after) (Made also) (empty k) H) in
    let cb = subst (λ x. IsCascadeOf (old.heads ++ fresh x Empty m.row.dependencies ∷ []) other.heads) (sym n) (subst (λ xs. IsCascadeOf (old.heads ++ fresh also Empty xs ∷ []) other.heads) (sym ds) k.row.cascade) in
    let same = cascade_same (old.heads ++ fresh number Empty m.row.dependencies ∷ []) new.heads other.heads number m.row.cascade cb (loosened HA) (loosened HB) in
    (n, m.state ∙ (ap (λ h. record old { numbers = number; made = old.made + 1; heads = h }) same ∙ (ap (λ x. record old { numbers = x; made = old.made + 1; heads = other.heads }) n ∙ sym k.state)))

depends_same : (old new other : State) (g : ℕ) (on : List ℕ) → Depends old g on new → Depends old g on other → new ≡ other
depends_same old new other g on m k = m.state ∙ (ap (λ h. record old { heads = h }) (gains_fixed old.heads new.heads other.heads g on m.row k.row) ∙ sym k.state)

changes_same : (old new other : State) (b at : ℕ) (bytes after : List ℕ) (number also : ℕ) (g h : Grade) → HeadsAreLawful old.heads old.numbers
    → MakesChange old b at bytes after number g new → MakesChange old b at bytes after also h other → (MadeChange number g ≡ MadeChange also h) × (new ≡ other)
changes_same old new other b at bytes after number also g h H m k =
    let f = changes_fixed old.heads new.heads other.heads old.numbers b at (length bytes) after number also g h H m.row k.row in
    let n = m.row.next ∙ sym k.row.next in (
      f.0,
      m.state ∙ (ap (λ hs. record old { numbers = number; made = old.made + 1; heads = hs; contents = old.contents ++ (number, bytes) ∷ [] }) f.1
          ∙ (ap (λ x. record old { numbers = x; made = old.made + 1; heads = other.heads; contents = old.contents ++ (x, bytes) ∷ [] }) n ∙ sym k.state)),
    )

issues_same : (old new other : State) (b t u : ℕ) (image copy : List ℕ) → Issues old b t image new → Issues old b u copy other → (Job t b image ≡ Job u b copy) × (new ≡ other)
issues_same old new other b t u image copy m k =
    let n : t ≡ u = m.next ∙ sym k.next in
    let same = lists_same _ _ m.chosen k.chosen m.choice k.choice (λ x h. h) (λ x h. h) in
    let i : image ≡ copy = m.folded ∙ (ap (image_of old b) same ∙ sym k.folded) in (
      ap (λ x. Job x b image) n ∙ ap (λ x. Job u b x) i,
      whole_issue old new b t image m
          ∙ (ap (λ xs. record old { tickets = t; heads = map (launched xs) old.heads; blocks = with_flight old b (Some (record { ticket = t; image = image; stalled = false; failed = 0 })) }) same
          ∙ (ap (λ x. record old { tickets = x; heads = map (launched k.chosen) old.heads; blocks = with_flight old b (Some (record { ticket = x; image = image; stalled = false; failed = 0 })) }) n
          ∙ (ap (λ x. record old { tickets = u; heads = map (launched k.chosen) old.heads; blocks = with_flight old b (Some (record { ticket = u; image = x; stalled = false; failed = 0 })) }) i
          ∙ sym (whole_issue old other b u copy k)))),
    )

retries_same : (old new other : State) (b t u : ℕ) (image copy : List ℕ) → Retries old b t image new → Retries old b u copy other → (Job t b image ≡ Job u b copy) × (new ≡ other)
retries_same old new other b t u image copy m k =
    let n : t ≡ u = m.next ∙ sym k.next in
    let f = same_some (flight_of old b) (record { ticket = m.last; image = image; stalled = true; failed = m.failed }) (record { ticket = k.last; image = copy; stalled = true; failed = k.failed }) m.same_image k.same_image in
    let i : image ≡ copy = ap (λ x. x.image) f in
    let c : m.failed ≡ k.failed = ap (λ x. x.failed) f in (
      ap (λ x. Job x b image) n ∙ ap (λ x. Job u b x) i,
      m.state
          ∙ (ap (λ x. record old { tickets = x; blocks = with_flight old b (Some (flight_out x image m.failed)) }) n
          ∙ (ap (λ x. record old { tickets = u; blocks = with_flight old b (Some (flight_out u x m.failed)) }) i
          ∙ (ap (λ x. record old { tickets = u; blocks = with_flight old b (Some (flight_out u copy x)) }) c
          ∙ sym k.state))),
    )

-- a write that is out has one count of failed tries
failed_same : (s : State) (t b : ℕ) (image : List ℕ) (a c : IsOut s t b image) → a.failed ≡ c.failed
failed_same s t b image a c = ap (λ f. f.failed) (same_some (flight_of s b) (flight_out t image a.failed) (flight_out t image c.failed) a.flight c.flight)

stalls_same : (old new other : State) (t b : ℕ) (image : List ℕ) → Stalls old t b image new → Stalls old t b image other → new ≡ other
stalls_same old new other t b image m k =
    m.state
    ∙ (ap (λ n. record old { blocks = with_flight old b (Some (record { ticket = t; image = image; stalled = true; failed = n + 1 })) }) (failed_same old t b image m.out k.out)
    ∙ sym k.state)

-- a failed try is not the last one and an earlier one
not_both : (old new other : State) (t b : ℕ) (image : List ℕ) → Stalls old t b image new → Loses old t b image other → ⊥
not_both old new other t b image m k = let e = failed_same old t b image m.out k.out in let a = m.early in let c = k.last in omega (arith, e, a, c)

pick_same : (heads : List Patch) (b c : Option ℕ) → IsPick heads b → IsPick heads c → b ≡ c
pick_same heads None None p q = refl
pick_same heads None (Some c) p q = absurd (p c q.writable)
pick_same heads (Some b) None p q = absurd (q b p.writable)
pick_same heads (Some b) (Some c) p q = let x = p.least c q.writable in let y = q.least b p.writable in let e : b ≡ c = omega (arith, x, y) in ap Some e

stalled_same : (s : State) (b c : Option ℕ) → IsStalledPick s b → IsStalledPick s c → b ≡ c
stalled_same s None None p q = refl
stalled_same s None (Some c) p q = absurd (p c q.stalled)
stalled_same s (Some b) None p q = absurd (q b p.stalled)
stalled_same s (Some b) (Some c) p q = let x = p.least c q.stalled in let y = q.least b p.stalled in let e : b ≡ c = omega (arith, x, y) in ap Some e

gates_fixed : (heads later also : List Patch) (numbers n k : ℕ) → GateIsMade heads numbers n later → GateIsMade heads numbers k also → (n ≡ k) × (later ≡ also)
gates_fixed heads later also numbers n k a b =
    let same = a.next ∙ sym b.next in
    (same, a.added ∙ (ap (λ x. heads ++ fresh x OpenGate [] ∷ []) same ∙ sym b.added))

gates_same : (old new other : State) (number also : ℕ) → MakesGate old number new → MakesGate old also other → (number ≡ also) × (new ≡ other)
gates_same old new other number also m k =
    let f = gates_fixed old.heads new.heads other.heads old.numbers number also m.row k.row in
    (f.0, m.state ∙ (ap (λ x. record old { numbers = x; made = old.made + 1; heads = new.heads }) f.0 ∙ (ap (λ hs. record old { numbers = also; made = old.made + 1; heads = hs }) f.1 ∙ sym k.state)))

-- the calls of groups, part by part
groups_same : (old new other : State) (number also : ℕ) → MakesGroup old number new → MakesGroup old also other → (number ≡ also) × (new ≡ other)
groups_same old new other number also m k =
    let a = gates_fixed old.heads m.row.with_head k.row.with_head old.numbers number also m.row.head k.row.head in
    let other_tail = subst (λ hs. GateIsMade hs number (also + 1) k.row.with_tail) (sym a.1) (subst (λ n. GateIsMade k.row.with_head n (also + 1) k.row.with_tail) (sym a.0) k.row.tail) in
    let b = gates_fixed m.row.with_head m.row.with_tail k.row.with_tail number (number + 1) (also + 1) m.row.tail other_tail in
    let tie = subst (λ hs. GateGains hs (number + 1) (number ∷ []) other.heads) (sym b.1) (subst (λ n. GateGains k.row.with_tail (n + 1) (n ∷ []) other.heads) (sym a.0) k.row.tie) in
    let c = gains_fixed m.row.with_tail new.heads other.heads (number + 1) (number ∷ []) m.row.tie tie in (
      a.0,
      m.state ∙ (ap (λ hs. record old { numbers = number + 1; made = old.made + 2; heads = hs; groups = with_new old.groups number }) c
          ∙ (ap (λ n. record old { numbers = n + 1; made = old.made + 2; heads = other.heads; groups = with_new old.groups n }) a.0 ∙ sym k.state)),
    )

one_group : (s : State) → IsLawful s → (n : ℕ) (g h : Group) → IsGroup s.groups n g → IsGroup s.groups n h → g ≡ h
one_group s L n g h a b = same_group s.groups L.groups.apart (λ x i. (L.groups.each x i).tail_follows) g h a.0 b.0 (a.1 ∙ sym b.1)

afters_same : (old new other : State) (n j : ℕ) → IsLawful old → PutsAfter old n j new → PutsAfter old n j other → new ≡ other
afters_same old new other n j L m k =
    let g = one_group old L j m.row.before k.row.before m.row.named k.row.named in
    let tie = subst (λ x. GateGains old.heads n (x.tail ∷ []) other.heads) (sym g) k.row.tie in
    m.state ∙ (ap (λ hs. record old { heads = hs; groups = put_after old.groups n j }) (gains_fixed old.heads new.heads other.heads n (m.row.before.tail ∷ []) m.row.tie tie) ∙ sym k.state)

begins_fixed : (heads later also : List Patch) (numbers g : ℕ) → HeadsAreLawful heads numbers → GateIsSealedIfOpen heads g later → GateIsSealedIfOpen heads g also → later ≡ also
begins_fixed heads later also numbers g H (inl m) (inl k) = seals_fixed heads later also numbers g H m k
begins_fixed heads later also numbers g H (inl m) (inr s) = absurd (s.0 m.gate)
begins_fixed heads later also numbers g H (inr s) (inl k) = absurd (s.0 k.gate)
begins_fixed heads later also numbers g H (inr s) (inr t) = s.1 ∙ sym t.1

begun_lawful : (heads later : List Patch) (numbers g : ℕ) → HeadsAreLawful heads numbers → GateIsSealedIfOpen heads g later → HeadsAreLawful later numbers
begun_lawful heads later numbers g H (inl m) = heads_sealed heads later numbers g H m.gate m.cascade
begun_lawful heads later numbers g H (inr s) = subst (λ hs. HeadsAreLawful hs numbers) (sym s.1) H

members_same : (old new other : State) (n b at : ℕ) (bytes : List ℕ) (number also : ℕ) (g h : Grade) → IsLawful old
    → MakesMember old n b at bytes number g new → MakesMember old n b at bytes also h other → (MadeChange number g ≡ MadeChange also h) × (new ≡ other)
members_same old new other n b at bytes number also g h L m k = (
  made.0,
  m.state ∙ (ap (λ hs. now number hs) tied ∙ (ap (λ x. now x other.heads) numbers ∙ sym k.state)),
)
  where
    now : ℕ → List Patch → State
    now x hs = record old { numbers = x; made = old.made + 1; heads = hs; contents = old.contents ++ (x, bytes) ∷ []; groups = with_member old.groups n x }

    begun : m.row.begun ≡ k.row.begun
    begun = begins_fixed old.heads m.row.begun k.row.begun old.numbers n L.heads m.row.begin k.row.begin

    numbers : number ≡ also
    numbers = m.row.change.next ∙ sym k.row.change.next

    made : (MadeChange number g ≡ MadeChange also h) × (m.row.with_change ≡ k.row.with_change)
    made =
        changes_fixed m.row.begun m.row.with_change k.row.with_change old.numbers b at (length bytes) (n ∷ []) number also g h (begun_lawful old.heads m.row.begun old.numbers n L.heads m.row.begin) m.row.change
        (subst (λ hs. ChangeIsMade hs old.numbers b at (length bytes) (n ∷ []) also h k.row.with_change) (sym begun) k.row.change)

    group : m.group ≡ k.group
    group = one_group old L n m.group k.group m.named k.named

    tied : new.heads ≡ other.heads
    tied =
        gains_fixed m.row.with_change new.heads other.heads m.group.tail (number ∷ []) m.row.tie
        (subst (λ hs. GateGains hs m.group.tail (number ∷ []) other.heads) (sym made.1)
        (subst (λ x. GateGains k.row.with_change x.tail (number ∷ []) other.heads) (sym group) (subst (λ y. GateGains k.row.with_change k.group.tail (y ∷ []) other.heads) (sym numbers) k.row.tie)))

closes_same : (old new other : State) (n : ℕ) → IsLawful old → ClosesGroup old n new → ClosesGroup old n other → new ≡ other
closes_same old new other n L m k =
    let begun = begins_fixed old.heads m.row.begun k.row.begun old.numbers n L.heads m.row.begin k.row.begin in
    let group = one_group old L n m.group k.group m.named k.named in
    let end = subst (λ hs. GateIsSealed hs m.group.tail other.heads) (sym begun) (subst (λ x. GateIsSealed k.row.begun x.tail other.heads) (sym group) k.row.end) in
    let ended = seals_fixed m.row.begun new.heads other.heads old.numbers m.group.tail (begun_lawful old.heads m.row.begun old.numbers n L.heads m.row.begin) m.row.end end in
    m.state ∙ (ap (λ hs. record old { heads = hs; groups = with_closed old.groups n }) ended ∙ sym k.state)

-- a call of a group has no row but a group's
group_row_same : (old new other : State) (e : Event) (r q : Reply) → IsLawful old → GroupRow old e r new → Row old e q other → (r ≡ q) × (new ≡ other)
group_row_same old new other e r q L (group_new m) (group (group_new k)) = let s = groups_same old new other _ _ m k in (ap Made s.0, s.1)
group_row_same old new other e r q L (group_after m) (group (group_after k)) = (refl, afters_same old new other _ _ L m k)
group_row_same old new other e r q L (group_patch m) (group (group_patch k)) = members_same old new other _ _ _ _ _ _ _ _ L m k
group_row_same old new other e r q L (group_close m) (group (group_close k)) = (refl, closes_same old new other _ L m k)

pub rows_are_fixed : RowsAreFixed
rows_are_fixed old new other e r q L (group m) row = group_row_same old new other e r q L m row
rows_are_fixed old new other e r q L row (group k) = let s = group_row_same old other new e q r L k row in (sym s.0, sym s.1)
rows_are_fixed old new other e r q L (change m) (change k) = changes_same old new other _ _ _ _ _ _ _ _ L.heads m k
rows_are_fixed old new other e r q L (empty m) (empty k) = let s = empties_same old new other _ _ _ L.heads m k in (ap Made s.0, s.1)
rows_are_fixed old new other e r q L (gate m) (gate k) = let s = gates_same old new other _ _ m k in (ap Made s.0, s.1)
rows_are_fixed old new other e r q L (depend m) (depend k) = (refl, depends_same old new other _ _ m k)
rows_are_fixed old new other e r q L (seal m) (seal k) = (refl, seals_same old new other _ L.heads m k)
rows_are_fixed old new other e r q L (issue m) (issue k) = issues_same old new other _ _ _ _ _ m k
rows_are_fixed old new other e r q L (land m) (land k) = (refl, lands_same old new other _ _ _ L.heads m k)
rows_are_fixed old new other e r q L (stall m) (stall k) = (refl, stalls_same old new other _ _ _ m k)
rows_are_fixed old new other e r q L (stall m) (lose k) = absurd (not_both old new other _ _ _ m k)
rows_are_fixed old new other e r q L (lose m) (stall k) = absurd (not_both old other new _ _ _ k m)
rows_are_fixed old new other e r q L (lose m) (lose k) = (refl, m.state ∙ sym k.state)
rows_are_fixed old new other e r q L (retry m) (retry k) = retries_same old new other _ _ _ _ _ m k
rows_are_fixed old new other e r q L evict evict = (refl, refl)
rows_are_fixed old new other e r q L (forget m) (forget k) = (ap Forgot (m.row.counted ∙ sym k.row.counted), whole_forget old new _ m ∙ sym (whole_forget old other _ k))
rows_are_fixed old new other e r q L (choose m) (choose k) = (ap Chosen (lists_same _ _ _ _ m k (λ x h. h) (λ x h. h)), refl)
rows_are_fixed old new other e r q L (pick m) (pick k) = (ap Block (pick_same old.heads _ _ m k), refl)
rows_are_fixed old new other e r q L show show = (refl, refl)
rows_are_fixed old new other e r q L ask_place ask_place = (refl, refl)
rows_are_fixed old new other e r q L ask_flight ask_flight = (refl, refl)
rows_are_fixed old new other e r q L (ask_stalled m) (ask_stalled k) = (ap Block (stalled_same old _ _ m k), refl)
rows_are_fixed old new other e r q L ask_stat ask_stat = (refl, refl)
