-- What the calls of groups make, of what the calls of the patches make.
use Rattle.std.proofs.Common.{◌≡◌, ◌+◌, ◌<◌, ◌≤◌, ℕ, false, List, [], ◌∷◌, length, get_or, All, Contains, Some, None, refl, sym, ap, subst, ◌∙◌, inl, inr, arith}
use Rattle.std.specs.Prelude.{IfSome}
use Rattle.std.proofs.lemmas.{Bool.cases_Bool, List.length-replicate}
use Rattle.fst_types.specs.{Dependencies.DependsOn, Events.{GroupNew, GroupAfter, GroupPatch, GroupClose}, Facts.IsTied, Gates.IsOpenNumber, Gating.{GateGains, GateIsSealed}}
use Rattle.fst_types.specs.Grouping.{GroupIsPutAfter, MemberIsMade, GroupIsClosed, with_new, put_after, with_member, with_closed, MakesGroup, MakesMember, ClosesGroup as ClosesStateGroup}
use Rattle.fst_types.specs.{Groups.{Group, IsGroup, IsGroupNumber}, Limits.max_groups, Order.{depend_order, group_after_order, group_patch_order, group_close_order}, Patches.Patch}
use Rattle.fst_types.specs.{Refusals.{IsFirst, NoneHolds}, Step.{group, group_new, group_after, group_patch, group_close}, declared.fault.Fault.Fault, declared.grade.Grade.Grade}
use Rattle.fst_graph.specs.Grouping.{unstarted_order, AddsPair, AddsGroup, PutsAfter, AddsMember, ForeseesMember, ClosesGroup, SealsIfOpen}
use Rattle.fst_graph.specs.{Known.{Known, Prepared, unprepared, with_groups, Refuses, DependsGate}, Membering.{ArePaired, GainsMember, Foretells, member_order}, Whole.{IsGrouped, IsUnclosed}}
use Rattle.fst_types.proofs.{Apart.tail_no_head, GroupsClear.close_clear, Loosened.loosened, Parts.{SealsIfOpen as SealsStateIfOpen, seals_if_open}, SmallStates.only_in}
use Rattle.fst_heads.proofs.Indices.{any_default}
use Rattle.fst_graph.proofs.{GateIndex.open_not_sealed, Grouped.{by_group, state_at, some_bytes}}

empty_or_not : (xs : List ℕ) → (((m : ℕ) × Contains xs m) → ⊥) → xs ≡ []
empty_or_not [] none = refl
empty_or_not (x ∷ xs) none = absurd (none (x, (0, omega arith, refl)))

-- the first rules of a group that is put after another decide before its cycle
pub first_unstarted : (heads : List Patch) (gs : List Group) (n m : ℕ) (f : Fault) → IsFirst (unstarted_order gs n m) f → IsFirst (group_after_order heads gs n m) f
first_unstarted heads gs n m f first = elim first [
  | inl a ↦ inl a
  | inr a ↦ inr (a.0, elim a.1 [ inl b ↦ inl b | inr b ↦ inr (b.0, elim b.1 [ inl c ↦ inl c | inr c ↦ absurd c.1 ]) ])
]

-- a head that is sealed if it is open, beside groups
begun_if : (p q : Known) (gs : List Group) (g : ℕ) → SealsIfOpen p g q → SealsStateIfOpen (state_at p gs 0 []) g (state_at q gs 0 [])
begun_if p q gs g s = subst (λ n. SealsStateIfOpen (state_at p gs 0 []) g (record (state_at q gs 0 []) { numbers = n })) (ap (λ k. k.numbers) (sym s.state)) (seals_if_open (state_at p gs 0 []) g q.heads s.row)

module _ (p q : Known) (gs : List Group) (G : IsGrouped p gs) where
  follows : (g : Group) → Contains gs g → g.tail ≡ g.head + 1
  follows g c = (G.grouped.each g c).tail_follows

  -- the number of a tail is that after its group's
  tail_is : (m : ℕ) (g : Group) → IsGroup gs m g → g.tail ≡ m + 1
  tail_is m g named = let f = follows g named.0 in let h = named.1 in omega (arith, f, h)

  -- a new group
  module _ (n : ℕ) (a : AddsPair p n q) (few : max_groups ≤ length gs → ⊥) where
    pub new_group : AddsGroup (with_groups p gs) n (with_groups q (with_new gs n)) × IsGrouped q (with_new gs n)
    new_group =
        let made : MakesGroup (state_at p gs 0 []) n (state_at q (with_new gs n) 2 []) = record { row = a.row; state = ap (λ k. state_at k (with_new gs n) 2 []) a.state } in
        (record { clear = (few, a.clear); row = a.row; state = ap (λ k. with_groups k (with_new gs n)) a.state }, by_group p q gs G (with_new gs n) 2 [] (GroupNew 0) _ (ap (λ k. k.prepared) a.state) few (group (group_new made)))

    -- its number is past all tails
    pub past_tails : All (λ g. g.tail < n) gs
    past_tails k d lt = let small = (G.grouped.each (get_or gs k d) (k, lt, any_default gs k (get_or gs k d) d lt)).given.1 in let next = a.row.head.next in omega (arith, small, next)

  -- a group that is put after another
  module _ (n m : ℕ) (u : NoneHolds (unstarted_order gs n m)) (found : IsGroupNumber gs n) (other : IsGroupNumber gs m) where
    head_gate : IsOpenNumber p.heads n
    head_gate =
        let g = found.0 in
        let unclosed : g.closed ≡ false = elim (cases_Bool g.closed) [ inl e ↦ absurd (u.1.0 (g, found.1, e)) | inr e ↦ e ] in
        subst (IsOpenNumber p.heads) found.1.1 ((G.grouped.each g found.1.0).head_open.1 (record { empty = empty_or_not g.members (λ x. u.1.1.0 (g, found.1, x.0, x.1)); unclosed = unclosed }))

    -- what the gate gains is the row
    puts_row : DependsGate p n ((m + 1) ∷ []) q → GroupIsPutAfter p.heads gs n m q.heads
    puts_row d = record { before = other.0; named = other.1; tie = subst (λ t. GateGains p.heads n (t ∷ []) q.heads) (sym (tail_is m other.0 other.1)) d.row }

    pub puts_after : DependsGate p n ((m + 1) ∷ []) q → PutsAfter (with_groups p gs) n m (with_groups q (put_after gs n m)) × IsGrouped q (put_after gs n m)
    puts_after d =
        let added : PutsAfter (with_groups p gs) n m (with_groups q (put_after gs n m)) = record {
          clear = (u.0, (u.1.0, (u.1.1.0, (λ r. d.row.clear (m + 1, (0, omega arith, refl), inr (subst (λ t. DependsOn p.heads t n) (tail_is m r.0 r.1) r.2)), tt))));
          row = puts_row d;
          state = rw (d.numbers, d.blocks, d.prepared) refl;
        } in
        (added, by_group p q gs G (put_after gs n m) 0 [] (GroupAfter n m) _ d.prepared tt (group (group_after (record { row = puts_row d; state = rw d.numbers refl }))))

    -- a cycle is all that can be refused past the first rules
    cycle_first : (f : Fault) → IsFirst (depend_order p.heads p.numbers n ((m + 1) ∷ [])) f → IsFirst (group_after_order p.heads gs n m) f
    cycle_first f (inl a) = let small = G.lawful.one_place_each.numbered head_gate.patch head_gate.head in let here = head_gate.numbered in absurd (a.0 (omega (arith, small, here), omega (arith, small, here)))
    cycle_first f (inr (a, inl b)) = absurd (b.0 (inl head_gate))
    cycle_first f (inr (a, inr (b, inl c))) = absurd (open_not_sealed p.heads p.numbers n (loosened G.lawful) head_gate c.0)
    cycle_first f (inr (a, inr (b, inr (c, inl d)))) = let many = d.0 in absurd (omega (arith, many))
    cycle_first f (inr (a, inr (b, inr (c, inr (d, inl e))))) =
        let tail = (G.grouped.each other.0 other.1.0).given.1 in
        let next = tail_is m other.0 other.1 in
        let k = sym (only_in (m + 1) e.0.0 e.0.1) in absurd (e.0.2 (omega (arith, k), omega (arith, k, tail, next)))
    cycle_first f (inr (a, inr (b, inr (c, inr (d, inr (e, inl ((x, named, inl same), h))))))) =
        absurd (tail_no_head gs G.grouped.apart follows other.0 found.0 other.1.0 found.1.0 (tail_is m other.0 other.1 ∙ (only_in (m + 1) x named ∙ (same ∙ sym found.1.1))))
    cycle_first f (inr (a, inr (b, inr (c, inr (d, inr (e, inl ((x, named, inr above), h))))))) =
        inr (u.0, inr (u.1.0, inr (u.1.1.0, inl ((other.0, other.1, subst (λ t. DependsOn p.heads t n) (sym (only_in (m + 1) x named) ∙ sym (tail_is m other.0 other.1)) above), h))))
    cycle_first f (inr (a, inr (b, inr (c, inr (d, inr (e, inr h)))))) = absurd h.1

    pub after_refused : (f : Fault) → Refuses (depend_order p.heads p.numbers n ((m + 1) ∷ [])) f → Refuses (group_after_order p.heads gs n m) f
    after_refused f refuses = elim refuses [
      | inl first ↦ inl (cycle_first f first)
      | inr memory ↦ inr ((u.0, (u.1.0, (u.1.1.0, (λ r. memory.0.1.1.1.1.1.0 (m + 1, (0, omega arith, refl), inr (subst (λ t. DependsOn p.heads t n) (tail_is m r.0 r.1) r.2)), tt)))), memory.1)
    ]

-- a group that gets a change
pub member_clear : (heads : List Patch) (numbers : ℕ) (gs : List Group) (n b at len : ℕ) (same : (g : Group) → IsGroup gs n g → g.tail ≡ n + 1) → NoneHolds (group_close_order gs n)
    → NoneHolds (member_order heads numbers (n + 1) b at len) → NoneHolds (group_patch_order heads numbers gs n b at len)
member_clear heads numbers gs n b at len same none m = (none.0, (none.1.0, (λ x. m.0 (x.2, x.3, subst (DependsOn heads x.2) (same x.0 x.1) x.4), m.1)))

clear_member : (heads : List Patch) (numbers : ℕ) (gs : List Group) (n b at len : ℕ) (g : Group) → IsGroup gs n g → g.tail ≡ n + 1
    → NoneHolds (group_patch_order heads numbers gs n b at len) → NoneHolds (member_order heads numbers (n + 1) b at len)
clear_member heads numbers gs n b at len g named same none = (λ x. none.1.1.0 (g, named, x.0, x.1, subst (DependsOn heads x.0) (sym same) x.2), none.1.1.1)

pub first_closed : (heads : List Patch) (numbers : ℕ) (gs : List Group) (n b at len : ℕ) (f : Fault) → IsFirst (group_close_order gs n) f → IsFirst (group_patch_order heads numbers gs n b at len) f
first_closed heads numbers gs n b at len f first = elim first [ inl a ↦ inl a | inr a ↦ inr (a.0, elim a.1 [ inl c ↦ inl c | inr c ↦ absurd c.1 ]) ]

pub member_refused : (heads : List Patch) (numbers : ℕ) (gs : List Group) (n b at len : ℕ) (f : Fault) (same : (g : Group) → IsGroup gs n g → g.tail ≡ n + 1) → IsUnclosed gs n
    → Refuses (member_order heads numbers (n + 1) b at len) f → Refuses (group_patch_order heads numbers gs n b at len) f
member_refused heads numbers gs n b at len f same u refuses = elim refuses [
  | inl first ↦ inl (inr (
    u.clear.0,
    inr (
      u.clear.1.0,
      elim first [
        | inl o ↦ inl ((u.found.0, u.found.1, o.0.0, o.0.1, subst (DependsOn heads o.0.0) (sym (same u.found.0 u.found.1)) o.0.2), o.1)
        | inr o ↦ inr (λ x. o.0 (x.2, x.3, subst (DependsOn heads x.2) (same x.0 x.1) x.4), o.1)
      ],
    ),
  ))
  | inr memory ↦ inr (member_clear heads numbers gs n b at len same u.clear memory.0, memory.1)
]

module _ (p : Known) (gs : List Group) (G : IsGrouped p gs) (n : ℕ) (u : IsUnclosed gs n) where
  pub tail_after : (g : Group) → IsGroup gs n g → g.tail ≡ n + 1
  tail_after g named = tail_is p p gs G n g named

  pub pairs : ArePaired p.heads p.numbers n (n + 1)
  pairs =
      let g = u.found.0 in
      let named = u.found.1 in
      let L = G.grouped.each g named.0 in
      let next = tail_after g named in
      let unclosed : g.closed ≡ false = elim (cases_Bool g.closed) [ inl e ↦ absurd (u.clear.1.0 (g, named, e)) | inr e ↦ e ] in
      let small = L.given in
      let here = named.1 in
      record {
        given = (omega (arith, small.0, here), omega (arith, small.1, next));
        tail_open = subst (IsOpenNumber p.heads) next (L.tail_open.1 unclosed);
        tied = subst (λ t. IsTied p.heads t n) next (subst (IsTied p.heads g.tail) here L.tail_after_head);
        follows = refl;
      }

  -- what the patches foretell holds of the group's change too
  pub foretold : (b at len number : ℕ) (grade : Grade) → Foretells (unprepared p) n (n + 1) b at len number grade → ForeseesMember (unprepared (with_groups p gs)) n b at len number grade
  foretold b at len number grade tells k g new a =
      let same = tail_after a.group a.named in
      tells k g (record p { heads = new.heads; numbers = k; prepared = None }) (record {
        clear = clear_member p.heads p.numbers gs n b at len a.group a.named same a.clear;
        row = subst (λ t. MemberIsMade p.heads p.numbers n t b at len k g new.heads) same a.row;
        state = refl;
      })

  module _ (q : Known) (b at len number : ℕ) (grade : Grade) (m : GainsMember (unprepared p) n (n + 1) b at len number grade q) where
    -- the row, by the group's own tail
    member_row : MemberIsMade p.heads p.numbers n u.found.0.tail b at len number grade q.heads
    member_row = subst (λ t. MemberIsMade p.heads p.numbers n t b at len number grade q.heads) (sym (tail_after u.found.0 u.found.1)) m.row

    pub adds_member : AddsMember (unprepared (with_groups p gs)) n b at len number grade (with_groups q (with_member gs n number))
    adds_member = record {
      clear = member_clear p.heads p.numbers gs n b at len tail_after u.clear m.clear;
      group = u.found.0;
      named = u.found.1;
      row = member_row;
      state = ap (λ k. with_groups k (with_member gs n number)) m.state;
    }

    pub grouped_member : IsGrouped q (with_member gs n number)
    grouped_member =
        let contents = (number, some_bytes len) ∷ [] in
        let made : MakesMember (state_at p gs 0 []) n b at (some_bytes len) number grade (state_at q (with_member gs n number) 1 contents) = record {
          group = u.found.0;
          named = u.found.1;
          row = subst (λ k. MemberIsMade p.heads p.numbers n u.found.0.tail b at k number grade q.heads) (sym (length-replicate len 0)) member_row;
          state = ap (λ k. state_at k (with_member gs n number) 1 contents) m.state;
        } in
        by_group p q gs G (with_member gs n number) 1 contents (GroupPatch 0 n b at (some_bytes len) false) _ (ap (λ k. k.prepared) m.state) tt (group (group_patch made))

-- the change that is prepared for a group is put down
module _ (p q : Known) (gs : List Group) (G : IsGrouped p gs) (n number : ℕ) (grade : Grade) (ready : (x : Prepared) × (p.prepared ≡ Some x) × (x.group ≡ Some n))
    (gains : IfSome p.prepared (λ x. GainsMember (unprepared p) n (n + 1) x.block x.at x.len number grade q)) where
  open_group : IsUnclosed gs n
  open_group = subst (λ o. IfSome o (IsUnclosed gs)) ready.2 (subst (λ o. IfSome o (λ x. IfSome x.group (IsUnclosed gs))) ready.1 G.prepared)

  gained : GainsMember (unprepared p) n (n + 1) ready.0.block ready.0.at ready.0.len number grade q
  gained = subst (λ o. IfSome o (λ x. GainsMember (unprepared p) n (n + 1) x.block x.at x.len number grade q)) ready.1 gains

  pub put_grouped : IsGrouped q (with_member gs n number)
  put_grouped = grouped_member p gs G n open_group q ready.0.block ready.0.at ready.0.len number grade gained

  pub put_adds : IfSome p.prepared (λ x. AddsMember (unprepared (with_groups p gs)) n x.block x.at x.len number grade (with_groups q (with_member gs n number)))
  put_adds = rw ready.1 (adds_member p gs G n open_group q ready.0.block ready.0.at ready.0.len number grade gained)

-- a group that is closed
module _ (p r q : Known) (gs : List Group) (G : IsGrouped p gs) (n : ℕ) (none : NoneHolds (group_close_order gs n)) (found : IsGroupNumber gs n) (begin : SealsIfOpen p n r) (end : SealsIfOpen r (n + 1) q) where
  tail_next : found.0.tail ≡ n + 1
  tail_next = tail_is p r gs G n found.0 found.1

  tail_sealed : GateIsSealed r.heads found.0.tail q.heads
  tail_sealed =
      elim end.row [
        | inl a ↦ subst (λ t. GateIsSealed r.heads t q.heads) (sym tail_next) a
        | inr same ↦ absurd (same.0 (subst (IsOpenNumber r.heads) tail_next (close_clear (state_at p gs 0 []) G.lawful G.grouped n found.0 (state_at r gs 0 []) found.1 (begun_if p r gs n begin) none)))
      ]

  closed_row : GroupIsClosed p.heads n found.0.tail q.heads
  closed_row = record { begun = r.heads; begin = begin.row; end = tail_sealed }

  -- the patches but for the heads stay
  still : q ≡ record p { heads = q.heads; prepared = None }
  still = end.state ∙ ap (λ (k : Known). record k { heads = q.heads; prepared = None }) begin.state

  pub closes_group : ClosesGroup (with_groups p gs) n (with_groups q (with_closed gs n)) × IsGrouped q (with_closed gs n)
  closes_group =
      let closes : ClosesStateGroup (state_at p gs 0 []) n (state_at q (with_closed gs n) 0 []) = record {
        group = found.0;
        named = found.1;
        row = closed_row;
        state = ap (λ k. state_at k (with_closed gs n) 0 []) still;
      } in
      let added : ClosesGroup (with_groups p gs) n (with_groups q (with_closed gs n)) = record { clear = none; group = found.0; named = found.1; row = closed_row; state = ap (λ k. with_groups k (with_closed gs n)) still } in
      (added, by_group p q gs G (with_closed gs n) 0 [] (GroupClose n) _ (ap (λ k. k.prepared) still) tt (group (group_close closes)))
