-- Each call on a group keeps what holds of the groups.
use Rattle.std.proofs.Common.{◌≡◌, ◌⊎◌, ℕ, ◌+◌, ◌≤◌, true, false, List, [], ◌∷◌, ◌++◌, length, Contains, refl, sym, ap, subst, ◌∙◌, inl, inr, arith, length-append}
use Rattle.std.proofs.lemmas.Bool.{cases_lt}
use Rattle.std.proofs.lemmas.List.Elements.{Contains-push_cases}
use Rattle.fst_types.specs.declared.grade.Grade.{Grade}
use Rattle.fst_types.specs.Limits.{max_groups}
use Rattle.fst_types.specs.Patches.{Change, OpenGate, Patch, block_of_kind}
use Rattle.fst_types.specs.Gates.{IsOpenNumber}
use Rattle.fst_types.specs.Groups.{Group, with_group}
use Rattle.fst_types.specs.State.{State}
use Rattle.fst_types.specs.Making.{fresh}
use Rattle.fst_types.specs.Grouping.{new_group}
use Rattle.fst_types.specs.Facts.{IsTied, HeadsAreLawful, GroupIsLawful, GroupsAreLawful}
use Rattle.fst_types.proofs.Finite.{In-from_Contains, Contains-from_In, In-append_left, In-append_right}
use Rattle.fst_types.proofs.Numbers.{live_cases}
use Rattle.fst_types.proofs.Parts.{gates, changes, NewInParts, AfterInParts, MemberInParts, CloseInParts}
use Rattle.fst_types.proofs.Heads.{heads_part}
use Rattle.fst_types.proofs.Apart.{apart_from, from_apart, apart_more, same_group, same_tail, tail_no_head}
use Rattle.fst_types.proofs.Heirs.{NoneShut, Passes, passes_then}
use Rattle.fst_types.proofs.GroupsHeld.{gate_same, IsMemberNow, IsKin, kin_self, gates_same, held, held_same, with_cases, with_kin, with_apart, with_length, tied_by}
use Rattle.fst_types.proofs.Passing.{passes_gate, passes_change, passes_depend, passes_seal, Begins, begins}

pub none_in : {X : Type 0} (x : X) → Contains [] x → ⊥
none_in x c = omega (arith, c.1)

-- a new group
module _ (old : State) (number : ℕ) (new : State) (m : NewInParts old number new) (few : max_groups ≤ length old.groups → ⊥) (H : HeadsAreLawful old.heads old.numbers) (G : GroupsAreLawful old.heads old.numbers old.groups) where
  abbrev now_new : State
  now_new = record m.tied { groups = old.groups ++ new_group number ∷ [] }

  head_lawful : HeadsAreLawful m.with_head.heads m.with_head.numbers
  head_lawful = heads_part old 1 [] m.with_head (gates m.head) H

  tail_lawful : HeadsAreLawful m.with_tail.heads m.with_tail.numbers
  tail_lawful = heads_part m.with_head 1 [] m.with_tail (gates m.tail) head_lawful

  head_numbers : m.with_head.numbers ≡ number
  head_numbers = ap (λ s. s.numbers) m.head.state

  tail_numbers : m.with_tail.numbers ≡ number + 1
  tail_numbers = ap (λ s. s.numbers) m.tail.state

  tied_numbers : m.tied.numbers ≡ number + 1
  tied_numbers = ap (λ s. s.numbers) m.tie.state ∙ tail_numbers

  to_head : Passes NoneShut old.numbers old.heads m.with_head.heads
  to_head = passes_gate old number m.with_head m.head H

  to_tail : Passes NoneShut m.with_head.numbers m.with_head.heads m.with_tail.heads
  to_tail = passes_gate m.with_head (number + 1) m.with_tail m.tail head_lawful

  to_tied : Passes NoneShut m.with_tail.numbers m.with_tail.heads m.tied.heads
  to_tied = passes_depend m.with_tail (number + 1) (number ∷ []) m.tied m.tie tail_lawful

  abbrev ShutNew : ℕ → Type 0
  ShutNew n = (NoneShut n ⊎ NoneShut n) ⊎ NoneShut n

  none_shut : (n : ℕ) → ShutNew n → ⊥
  none_shut n s = elim s [ inl t ↦ elim t [ inl x ↦ x | inr x ↦ x ] | inr x ↦ x ]

  to_new : Passes ShutNew old.numbers old.heads m.tied.heads
  to_new =
      let next = m.head.row.next in
      passes_then (λ n. NoneShut n ⊎ NoneShut n) NoneShut old.numbers m.with_tail.numbers old.heads m.with_tail.heads m.tied.heads (omega (arith, next, tail_numbers))
      (passes_then NoneShut NoneShut old.numbers m.with_head.numbers old.heads m.with_head.heads m.with_tail.heads (omega (arith, next, head_numbers)) to_head to_tail) to_tied

  open_on : (old_numbers : ℕ) (before after : List Patch) → Passes NoneShut old_numbers before after → (n : ℕ) → IsOpenNumber before n → IsOpenNumber after n
  open_on old_numbers before after P n was = elim (P.opens n was) [ inl x ↦ absurd x | inr k ↦ k ]

  pushed_open : (heads after : List Patch) (n : ℕ) → after ≡ heads ++ fresh n OpenGate [] ∷ [] → IsOpenNumber after n
  pushed_open heads after n same = record {
    patch = fresh n OpenGate [];
    head = subst (λ hs. Contains hs (fresh n OpenGate [])) (sym same) (Contains-from_In (heads ++ fresh n OpenGate [] ∷ []) (fresh n OpenGate []) (In-append_right heads (fresh n OpenGate [] ∷ []) (fresh n OpenGate []) (inl refl)));
    numbered = refl;
    is_open = refl;
  }

  rises_new : old.numbers ≤ now_new.numbers
  rises_new = let next = m.head.row.next in omega (arith, next, tied_numbers)

  keeps_group : (h : Group) → Contains old.groups h → (k : Group) × Contains now_new.groups k × IsKin h k
  keeps_group h c = (h, Contains-from_In (old.groups ++ new_group number ∷ []) h (In-append_left old.groups (new_group number ∷ []) h (In-from_Contains old.groups h c)), kin_self h)

  the_new : GroupIsLawful now_new.heads now_new.numbers now_new.groups (new_group number)
  the_new = record {
    given = let next = m.head.row.next in (omega (arith, next), omega (arith, tied_numbers));
    tail_follows = refl;
    tail_after_head = tied_by m.with_tail m.tied (number + 1) (number ∷ []) number m.tie tail_lawful to_tied (omega (arith, tail_numbers)) (0, omega arith, refl);
    members_given = λ k c. absurd (none_in k c);
    members_after_head = λ k c. absurd (none_in k c);
    tail_after_members = λ k c. absurd (none_in k c);
    members_change = λ p h c. absurd (none_in p.number c);
    head_after = λ n c. absurd (none_in n c);
    head_open = (
      λ is_open. record { empty = refl; unclosed = refl },
      λ unbegun. open_on m.with_tail.numbers m.with_tail.heads m.tied.heads to_tied number
          (open_on m.with_head.numbers m.with_head.heads m.with_tail.heads to_tail number (pushed_open old.heads m.with_head.heads number (m.head.row.added))),
    );
    tail_open = (
      λ is_open. refl,
      λ unclosed. open_on m.with_tail.numbers m.with_tail.heads m.tied.heads to_tied (number + 1) (pushed_open m.with_head.heads m.with_tail.heads (number + 1) (m.tail.row.added)),
    );
  }

  pub groups_made : GroupsAreLawful new.heads new.numbers new.groups
  groups_made = subst (λ (s : State). GroupsAreLawful s.heads s.numbers s.groups) (sym m.state) (record {
    few = let long = length-append old.groups (new_group number ∷ []) in let k = below few in omega (arith, long, k);
    apart = from_apart (old.groups ++ new_group number ∷ [])
        (apart_more old.groups (new_group number) (apart_from old.groups G.apart) (λ h i. let k = (G.each h (Contains-from_In old.groups h i)).given.1 in let next = m.head.row.next in omega (arith, k, next)));
    each = λ g c. elim (Contains-push_cases old.groups (new_group number) g c) [
      | inl was ↦ held_same ShutNew old now_new to_new rises_new G keeps_group g was (none_shut g.head) (none_shut g.tail)
      | inr e ↦ subst (GroupIsLawful now_new.heads now_new.numbers now_new.groups) e the_new
    ];
  })
    where
      below : (max_groups ≤ length old.groups → ⊥) → length old.groups + 1 ≤ max_groups
      below out = elim (cases_lt (length old.groups) max_groups) [ inl lt ↦ omega (arith, lt) | inr past ↦ absurd (out past) ]

-- one group other than it was, with the same gates
module _ (Shut : ℕ → Type 0) (old mid : State) (n : ℕ) (f : Group → Group) (kin : (g : Group) → IsKin g (f g)) (P : Passes Shut old.numbers old.heads mid.heads) (rises : old.numbers ≤ mid.numbers) (G : GroupsAreLawful old.heads old.numbers old.groups) where
  abbrev with_one : State
  with_one = record mid { groups = with_group old.groups n f }

  groups_with : ((g : Group) → Contains old.groups g → g.head ≡ n → GroupIsLawful with_one.heads with_one.numbers with_one.groups (f g))
      → ((g : Group) → Contains old.groups g → (g.head ≡ n → ⊥) → (Shut g.head → ⊥) × (Shut g.tail → ⊥))
      → (new : State) → new ≡ with_one → GroupsAreLawful new.heads new.numbers new.groups
  groups_with here clear new same = subst (λ (s : State). GroupsAreLawful s.heads s.numbers s.groups) (sym same) (record {
    few = let long = with_length old.groups n f in let k = G.few in omega (arith, long, k);
    apart = with_apart old.groups n f kin G.apart;
    each = λ k c.
        let w = with_cases old.groups n f k c in
        elim w.2 [
          | inl it ↦ subst (GroupIsLawful with_one.heads with_one.numbers with_one.groups) (sym it.1) (here w.0 w.1 it.0)
          | inr away ↦
              let open_as = clear w.0 w.1 away.0 in
              subst (GroupIsLawful with_one.heads with_one.numbers with_one.groups) (sym away.1) (held_same Shut old with_one P rises G (with_kin old.groups n f kin) w.0 w.1 open_as.0 open_as.1)
        ];
  })

-- a group put after another
module _ (old : State) (n j : ℕ) (new : State) (m : AfterInParts old n j new) (H : HeadsAreLawful old.heads old.numbers) (G : GroupsAreLawful old.heads old.numbers old.groups) where
  abbrev put : Group → Group
  put g = record g { after = g.after ++ j ∷ [] }

  abbrev now_put : State
  now_put = record m.tied { groups = with_group old.groups n put }

  to_put : Passes NoneShut old.numbers old.heads m.tied.heads
  to_put = passes_depend old n (m.before.tail ∷ []) m.tied m.tie H

  kin_put : (g : Group) → IsKin g (put g)
  kin_put g = record { head = refl; tail = refl }

  rises_put : old.numbers ≤ now_put.numbers
  rises_put = let e = ap (λ s. s.numbers) m.tie.state in omega (arith, e)

  keeps_put : (h : Group) → Contains old.groups h → (k : Group) × Contains now_put.groups k × IsKin h k
  keeps_put = with_kin old.groups n put kin_put

  put_lawful : (g : Group) → Contains old.groups g → g.head ≡ n → GroupIsLawful now_put.heads now_put.numbers now_put.groups (put g)
  put_lawful g in_g here =
      let s = gates_same NoneShut old now_put to_put rises_put G keeps_put g in_g (λ x. x) (λ x. x) in
      held NoneShut old now_put to_put rises_put G keeps_put g (put g) in_g (kin_put g) (λ k c. inl c)
      (λ k c. elim (Contains-push_cases g.after j k c) [
        | inl was ↦ inl was
        | inr e ↦
            let x = keeps_put m.before m.named.0 in
            let tie = tied_by old m.tied n (m.before.tail ∷ []) m.before.tail m.tie H to_put (G.each m.before m.named.0).given.1 (0, omega arith, refl) in
            inr (x.0, (x.1, x.2.head ∙ (m.named.1 ∙ e)), subst (λ y. IsTied m.tied.heads y x.0.tail) (sym here) (subst (IsTied m.tied.heads n) (sym x.2.tail) tie))
      ])
      (λ is_open. let u = s.0.0 is_open in record { empty = u.empty; unclosed = u.unclosed }, λ u. s.0.1 (record { empty = u.empty; unclosed = u.unclosed })) s.1

  pub groups_put : GroupsAreLawful new.heads new.numbers new.groups
  groups_put = groups_with NoneShut old m.tied n put kin_put to_put rises_put G put_lawful (λ g in_g other. (λ x. x, λ x. x)) new m.state

-- a new change of a group
module _ (old : State) (n b at : ℕ) (bytes : List ℕ) (number : ℕ) (grade : Grade) (new : State) (m : MemberInParts old n b at bytes number grade new) (H : HeadsAreLawful old.heads old.numbers) (G : GroupsAreLawful old.heads old.numbers old.groups) where
  abbrev joined : Group → Group
  joined g = record g { members = g.members ++ number ∷ [] }

  abbrev made : Patch
  made = fresh number (Change b at (length bytes) grade) m.change.row.dependencies

  abbrev now_joined : State
  now_joined = record m.tied { groups = with_group old.groups n joined }

  abbrev ShutHead : ℕ → Type 0
  ShutHead k = ((k ≡ n) ⊎ NoneShut k) ⊎ NoneShut k

  begun : Begins old n m.begun
  begun = begins old n m.begun m.begin H

  change_lawful : HeadsAreLawful m.with_change.heads m.with_change.numbers
  change_lawful = heads_part m.begun 1 _ m.with_change (changes m.change) begun.heads

  change_numbers : m.with_change.numbers ≡ number
  change_numbers = ap (λ s. s.numbers) m.change.state

  tied_same : m.tied.numbers ≡ number
  tied_same = ap (λ s. s.numbers) m.tie.state ∙ change_numbers

  next_number : number ≡ old.numbers + 1
  next_number = let a = m.change.row.next in let c = begun.numbers in omega (arith, a, c)

  to_change : Passes NoneShut m.begun.numbers m.begun.heads m.with_change.heads
  to_change = passes_change m.begun b at bytes (n ∷ []) number grade m.with_change m.change begun.heads

  to_tie : Passes NoneShut m.with_change.numbers m.with_change.heads m.tied.heads
  to_tie = passes_depend m.with_change m.group.tail (number ∷ []) m.tied m.tie change_lawful

  to_joined : Passes ShutHead old.numbers old.heads m.tied.heads
  to_joined =
      passes_then (λ k. (k ≡ n) ⊎ NoneShut k) NoneShut old.numbers m.with_change.numbers old.heads m.with_change.heads m.tied.heads (omega (arith, change_numbers, next_number))
      (passes_then (λ k. k ≡ n) NoneShut old.numbers m.begun.numbers old.heads m.begun.heads m.with_change.heads (let c = begun.numbers in omega (arith, c)) begun.passes to_change) to_tie

  kin_joined : (g : Group) → IsKin g (joined g)
  kin_joined g = record { head = refl; tail = refl }

  rises_joined : old.numbers ≤ now_joined.numbers
  rises_joined = omega (arith, tied_same, next_number)

  keeps_joined : (h : Group) → Contains old.groups h → (k : Group) × Contains now_joined.groups k × IsKin h k
  keeps_joined = with_kin old.groups n joined kin_joined

  follows : (g : Group) → Contains old.groups g → g.tail ≡ g.head + 1
  follows g c = (G.each g c).tail_follows

  clear_of : (k : ℕ) → (k ≡ n → ⊥) → ShutHead k → ⊥
  clear_of k other s = elim s [ inl t ↦ elim t [ inl e ↦ other e | inr x ↦ x ] | inr x ↦ x ]

  -- the change comes after the head
  after_head : n ≤ old.numbers → IsTied m.with_change.heads number n
  after_head few =
      elim (live_cases m.begun.heads n) [
        | inr disk ↦ to_change.tied number n (let c = begun.numbers in omega (arith, few, c)) (inl disk.0)
        | inl live ↦ inr (record {
          patch = made;
          head = subst (λ hs. Contains hs made) (sym (m.change.row.added)) (Contains-from_In (m.begun.heads ++ made ∷ []) made (In-append_right m.begun.heads (made ∷ []) made (inl refl)));
          numbered = refl;
          named = m.change.row.depends.each n (inl (record { patch = live.0; head = live.1; numbered = live.2; live = live.3 }, (0, omega arith, refl)));
        })
      ]

  member_now : (g : Group) → Contains old.groups g → g.head ≡ n → IsMemberNow now_joined.heads now_joined.numbers (joined g) number
  member_now g in_g here = record {
    given = (omega (arith, next_number), omega (arith, tied_same));
    after_head = subst (IsTied m.tied.heads number) (sym here) (to_tie.tied number n (omega (arith, few, change_numbers, next_number)) (after_head few));
    before_tail = subst (λ (x : Group). IsTied m.tied.heads x.tail number) same (tied_by m.with_change m.tied m.group.tail (number ∷ []) number m.tie change_lawful to_tie (omega (arith, change_numbers)) (0, omega arith, refl));
    change = λ p h e.
        let o = to_tie.changes p h (omega (arith, e, change_numbers)) in
        elim (Contains-push_cases m.begun.heads made o.0 (subst (λ hs. Contains hs o.0) (m.change.row.added) o.1)) [
          | inl was ↦ let k = (begun.heads.one_place_each.numbered o.0 was).1 in let c = begun.numbers in let f = o.2 in absurd (omega (arith, k, c, f, e, next_number))
          | inr is ↦ (b, o.3 ∙ ap (λ x. block_of_kind x.kind) (sym is))
        ];
  }
    where
      few : n ≤ old.numbers
      few = let k = (G.each g in_g).given.1 in let f = follows g in_g in omega (arith, k, f, here)

      same : m.group ≡ g
      same = same_group old.groups G.apart follows m.group g m.named.0 in_g (m.named.1 ∙ sym here)

  joined_lawful : (g : Group) → Contains old.groups g → g.head ≡ n → GroupIsLawful now_joined.heads now_joined.numbers now_joined.groups (joined g)
  joined_lawful g in_g here =
      let L = G.each g in_g in
      let few = L.given.1 in
      let f = follows g in_g in
      let t = gate_same ShutHead old.numbers old.heads m.tied.heads to_joined g.tail few (clear_of g.tail (λ e. omega (arith, e, f, here))) in
      held ShutHead old now_joined to_joined rises_joined G keeps_joined g (joined g) in_g (kin_joined g)
      (λ k c. elim (Contains-push_cases g.members number k c) [ inl was ↦ inl was | inr e ↦ inr (subst (IsMemberNow now_joined.heads now_joined.numbers (joined g)) e (member_now g in_g here)) ])
      (λ k c. inl c)
      (λ is_open. absurd ((to_joined.opened g.head (omega (arith, few, f)) is_open).1 (inl (inl here))), λ u. absurd (none_pushed g.members u.empty))
      (λ k. L.tail_open.0 (t.0 k), λ k. t.1 (L.tail_open.1 k))
    where
      none_pushed : (xs : List ℕ) → xs ++ number ∷ [] ≡ [] → ⊥
      none_pushed [] e = cc
      none_pushed (x ∷ xs) e = cc

  pub groups_joined : GroupsAreLawful new.heads new.numbers new.groups
  groups_joined =
      groups_with ShutHead old m.tied n joined kin_joined to_joined rises_joined G joined_lawful
      (λ g in_g other. (clear_of g.head other, clear_of g.tail (λ e. tail_no_head old.groups G.apart follows g m.group in_g m.named.0 (e ∙ sym m.named.1)))) new m.state

-- a group closed
module _ (old : State) (n : ℕ) (new : State) (m : CloseInParts old n new) (H : HeadsAreLawful old.heads old.numbers) (G : GroupsAreLawful old.heads old.numbers old.groups) where
  abbrev ended : Group → Group
  ended g = record g { closed = true }

  abbrev now_ended : State
  now_ended = record m.ended { groups = with_group old.groups n ended }

  abbrev ShutBoth : ℕ → Type 0
  ShutBoth k = (k ≡ n) ⊎ (k ≡ m.group.tail)

  begun_close : Begins old n m.begun
  begun_close = begins old n m.begun m.begin H

  to_ended : Passes ShutBoth old.numbers old.heads m.ended.heads
  to_ended =
      passes_then (λ k. k ≡ n) (λ k. k ≡ m.group.tail) old.numbers m.begun.numbers old.heads m.begun.heads m.ended.heads (let c = begun_close.numbers in omega (arith, c)) begun_close.passes
      (passes_seal m.begun m.group.tail m.ended m.end begun_close.heads)

  kin_ended : (g : Group) → IsKin g (ended g)
  kin_ended g = record { head = refl; tail = refl }

  rises_ended : old.numbers ≤ now_ended.numbers
  rises_ended = let e = ap (λ s. s.numbers) m.end.state in let c = begun_close.numbers in omega (arith, e, c)

  keeps_ended : (h : Group) → Contains old.groups h → (k : Group) × Contains now_ended.groups k × IsKin h k
  keeps_ended = with_kin old.groups n ended kin_ended

  follows_close : (g : Group) → Contains old.groups g → g.tail ≡ g.head + 1
  follows_close g c = (G.each g c).tail_follows

  ended_lawful : (g : Group) → Contains old.groups g → g.head ≡ n → GroupIsLawful now_ended.heads now_ended.numbers now_ended.groups (ended g)
  ended_lawful g in_g here =
      let few = (G.each g in_g).given.1 in
      let f = follows_close g in_g in
      let same = same_group old.groups G.apart follows_close g m.group in_g m.named.0 (here ∙ sym m.named.1) in
      held ShutBoth old now_ended to_ended rises_ended G keeps_ended g (ended g) in_g (kin_ended g) (λ k c. inl c) (λ k c. inl c)
      (λ is_open. absurd ((to_ended.opened g.head (omega (arith, few, f)) is_open).1 (inl here)), λ u. absurd (apart_of u.unclosed))
      (λ is_open. absurd ((to_ended.opened g.tail few is_open).1 (inr (ap (λ (x : Group). x.tail) same))), λ unclosed. absurd (apart_of unclosed))
    where
      apart_of : true ≡ false → ⊥
      apart_of e = cc

  pub groups_ended : GroupsAreLawful new.heads new.numbers new.groups
  groups_ended =
      groups_with ShutBoth old m.ended n ended kin_ended to_ended rises_ended G ended_lawful
      (λ g in_g other. (
        λ s. elim s [ inl e ↦ other e | inr e ↦ tail_no_head old.groups G.apart follows_close m.group g m.named.0 in_g (sym e) ],
        λ s. elim s [
          | inl e ↦ tail_no_head old.groups G.apart follows_close g m.group in_g m.named.0 (e ∙ sym m.named.1)
          | inr e ↦ other (ap (λ (x : Group). x.head) (same_tail old.groups G.apart follows_close g m.group in_g m.named.0 e) ∙ m.named.1)
        ],
      )) new m.state
