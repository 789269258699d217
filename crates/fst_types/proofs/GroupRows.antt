-- Groups, worked out over the definitions: two groups, the second after the first, and a change for each.
use Rattle.std.proofs.Common.{◌≡◌, ◌≢◌, ◌⊎◌, ℕ, zero, suc, true, false, not, List, [], ◌∷◌, Contains, Some, None, refl, ap, subst, inl, inr, arith}
use Rattle.std.specs.Prelude.{◌==◌, nat_le}
use Rattle.std.specs.List.Sorted.{IsStrictlyIncreasing}
use Rattle.fst_types.specs.declared.place.Place.TheVariants as place
use Rattle.fst_types.specs.declared.grade.Grade.TheVariants as grade
use Rattle.fst_types.specs.declared.fault.Fault.TheVariants as fault
use Rattle.fst_types.specs.Closure.{one, join}
use Rattle.fst_types.specs.Patches.{Change, OpenGate, SealedGate, Patch, IsOn}
use Rattle.fst_types.specs.Dependencies.{DependsOn, IsBlocked, IsLiveNumber}
use Rattle.fst_types.specs.Overlaps.{IsOverlapped}
use Rattle.fst_types.specs.Writable.{IsInMemoryOn, InWritableSet}
use Rattle.fst_types.specs.Cascade.{Follows, RestsOnDisk}
use Rattle.fst_types.specs.Groups.{Group}
use Rattle.fst_types.specs.State.{State}
use Rattle.fst_types.specs.Making.{ChangeIsMade}
use Rattle.fst_types.specs.Gating.{GateIsSealed}
use Rattle.fst_types.specs.Grouping.{MakesGroup, PutsAfter, MakesMember}
use Rattle.fst_types.specs.Writing.{Issues}
use Rattle.fst_types.specs.Refusals.{IsFirst}
use Rattle.fst_types.specs.Order.{order}
use Rattle.fst_types.specs.Events.{Depend, Seal, Issue, GroupAfter, GroupPatch}
use Rattle.fst_types.proofs.Finite.{In-from_Contains}
use Rattle.fst_types.proofs.SmallStates.{AllOf, each_of, only_in, down, not_direct, none_above, one_name, patch_of, group_of, state_of}
use Rattle.fst_types.proofs.Numbers.{clash}

-- {"do":"group"} -> group 1: a head gate, and a tail gate after it
abbrev first_gates : List Patch
first_gates = patch_of 1 OpenGate place.Memory [] ∷ patch_of 2 OpenGate place.Memory [] ∷ []

pub first_group : MakesGroup (state_of 0 [] [] []) 1 (state_of 2 (patch_of 1 OpenGate place.Memory [] ∷ patch_of 2 OpenGate place.Memory (1 ∷ []) ∷ []) [] (group_of 1 [] false [] ∷ []))
first_group = record {
  row = record {
    with_head = patch_of 1 OpenGate place.Memory [] ∷ [];
    head = record { next = refl; added = refl };
    with_tail = first_gates;
    tail = record { next = refl; added = refl };
    tie = record {
      gate = record { patch = patch_of 2 OpenGate place.Memory []; head = (1, omega arith, refl); numbered = refl; is_open = refl };
      clear = none_above first_gates 2 1 (λ e. omega (arith, e)) (λ d. clash (nat_le 2 1) (down (λ x. nat_le x 1) first_gates refl 1 2 d refl) refl);
      names = 1 ∷ [];
      live = one_name first_gates 2 1 (record { patch = patch_of 1 OpenGate place.Memory []; head = (0, omega arith, refl); numbered = refl; live = λ e. cc }) (not_direct first_gates 2 1 refl);
      gained = refl;
    };
  };
  state = refl;
}

-- with a second group: {"do":"group_after","group":3,"on":1} -> group_after 3: gate 3 gains the tail of group 1
abbrev two_groups : List Patch
two_groups = patch_of 1 OpenGate place.Memory [] ∷ patch_of 2 OpenGate place.Memory (1 ∷ []) ∷ patch_of 3 OpenGate place.Memory [] ∷ patch_of 4 OpenGate place.Memory (3 ∷ []) ∷ []

abbrev in_order : List Patch
in_order = patch_of 1 OpenGate place.Memory [] ∷ patch_of 2 OpenGate place.Memory (1 ∷ []) ∷ patch_of 3 OpenGate place.Memory (2 ∷ []) ∷ patch_of 4 OpenGate place.Memory (3 ∷ []) ∷ []

pub put_after : PutsAfter (state_of 4 two_groups [] (group_of 1 [] false [] ∷ group_of 3 [] false [] ∷ [])) 3 1 (state_of 4 in_order [] (group_of 1 [] false [] ∷ group_of 3 [] false (1 ∷ []) ∷ []))
put_after = record {
  row = record {
    before = group_of 1 [] false [];
    named = ((0, omega arith, refl), refl);
    tie = record {
      gate = record { patch = patch_of 3 OpenGate place.Memory []; head = (2, omega arith, refl); numbered = refl; is_open = refl };
      clear = none_above two_groups 3 2 (λ e. omega (arith, e)) (λ d. clash (nat_le 3 2) (down (λ x. nat_le x 2) two_groups refl 2 3 d refl) refl);
      names = 2 ∷ [];
      live = one_name two_groups 3 2 (record { patch = patch_of 2 OpenGate place.Memory (1 ∷ []); head = (1, omega arith, refl); numbered = refl; live = λ e. cc }) (not_direct two_groups 3 2 refl);
      gained = refl;
    };
  };
  state = refl;
}

-- {"do":"group_patch","group":3,"block":1,"at":0,"data":"42"} -> patch 5 soft: gate 3 is sealed, 5 comes after it, and gate 4 gains 5
abbrev begun : List Patch
begun = patch_of 1 OpenGate place.Memory [] ∷ patch_of 2 OpenGate place.Memory (1 ∷ []) ∷ patch_of 3 SealedGate place.Memory (2 ∷ []) ∷ patch_of 4 OpenGate place.Memory (3 ∷ []) ∷ []

abbrev fifth : Patch
fifth = patch_of 5 (Change 1 0 1 grade.Soft) place.Memory (3 ∷ [])

abbrev with_fifth : List Patch
with_fifth =
    patch_of 1 OpenGate place.Memory []
    ∷ patch_of 2 OpenGate place.Memory (1 ∷ []) ∷ patch_of 3 SealedGate place.Memory (2 ∷ []) ∷ patch_of 4 OpenGate place.Memory (3 ∷ []) ∷ fifth ∷ []

abbrev begun_groups : List Group
begun_groups = group_of 1 [] false [] ∷ group_of 3 [] false (1 ∷ []) ∷ []

-- with the member
abbrev member_heads : List Patch
member_heads =
    patch_of 1 OpenGate place.Memory []
    ∷ patch_of 2 OpenGate place.Memory (1 ∷ []) ∷ patch_of 3 SealedGate place.Memory (2 ∷ []) ∷ patch_of 4 OpenGate place.Memory (3 ∷ 5 ∷ []) ∷ fifth ∷ []

abbrev member_groups : List Group
member_groups = group_of 1 [] false [] ∷ group_of 3 (5 ∷ []) false (1 ∷ []) ∷ []

abbrev with_member : State
with_member = state_of 5 member_heads ((5, 66 ∷ []) ∷ []) member_groups

begin_third : GateIsSealed in_order 3 begun
begin_third = record {
  gate = record { patch = patch_of 3 OpenGate place.Memory (2 ∷ []); head = (2, omega arith, refl); numbered = refl; is_open = refl };
  cascade = record {
    same = refl;
    places = each_of (λ p. Follows p.kind → (p.place ≡ place.Memory) ⊎ (p.place ≡ place.Disk)) begun (λ f. inl refl, (λ f. inl refl, (λ f. inl refl, (λ f. inl refl, tt))));
    settled = each_of (λ p. Follows p.kind → ((p.place ≡ place.Disk → RestsOnDisk begun p) × (RestsOnDisk begun p → p.place ≡ place.Disk))) begun (
      λ f. absurd f,
      (λ f. absurd f, (λ f. (λ e. absurd (in_memory e), λ rests. absurd (in_memory (rests 2 (0, omega arith, refl) (patch_of 2 OpenGate place.Memory (1 ∷ [])) (1, omega arith, refl) refl))), (λ f. absurd f, tt))),
    );
  };
}
  where
    in_memory : place.Memory ≡ place.Disk → ⊥
    in_memory e = cc

-- 5 depends on gate 2, which is open
fifth_waits : (heads : List Patch) → Contains heads fifth → (third : Patch) → Contains heads third → third.number ≡ 3 → Contains third.dependencies 2 → DependsOn heads 5 2
fifth_waits heads h third k e named = join {q = 3} (one (record { patch = fifth; head = h; numbered = refl; named = (0, omega arith, refl) })) (one (record { patch = third; head = k; numbered = e; named = named }))

make_fifth : ChangeIsMade begun 4 1 0 1 (3 ∷ []) 5 grade.Soft with_fifth
make_fifth = record {
  next = refl;
  dependencies = 3 ∷ [];
  depends = record {
    rising = λ k h. omega (arith, h);
    only = λ n c. subst (λ (x : ℕ). (IsLiveNumber begun x × Contains (3 ∷ []) x) ⊎ IsOverlapped begun fifth x) (only_in 3 n c)
        (inl (record { patch = patch_of 3 SealedGate place.Memory (2 ∷ []); head = (2, omega arith, refl); numbered = refl; live = λ e. cc }, (0, omega arith, refl)));
    each = λ n p. elim p [ inl l ↦ l.1 | inr o ↦ absurd (no_change o.patch o.head o.overlaps.block o.overlaps.first) ];
  };
  graded = λ hard. hard.free (record {
    gate = patch_of 2 OpenGate place.Memory (1 ∷ []);
    head = (1, omega arith, refl);
    is_open = refl;
    depends = fifth_waits with_fifth (4, omega arith, refl) (patch_of 3 SealedGate place.Memory (2 ∷ [])) (2, omega arith, refl) refl (0, omega arith, refl);
  });
  added = refl;
}
  where
    no_change : (p : Patch) → Contains begun p → (b : ℕ) → IsOn p b → ⊥
    no_change = each_of (λ p. (b : ℕ) → IsOn p b → ⊥) begun (λ b e. cc, (λ b e. cc, (λ b e. cc, (λ b e. cc, tt))))

pub first_member : MakesMember (state_of 4 in_order [] begun_groups) 3 1 0 (66 ∷ []) 5 grade.Soft with_member
first_member = record {
  group = group_of 3 [] false (1 ∷ []);
  named = ((1, omega arith, refl), refl);
  row = record {
    begun = begun;
    begin = inl begin_third;
    with_change = with_fifth;
    change = make_fifth;
    tie = record {
      gate = record { patch = patch_of 4 OpenGate place.Memory (3 ∷ []); head = (3, omega arith, refl); numbered = refl; is_open = refl };
      clear = none_above with_fifth 4 5 (λ e. omega (arith, e)) (λ d. clash (not (4 == 4)) (down (λ x. not (x == 4)) with_fifth refl 5 4 d refl) refl);
      names = 5 ∷ [];
      live = one_name with_fifth 4 5 (record { patch = fifth; head = (4, omega arith, refl); numbered = refl; live = λ e. cc }) (not_direct with_fifth 4 5 refl);
      gained = refl;
    };
  };
  state = refl;
}

-- {"do":"write","block":1} -> refused 10: 5 waits for gate 2
pub write_is_refused : IsFirst (order with_member (Issue 1)) fault.NothingReady
write_is_refused = inr (λ h. omega (arith, h), inr (λ h. cc, inl (λ ready. blocked ready.0 ready.1.in_memory.head ready.1.in_memory.change ready.1.free, refl)))
  where
    waits : IsBlocked member_heads 5
    waits = record {
      gate = patch_of 2 OpenGate place.Memory (1 ∷ []);
      head = (1, omega arith, refl);
      is_open = refl;
      depends = fifth_waits member_heads (4, omega arith, refl) (patch_of 3 SealedGate place.Memory (2 ∷ [])) (2, omega arith, refl) refl (0, omega arith, refl);
    }

    blocked : (p : Patch) → Contains member_heads p → IsOn p 1 → (IsBlocked member_heads p.number → ⊥) → ⊥
    blocked = each_of (λ p. IsOn p 1 → (IsBlocked member_heads p.number → ⊥) → ⊥) member_heads (λ on. cc, (λ on. cc, (λ on. cc, (λ on. cc, (λ on free. free waits, tt)))))

-- the gates of groups are none to `depend` and `seal`
pub depend_is_refused : IsFirst (order with_member (Depend 2 [])) fault.NotGate
depend_is_refused = inl ((group_of 1 [] false [], (0, omega arith, refl), inr refl), refl)

pub seal_is_refused : IsFirst (order with_member (Seal 1)) fault.NotGate
seal_is_refused = inl ((group_of 1 [] false [], (0, omega arith, refl), inl refl), refl)

-- {"do":"group_patch","group":1,"block":1,"at":0,"data":"41"} -> refused 8: it would come after 5, which comes after the tail of its group
not_closed : (groups : List Group) → AllOf (λ g. g.head ≡ 1 → g.closed ≡ true → ⊥) groups → (g : Group) → Contains groups g → g.head ≡ 1 → g.closed ≡ true → ⊥
not_closed groups all = each_of (λ g. g.head ≡ 1 → g.closed ≡ true → ⊥) groups all

pub overlap_is_refused : IsFirst (order with_member (GroupPatch 0 1 1 0 (65 ∷ []) false)) fault.Cycle
overlap_is_refused =
    inr (
      λ h. omega (arith, h),
      inr (
        λ h. omega (arith, h),
        inr (
          λ h. let k = h.there in cc,
          inr (
            λ h. elim h [ inl e ↦ omega (arith, e) | inr l ↦ omega (arith, l) ],
            inr (
              λ h. let f = h.full in omega (arith, f),
              inr (
                λ none. none (group_of 1 [] false [], ((0, omega arith, refl), refl)),
                inr (
                  λ h. not_closed member_groups (λ e c. cc, (λ e c. omega (arith, e), tt)) h.0 h.1.0 h.1.1 h.2,
                  inl (
                    (
                      group_of 1 [] false [],
                      ((0, omega arith, refl), refl),
                      5,
                      record {
                        patch = fifth;
                        head = (4, omega arith, refl);
                        numbered = refl;
                        live = λ e. cc;
                        overlaps = record { block = 1; first = refl; second = refl; starts_before = omega arith; ends_after = omega arith };
                      },
                      fifth_waits member_heads (4, omega arith, refl) (patch_of 3 SealedGate place.Memory (2 ∷ [])) (2, omega arith, refl) refl (0, omega arith, refl),
                    ),
                    refl,
                  ),
                ),
              ),
            ),
          ),
        ),
      ),
    )

-- {"do":"group_patch","group":1,"block":1,"at":1,"data":"41"} -> patch 6 hard; then {"do":"group_after","group":1,"on":3} -> refused 18: group 1 has a member
abbrev sixth : Patch
sixth = patch_of 6 (Change 1 1 1 grade.Hard) place.Memory []

abbrev both_begun : List Group
both_begun = group_of 1 (6 ∷ []) false [] ∷ group_of 3 (5 ∷ []) false (1 ∷ []) ∷ []

abbrev with_both : State
with_both =
    state_of 6 (
    patch_of 1 SealedGate place.Disk []
    ∷ patch_of 2 OpenGate place.Memory (1 ∷ 6 ∷ []) ∷ patch_of 3 SealedGate place.Memory (2 ∷ []) ∷ patch_of 4 OpenGate place.Memory (3 ∷ 5 ∷ []) ∷ fifth ∷ sixth ∷ []
    ) ((5, 66 ∷ []) ∷ (6, 65 ∷ []) ∷ []) both_begun

pub begun_is_refused : IsFirst (order with_both (GroupAfter 1 3)) fault.GroupBegun
begun_is_refused =
    inr (
      λ h. elim h [
        | inl none ↦ none (group_of 1 (6 ∷ []) false [], ((0, omega arith, refl), refl))
        | inr none ↦ none (group_of 3 (5 ∷ []) false (1 ∷ []), ((1, omega arith, refl), refl))
      ],
      inr (
        λ h. not_closed both_begun (λ e c. cc, (λ e c. omega (arith, e), tt)) h.0 h.1.0 h.1.1 h.2,
        inl ((group_of 1 (6 ∷ []) false [], ((0, omega arith, refl), refl), 6, (0, omega arith, refl)), refl),
      ),
    )

-- {"do":"group_close","group":1}, and then {"do":"write","block":1} -> flight 1 block 1 patches 5,6 image 42410000: 5 needs 6, which is in that write
abbrev closed_heads : List Patch
closed_heads =
    patch_of 1 SealedGate place.Disk []
    ∷ patch_of 2 SealedGate place.Memory (1 ∷ 6 ∷ []) ∷ patch_of 3 SealedGate place.Memory (2 ∷ []) ∷ patch_of 4 OpenGate place.Memory (3 ∷ 5 ∷ []) ∷ fifth ∷ sixth ∷ []

abbrev with_closed : State
with_closed = state_of 6 closed_heads ((5, 66 ∷ []) ∷ (6, 65 ∷ []) ∷ []) (group_of 1 (6 ∷ []) true [] ∷ group_of 3 (5 ∷ []) false (1 ∷ []) ∷ [])

-- a change of block 1 may go: nothing below it is open, and all changes are in memory on block 1
may_go : (p : Patch) → IsInMemoryOn closed_heads 1 p → not (p.number == 4) ≡ true → InWritableSet closed_heads 1 p
may_go p i other = record {
  in_memory = i;
  free = λ b. clash (not (b.gate.number == 4)) (down (λ x. not (x == 4)) closed_heads refl p.number b.gate.number b.depends other) (ap (λ x. not (x == 4)) (fourth b.gate b.head b.is_open));
  needs = λ q c n. inr (all_here q n.head c n.change);
}
  where
    fourth : (g : Patch) → Contains closed_heads g → g.kind ≡ OpenGate → g.number ≡ 4
    fourth = each_of (λ g. g.kind ≡ OpenGate → g.number ≡ 4) closed_heads (λ e. cc, (λ e. cc, (λ e. cc, (λ e. refl, (λ e. cc, (λ e. cc, tt))))))

    all_here : (q : Patch) → Contains closed_heads q → (c : ℕ) → IsOn q c → IsInMemoryOn closed_heads 1 q
    all_here =
        each_of (λ q. (c : ℕ) → IsOn q c → IsInMemoryOn closed_heads 1 q) closed_heads (
          λ c e. cc,
          (
            λ c e. cc,
            (
              λ c e. cc,
              (λ c e. cc, (λ c e. record { head = (4, omega arith, refl); change = refl; memory = refl }, (λ c e. record { head = (5, omega arith, refl); change = refl; memory = refl }, tt))),
            ),
          ),
        )

fifth_goes : InWritableSet closed_heads 1 fifth
fifth_goes = may_go fifth (record { head = (4, omega arith, refl); change = refl; memory = refl }) refl

sixth_goes : InWritableSet closed_heads 1 sixth
sixth_goes = may_go sixth (record { head = (5, omega arith, refl); change = refl; memory = refl }) refl

-- the changes of block 1 are these two
of_first_block : (P : Patch → Type 0) → P fifth → P sixth → (p : Patch) → Contains closed_heads p → IsOn p 1 → P p
of_first_block P a b = each_of (λ p. IsOn p 1 → P p) closed_heads (λ e. cc, (λ e. cc, (λ e. cc, (λ e. cc, (λ e. a, (λ e. b, tt))))))

pub both_in_one_write : Issues with_closed 1 1 (66 ∷ 65 ∷ 0 ∷ 0 ∷ []) (record with_closed {
  tickets = 1;
  heads =
      patch_of 1 SealedGate place.Disk []
      ∷ patch_of 2 SealedGate place.Memory (1 ∷ 6 ∷ [])
      ∷ patch_of 3 SealedGate place.Memory (2 ∷ []) ∷ patch_of 4 OpenGate place.Memory (3 ∷ 5 ∷ []) ∷ record fifth { place = place.Flight } ∷ record sixth { place = place.Flight } ∷ [];
  blocks =
      record { committed = 0 ∷ 0 ∷ 0 ∷ 0 ∷ []; flight = None }
      ∷ record { committed = 0 ∷ 0 ∷ 0 ∷ 0 ∷ []; flight = Some (record { ticket = 1; image = 66 ∷ 65 ∷ 0 ∷ 0 ∷ []; stalled = false; failed = 0 }) }
      ∷ record { committed = 0 ∷ 0 ∷ 0 ∷ 0 ∷ []; flight = None } ∷ record { committed = 0 ∷ 0 ∷ 0 ∷ 0 ∷ []; flight = None } ∷ [];
})
both_in_one_write = record {
  writable = record {
    none_flies = of_first_block (λ p. p.place ≢ place.Flight) (λ e. cc) (λ e. cc);
    some = (fifth, fifth_goes);
    hard = λ p i h. of_first_block (InWritableSet closed_heads 1) fifth_goes sixth_goes p i.head i.change;
  };
  home = refl;
  next = refl;
  chosen = 5 ∷ 6 ∷ [];
  choice = record {
    rising = rising;
    only = λ n c. elim (In-from_Contains (5 ∷ 6 ∷ []) n c) [
      | inl e ↦ (fifth, e, fifth_goes)
      | inr more ↦ elim more [ inl e ↦ (sixth, e, sixth_goes) | inr none ↦ absurd none ]
    ];
    each = λ n p. subst (Contains (5 ∷ 6 ∷ [])) p.1 (of_first_block (λ q. Contains (5 ∷ 6 ∷ []) q.number) (0, omega arith, refl) (1, omega arith, refl) p.0 p.2.in_memory.head p.2.in_memory.change);
  };
  folded = refl;
  row = refl;
  state = refl;
}
  where
    rising : IsStrictlyIncreasing (5 ∷ 6 ∷ [])
    rising zero h = omega arith
    rising (suc k) h = omega (arith, h)
