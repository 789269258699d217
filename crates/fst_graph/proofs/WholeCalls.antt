-- What each call of the patches with sparse rows is of those with whole rows.
use Rattle.std.proofs.Common.{◌≡◌, ◌≢◌, ◌≤◌, ◌+◌, ◌==◌, ◌∷◌, [], ℕ, List, Option, Some, None, length, map, Contains, refl, sym, ap, subst, ◌∙◌, inl, inr, ◌↔◌}
use Rattle.std.proofs.lemmas.{Bool.cases_Bool, List.length-map, List.Elements.Contains-push_cases}
use Rattle.fst_types.specs.{Dependencies.{IsBlocked}, Facts.IsOnDiskWithAll, Gates.{IsGateNumber, IsOpenNumber, IsSealedNumber}, Grouping.GateIsSealedIfOpen, Looks.{IsPick, place_among, place_of}}
use Rattle.fst_types.specs.{Making.fresh, Order.{depend_order, seal_order, NamesAbove}, Overlaps.{IsOverlapped, Overlaps}, Patches.{Patch, Change, IsHard, IsLive, IsOn, IsOpenGate}}
use Rattle.fst_types.specs.{Refusals.{IsFirst, NoneHolds}, Writable.{InWritableSet, IsWritableSet, HasReady, IsHeld, IsLeastHeld, IsWritable}, declared.fault.Fault.Fault, declared.grade.Grade.Grade}
use Rattle.fst_graph.specs.Grouping.{AddsPair, SealsIfOpen}
use Rattle.fst_graph.specs.Known.{Known, unprepared, AddsChange, AddsEmpty, AddsGate, DependsGate, Foresees, Forgets, IsStuckByGates, LandsBlock, Launches, MayLaunch, NoneFlies, Refuses, SealsGate}
use Rattle.fst_graph.specs.{Membering.{ArePaired, Foretells, GainsMember, OverlapReaches, member_order}, Rows.{AreWhole, whole, whole_known, with_row}}
use Rattle.fst_graph.specs.Sparse.{AddsSparse, ForeseesSparse, ForetellsSparse, GainsSparse}
use Rattle.fst_types.proofs.{Alike.{back_alike, open_back}, Loosened.loosened, Sealing.alike_sealed}
use Rattle.fst_graph.proofs.WholeMember.{changed_is, member_is, foretold_is}
use Rattle.fst_graph.proofs.WholeRows.{gate_live, live_or_disk, direct_gate, gated_whole, emptied_whole, sealed_whole, begun_whole, gains_whole, launched_is, launched_over, landed_whole, forgotten_is, forgotten_over, grouped_is}
use Rattle.fst_graph.proofs.Wholes.{is, was, each_whole, on_disk, open_number, sealed_number, memory_is, memory_was, depends_up, depends_down, blocked, set_is, set_back, set_was}
use Rattle.fst_types.specs.declared.grade.Grade.TheVariants as grade
use Rattle.fst_types.specs.declared.place.Place.TheVariants as place
use Rattle.fst_types.proofs.Numbers.{memory_disk}

-- each number has its place
place_same : (rows : List (ℕ × List ℕ)) (n : ℕ) (xs : List Patch) → place_among (map (whole rows) xs) n ≡ place_among xs n
place_same rows n [] = refl
place_same rows n (x ∷ xs) = elim (cases_Bool (x.number == n)) [ inl e ↦ rw e refl | inr e ↦ rw e (place_same rows n xs) ]

pub place_whole : (rows : List (ℕ × List ℕ)) (heads : List Patch) (numbers n : ℕ) → place_of heads numbers n ≡ place_of (map (whole rows) heads) numbers n
place_whole rows heads numbers n = rw (place_same rows n heads) refl

module _ (rows : List (ℕ × List ℕ)) (p : Known) (W : AreWhole rows p.heads p.numbers) where
  abbrev T : List Patch
  T = p.heads

  abbrev F : List Patch
  F = map (whole rows) T

  abbrev n : ℕ
  n = p.numbers

  abbrev D : IsOnDiskWithAll F
  D = W.lawful.on_disk_with_all

  long : length F ≡ length T
  long = length-map T (whole rows)

  -- what may be written
  pub choice_is : (b : ℕ) (chosen : List ℕ) → IsWritableSet T b chosen → IsWritableSet F b chosen
  choice_is b chosen l = record {
    rising = l.rising;
    only = λ m c. let x = l.only m c in (whole rows x.0, x.1, set_is rows T n W.sparse D b x.0 x.2);
    each = λ m w. let k = set_was rows T n W.sparse D b w.0 w.2 in l.each m (k.0, ap (λ y. y.number) k.2 ∙ w.1, k.1);
  }

  choice_was : (b : ℕ) (chosen : List ℕ) → IsWritableSet F b chosen → IsWritableSet T b chosen
  choice_was b chosen l = record {
    rising = l.rising;
    only = λ m c. let x = l.only m c in let k = set_was rows T n W.sparse D b x.0 x.2 in (k.0, ap (λ y. y.number) k.2 ∙ x.1, k.1);
    each = λ m w. l.each m (whole rows w.0, w.1, set_is rows T n W.sparse D b w.0 w.2);
  }

  pub ready_is : (b : ℕ) → HasReady T b → HasReady F b
  ready_is b r = (whole rows r.0, set_is rows T n W.sparse D b r.0 r.1)

  pub ready_was : (b : ℕ) → HasReady F b → HasReady T b
  ready_was b r = let k = set_was rows T n W.sparse D b r.0 r.1 in (k.0, k.1)

  pub none_fly : (b : ℕ) → NoneFlies F b → NoneFlies T b
  none_fly b none p h on = none (whole rows p) (is rows T p h) on

  held_is : (b : ℕ) (q : Patch) → IsHeld T b q → IsHeld F b (whole rows q)
  held_is b q h = record { in_memory = memory_is rows T b q h.in_memory; hard = h.hard; left_out = λ w. h.left_out (set_back rows T n W.sparse D b q h.in_memory.head w) }

  pub held_was : (b : ℕ) (q : Patch) → IsHeld F b q → (o : Patch) × IsHeld T b o × (whole rows o ≡ q)
  held_was b q h =
      let m = memory_was rows T b q h.in_memory in
      (m.0, record { in_memory = m.1; hard = subst IsHard (sym m.2) h.hard; left_out = λ w. h.left_out (subst (InWritableSet F b) m.2 (set_is rows T n W.sparse D b m.0 w)) }, m.2)

  pub least_held_is : (b m : ℕ) → IsLeastHeld T b m → IsLeastHeld F b m
  least_held_is b m l = record {
    patch = whole rows l.patch;
    numbered = l.numbered;
    held = held_is b l.patch l.held;
    least = λ q h. let o = held_was b q h in subst (λ k. m ≤ k) (ap (λ y. y.number) o.2) (l.least o.0 o.1);
  }

  writable_is : (b : ℕ) → IsWritable T b → IsWritable F b
  writable_is b w = record {
    none_flies = each_whole rows T (λ q. IsOn q b → q.place ≢ place.Flight) (λ q h on. w.none_flies q h on);
    some = ready_is b w.some;
    hard = λ q i h. let m = memory_was rows T b q i in subst (InWritableSet F b) m.2 (set_is rows T n W.sparse D b m.0 (w.hard m.0 m.1 (subst IsHard (sym m.2) h)));
  }

  writable_was : (b : ℕ) → IsWritable F b → IsWritable T b
  writable_was b w = record {
    none_flies = λ q h on. w.none_flies (whole rows q) (is rows T q h) on;
    some = let k = set_was rows T n W.sparse D b w.some.0 w.some.1 in (k.0, k.1);
    hard = λ q i h. set_back rows T n W.sparse D b q i.head (w.hard (whole rows q) (memory_is rows T b q i) h);
  }

  pub pick_is : (o : Option ℕ) → IsPick T o → IsPick F o
  pick_is None none = λ b w. none b (writable_was b w)
  pick_is (Some b) l = record { writable = writable_is b l.writable; least = λ c w. l.least c (writable_was c w) }

  pub stuck_is : IsStuckByGates T → IsStuckByGates F
  stuck_is stuck none q b i =
      let m = memory_was rows T b q i in
      subst (λ (y : Patch). IsBlocked F y.number) m.2 ((blocked rows T n W.sparse D m.0.number).0 (stuck (λ o h. none (whole rows o) (is rows T o h)) m.0 b m.1))

  pub may_launch_was : (chosen : List ℕ) → MayLaunch (whole_known rows p) chosen → MayLaunch p chosen
  may_launch_was chosen m = record { block = m.block; writable = writable_was m.block m.writable; choice = choice_was m.block chosen m.choice }

  -- which numbers are gates, and which names are above one
  gate_is : (g : ℕ) → IsGateNumber T g → IsGateNumber F g
  gate_is g k = elim k [ inl o ↦ inl ((open_number rows T g).0 o) | inr s ↦ inr ((sealed_number rows T g).0 s) ]

  gate_was : (g : ℕ) → IsGateNumber F g → IsGateNumber T g
  gate_was g k = elim k [ inl o ↦ inl ((open_number rows T g).1 o) | inr s ↦ inr ((sealed_number rows T g).1 s) ]

  seal_clear : (g : ℕ) → NoneHolds (seal_order T n g) → NoneHolds (seal_order F n g)
  seal_clear g c = (c.0, (λ k. c.1.0 (λ t. k (gate_is g t)), (λ s. c.1.1.0 ((sealed_number rows T g).1 s), tt)))

  pub seal_first : (g : ℕ) (f : Fault) → IsFirst (seal_order T n g) f → IsFirst (seal_order F n g) f
  seal_first g f (inl a) = inl a
  seal_first g f (inr (a, inl b)) = inr (a, inl (λ t. b.0 (gate_was g t), b.1))
  seal_first g f (inr (a, inr (b, inl c))) = inr (a, inr (λ k. b (λ t. k (gate_is g t)), inl ((sealed_number rows T g).0 c.0, c.1)))
  seal_first g f (inr (a, inr (b, inr (c, d)))) = inr (a, inr (λ k. b (λ t. k (gate_is g t)), inr (λ s. c ((sealed_number rows T g).1 s), d)))

  above_up : (g : ℕ) (on : List ℕ) → NamesAbove T g on → NamesAbove F g on
  above_up g on a = (a.0, a.1, elim a.2 [ inl e ↦ inl e | inr d ↦ inr (depends_up rows T n W.sparse D a.0 g d) ])

  -- what is neither unknown, nor no gate, nor sealed is live
  above_down : (g : ℕ) (on : List ℕ) → ((IsGateNumber T g → ⊥) → ⊥) → (IsSealedNumber T g → ⊥) → NamesAbove F g on → NamesAbove T g on
  above_down g on gate shut (a, c, inl e) = (a, c, inl e)
  above_down g on gate shut (a, c, inr d) = elim (live_or_disk T g) [
    | inl l ↦ (a, c, inr (depends_down rows T n W.sparse D a g d l))
    | inr disk ↦ absurd (gate (λ k. elim k [
      | inl o ↦ let u = (open_number rows T g).0 o in memory_disk u.patch.place (D.open_gates u.patch u.head u.is_open) ((on_disk rows T g).0 disk u.patch u.head u.numbered)
      | inr s ↦ shut s
    ]))
  ]

  depend_clear : (g : ℕ) (on : List ℕ) → NoneHolds (depend_order T n g on) → NoneHolds (depend_order F n g on)
  depend_clear g on c =
      (c.0, (λ k. c.1.0 (λ t. k (gate_is g t)), (λ s. c.1.1.0 ((sealed_number rows T g).1 s), (c.1.1.1.0, (c.1.1.1.1.0, (λ a. c.1.1.1.1.1.0 (above_down g on c.1.0 c.1.1.0 a), tt))))))

  depend_first : (g : ℕ) (on : List ℕ) (f : Fault) → IsFirst (depend_order T n g on) f → IsFirst (depend_order F n g on) f
  depend_first g on f (inl a) = inl a
  depend_first g on f (inr (a, inl b)) = inr (a, inl (λ t. b.0 (gate_was g t), b.1))
  depend_first g on f (inr (a, inr (b, inl c))) = inr (a, inr (λ k. b (λ t. k (gate_is g t)), inl ((sealed_number rows T g).0 c.0, c.1)))
  depend_first g on f (inr (a, inr (b, inr (c, inl d)))) = inr (a, inr (λ k. b (λ t. k (gate_is g t)), inr (λ s. c ((sealed_number rows T g).1 s), inl d)))
  depend_first g on f (inr (a, inr (b, inr (c, inr (d, inl e))))) = inr (a, inr (λ k. b (λ t. k (gate_is g t)), inr (λ s. c ((sealed_number rows T g).1 s), inr (d, inl e))))
  depend_first g on f (inr (a, inr (b, inr (c, inr (d, inr (e, inl h)))))) =
      inr (a, inr (λ k. b (λ t. k (gate_is g t)), inr (λ s. c ((sealed_number rows T g).1 s), inr (d, inr (e, inl (above_up g on h.0, h.1))))))
  depend_first g on f (inr (a, inr (b, inr (c, inr (d, inr (e, inr h)))))) = absurd h.1

  pub depend_refuses : (g : ℕ) (on : List ℕ) (f : Fault) → Refuses (depend_order T n g on) f → Refuses (depend_order F n g on) f
  depend_refuses g on f r = elim r [ inl x ↦ inl (depend_first g on f x) | inr m ↦ inr (depend_clear g on m.0, m.1) ]

  -- the gates of a group, and what reaches the second
  pub paired_was : (head tail : ℕ) → ArePaired F n head tail → ArePaired T n head tail
  paired_was head tail m =
      let o = (open_number rows T tail).1 m.tail_open in
      record { given = m.given; tail_open = o; tied = elim m.tied [ inl d ↦ inl ((on_disk rows T head).1 d) | inr d ↦ inr ((direct_gate rows T n W tail o head).1 d) ]; follows = m.follows }

  overlapped : (b at len m : ℕ) → IsOverlapped T (fresh 0 (Change b at len grade.Soft) []) m ↔ IsOverlapped F (fresh 0 (Change b at len grade.Soft) []) m
  overlapped b at len m = (
    λ o. record { patch = whole rows o.patch; head = is rows T o.patch o.head; numbered = o.numbered; live = o.live; overlaps = record { block = o.overlaps.block; first = o.overlaps.first; second = o.overlaps.second; starts_before = o.overlaps.starts_before; ends_after = o.overlaps.ends_after } },
    λ o.
        let w = was rows T o.patch o.head in
        let v = subst (λ y. Overlaps y (fresh 0 (Change b at len grade.Soft) [])) (sym w.2) o.overlaps in
        record {
          patch = w.0;
          head = w.1;
          numbered = ap (λ y. y.number) w.2 ∙ o.numbered;
          live = subst IsLive (sym w.2) o.live;
          overlaps = record { block = v.block; first = v.first; second = v.second; starts_before = v.starts_before; ends_after = v.ends_after };
        },
  )

  overlap_reaches : (tail b at len : ℕ) → IsOpenNumber T tail → OverlapReaches T tail b at len ↔ OverlapReaches F tail b at len
  overlap_reaches tail b at len o = (
    λ r. (r.0, (overlapped b at len r.0).0 r.1, depends_up rows T n W.sparse D r.0 tail r.2),
    λ r. (r.0, (overlapped b at len r.0).1 r.1, depends_down rows T n W.sparse D r.0 tail r.2 (gate_live rows T n W tail o)),
  )

  pub member_clear_is : (tail b at len : ℕ) → IsOpenNumber T tail → NoneHolds (member_order T n tail b at len) → NoneHolds (member_order F n tail b at len)
  member_clear_is tail b at len o c = (λ r. c.0 ((overlap_reaches tail b at len o).1 r), rw long c.1)

  pub member_refuses : (tail b at len : ℕ) → IsOpenNumber T tail → (f : Fault) → Refuses (member_order T n tail b at len) f → Refuses (member_order F n tail b at len) f
  member_refuses tail b at len o f r = elim r [
    | inl x ↦ inl (elim x [ inl a ↦ inl ((overlap_reaches tail b at len o).0 a.0, a.1) | inr a ↦ inr (λ k. a.0 ((overlap_reaches tail b at len o).1 k), rw long a.1) ])
    | inr m ↦ inr (member_clear_is tail b at len o m.0, m.1)
  ]

  pub foretells_is : (head tail b at len number : ℕ) (g : Grade) → ForetellsSparse (unprepared p) head b at len number g → Foretells (unprepared (whole_known rows p)) head tail b at len number g
  foretells_is head tail b at len number g told k h new m = foretold_is rows T n W head tail b at len number k g h new.heads told m.row

  -- what is known after a call is whole too, and the call is one over whole rows
  module _ (q : Known) where
    pub same_over : q ≡ unprepared p → AreWhole rows q.heads q.numbers
    same_over e = subst (λ (k : Known). AreWhole rows k.heads k.numbers) (sym e) W

    at_numbers : (number : ℕ) → q.numbers ≡ number → AreWhole rows q.heads number → AreWhole rows q.heads q.numbers
    at_numbers number e V = subst (AreWhole rows q.heads) (sym e) V

    pub gate_known : (number : ℕ) → AddsGate p number q → AddsGate (whole_known rows p) number (whole_known rows q) × AreWhole rows q.heads q.numbers
    gate_known number a =
        let k = gated_whole rows T n W number q.heads a.row in
        (record { clear = rw long a.clear; row = k.0; numbers = a.numbers; blocks = a.blocks; groups = a.groups; prepared = a.prepared }, at_numbers number a.numbers k.1)

    pub empty_known : (after : List ℕ) (number : ℕ) → AddsEmpty p after number q → AddsEmpty (whole_known rows p) after number (whole_known rows q) × AreWhole rows q.heads q.numbers
    empty_known after number a =
        let k = emptied_whole rows T n W after number q.heads a.row in
        (record { clear = (a.clear.0, (a.clear.1.0, rw long a.clear.1.1)); row = k.0; numbers = a.numbers; blocks = a.blocks; groups = a.groups; prepared = a.prepared }, at_numbers number a.numbers k.1)

    pub seal_known : (g : ℕ) → SealsGate p g q → SealsGate (whole_known rows p) g (whole_known rows q) × AreWhole rows q.heads q.numbers
    seal_known g a =
        let k = sealed_whole rows T n W g q.heads a.row in
        (record { clear = seal_clear g a.clear; row = k.0; numbers = a.numbers; blocks = a.blocks; groups = a.groups; prepared = a.prepared }, at_numbers n a.numbers k.1)

    pub begun_known : (g : ℕ) → SealsIfOpen p g q → SealsIfOpen (whole_known rows p) g (whole_known rows q) × AreWhole rows q.heads q.numbers
    begun_known g s =
        let k = begun_whole rows T n W g q.heads s.row in
        (record { row = k.0; state = ap (whole_known rows) s.state }, at_numbers n (ap (λ (k : Known). k.numbers) s.state) k.1)

    pub gains_known : (g : ℕ) (on : List ℕ) → DependsGate p g on q → DependsGate (whole_known rows p) g on (whole_known rows q) × AreWhole rows q.heads q.numbers
    gains_known g on a =
        let k = gains_whole rows T n W g on q.heads a.row in
        (record { clear = depend_clear g on a.clear; row = k.0; numbers = a.numbers; blocks = a.blocks; groups = a.groups; prepared = a.prepared }, at_numbers n a.numbers k.1)

    pub launch_over : (chosen : List ℕ) → MayLaunch (whole_known rows p) chosen → Launches p chosen q → AreWhole rows q.heads q.numbers
    launch_over chosen m a = at_numbers n a.numbers (launched_over rows T n W m.block chosen q.heads m.writable m.choice a.row)

    pub launch_made : (chosen : List ℕ) → Launches p chosen q → Launches (whole_known rows p) chosen (whole_known rows q)
    launch_made chosen a = record { row = launched_is rows T n W chosen q.heads a.row; numbers = a.numbers; blocks = a.blocks; groups = a.groups; prepared = a.prepared }

    pub land_known : (b : ℕ) → LandsBlock p b q → LandsBlock (whole_known rows p) b (whole_known rows q) × AreWhole rows q.heads q.numbers
    land_known b a =
        let k = landed_whole rows T n W b q.heads a.row in
        (record { row = k.0; numbers = a.numbers; blocks = a.blocks; groups = a.groups; prepared = a.prepared }, at_numbers n a.numbers k.1)

    pub forget_known : (dropped : ℕ) → Forgets p dropped q → Forgets (whole_known rows p) dropped (whole_known rows q) × AreWhole rows q.heads q.numbers
    forget_known dropped a =
        (record { row = forgotten_is rows T n W dropped q.heads a.row; numbers = a.numbers; blocks = a.blocks; groups = a.groups; prepared = a.prepared }, at_numbers n a.numbers (forgotten_over rows T n W dropped q.heads a.row))

    pub pair_known : (number : ℕ) → AddsPair p number q → AddsPair (whole_known rows p) number (whole_known rows q) × AreWhole rows q.heads q.numbers
    pair_known number a =
        let k = grouped_is rows T n number q.heads W a.row in
        (record { clear = rw long a.clear; row = k.0; state = ap (whole_known rows) a.state }, at_numbers (number + 1) (ap (λ (k : Known). k.numbers) a.state) k.1)

    pub change_known : (b at len : ℕ) (after : List ℕ) (number : ℕ) (g : Grade) → AddsSparse (unprepared p) b at len after number g q
        → AddsChange (unprepared (whole_known rows p)) b at len after number g (whole_known (with_row rows q.heads number after b at len) q) × AreWhole (with_row rows q.heads number after b at len) q.heads q.numbers
    change_known b at len after number g a =
        let k = changed_is rows T n W b at len after number g q.heads a.row in
        (record { clear = (a.clear.0, (a.clear.1.0, rw long a.clear.1.1)); row = k.0; numbers = a.numbers; blocks = a.blocks; groups = a.groups; prepared = a.prepared }, subst (AreWhole (with_row rows q.heads number after b at len) q.heads) (sym a.numbers) k.1)

    -- the tail of the group is open before the call too
    tail_open : (head tail b at len number : ℕ) (g : Grade) → GainsSparse (unprepared p) head tail b at len number g q → IsOpenNumber T tail
    tail_open head tail b at len number g a =
        let r = a.row in
        let o = r.tie.gate in
        elim (Contains-push_cases r.begun _ o.patch (subst (λ hs. Contains hs o.patch) r.change.added o.head)) [
          | inl h ↦ opened head tail r.begun r.begin (record { patch = o.patch; head = h; numbered = o.numbered; is_open = o.is_open })
          | inr e ↦ absurd (no_gate o.patch (sym e) o.is_open)
        ]
      where
        no_gate : {number b at len : ℕ} {g : Grade} {deps : List ℕ} (x : Patch) → x ≡ fresh number (Change b at len g) deps → IsOpenGate x → ⊥
        no_gate x e k = let f = ap (λ (y : Patch). y.kind) e in cc

        opened : (head tail : ℕ) (begun : List Patch) → GateIsSealedIfOpen T head begun → IsOpenNumber begun tail → IsOpenNumber T tail
        opened head tail begun (inr same) o = subst (λ hs. IsOpenNumber hs tail) same.1 o
        opened head tail begun (inl seal) o =
            let s = (sealed_whole rows T n W head begun seal).0 in
            let k = (open_number rows begun tail).0 o in
            let w = back_alike F (map (whole rows) begun) (alike_sealed F (map (whole rows) begun) n head (loosened W.lawful) s.gate s.cascade) k.patch k.head in
            (open_number rows T tail).1 (record { patch = w.0; head = w.1; numbered = sym w.2.number ∙ k.numbered; is_open = open_back w.0 k.patch w.2 k.is_open })

    pub member_known : (head tail b at len number : ℕ) (g : Grade) → GainsSparse (unprepared p) head tail b at len number g q
        → GainsMember (unprepared (whole_known rows p)) head tail b at len number g (whole_known (with_row rows q.heads number (head ∷ []) b at len) q) × AreWhole (with_row rows q.heads number (head ∷ []) b at len) q.heads q.numbers
    member_known head tail b at len number g a =
        let more = with_row rows q.heads number (head ∷ []) b at len in
        let k = member_is rows T n W head tail b at len number g q.heads a.row in
        let clear = member_clear_is tail b at len (tail_open head tail b at len number g a) a.clear in
        (record { clear = clear; row = k.0; state = ap (whole_known more) a.state }, subst (AreWhole more q.heads) (sym (ap (λ (k : Known). k.numbers) a.state)) k.1)

  pub foresees_is : (b at len : ℕ) (after : List ℕ) (number : ℕ) (g : Grade) → ForeseesSparse (unprepared p) b at len after number g → Foresees (unprepared (whole_known rows p)) b at len after number g
  foresees_is b at len after number g x = (whole_known (with_row rows x.0.heads number after b at len) x.0, (change_known x.0 b at len after number g x.1).0)
