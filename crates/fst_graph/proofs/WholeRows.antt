-- Each step over patches with sparse rows is one over the same with whole rows, of which these still keep a part.
use Rattle.std.proofs.Common.{Bool, true, false, if◌then◌else◌, ◌≡◌, ◌⊎◌, ◌↔◌, ℕ, ◌==◌, ◌+◌, ◌≤◌, Some, List, [], ◌∷◌, ◌++◌, map, filter, Contains, refl, sym, ap, subst, ◌∙◌, inl, inr, arith}
use Rattle.std.proofs.lemmas.{Bool.{cases_Bool, eqb-true}, List.Elements.Contains-append_left}
use Rattle.fst_types.specs.{Cascade.IsCascadeOf, Closure.{one, join}, Dependencies.{DirectlyOn, DependsOn, IsLiveNumber, IsOnDisk}, Facts.{HeadsAreLawful, IsOnDiskWithAll}}
use Rattle.fst_types.specs.{Forgetting.DiskIsForgotten, Gates.IsOpenNumber, Gating.{gains, sealed, GateGains, GateIsSealed}, Grouping.{GateIsSealedIfOpen, GroupIsMade}}
use Rattle.fst_types.specs.{Making.{fresh, EmptyIsMade, GateIsMade}, Order.NamesAbove, Patches.{Empty, OpenGate, SealedGate, Patch, IsLive, block_of_kind}}
use Rattle.fst_types.specs.{Tests.{is_at, is_live, is_among, is_change_at}, Writable.{IsWritable, IsWritableSet}, Writing.{launched, landed, WriteIsLaunched, WriteIsLanded}, declared.place.Place.Place}
use Rattle.fst_graph.specs.Rows.{whole, AreWhole}
use Rattle.fst_types.proofs.{Crash.same_number, Dropping.{filter_in, in_filter, heads_dropped}, Finite.{In-from_Contains, Contains-from_In}}
use Rattle.fst_types.proofs.Heads.{heads_gated, heads_emptied, heads_depended}
use Rattle.fst_types.proofs.{Heirs.{NoneShut, Heirs, heirs_pushed, heirs_cascade, heirs_gained, heirs_sealed, heirs_launched, heirs_landed, passes}, Issuing.heads_launched, Landing.heads_landed}
use Rattle.fst_types.proofs.{Numbers.live_cases, Sealing.heads_sealed}
use Rattle.fst_heads.proofs.{CountsAs.count_map, Forgetting.{live_place_of}}
use Rattle.fst_levels.proofs.Holding.{live_up}
use Rattle.fst_graph.proofs.Wholes.{whole_open, open_other, IsKept, kept_self, AreKept, kept_then, kept_map, kept_cascade, kept_pushed, sparse_kept, cascade_whole, swap_landed, swap_launched, swap_sealed, swap_gains, swap_filter, swap_pushed, open_lives, is, was, live_number, open_number, depends_up, depends_down}
use Rattle.fst_types.specs.declared.place.Place.TheVariants as place
use Rattle.fst_types.proofs.Numbers.{not_disk}

-- where no patch with the number is live, it is on disk
pub live_or_disk : (heads : List Patch) (n : ℕ) → IsLiveNumber heads n ⊎ IsOnDisk heads n
live_or_disk heads n = elim (live_cases heads n) [ inl l ↦ inl (record { patch = l.0; head = l.1; numbered = l.2; live = l.3 }) | inr disk ↦ inr disk.0 ]

-- what is live later was live
pub lived : (Shut : ℕ → Type 0) (old new : List Patch) (numbers later : ℕ) → HeadsAreLawful old numbers → HeadsAreLawful new later → Heirs Shut numbers old new → (n : ℕ) → n ≤ numbers → IsLiveNumber new n → IsLiveNumber old n
lived Shut old new numbers later H K heirs n few l = elim (live_or_disk old n) [
  | inl live ↦ live
  | inr disk ↦ elim ((passes Shut old new numbers later H K heirs).tied 0 n few (inl disk)) [
    | inl still ↦ absurd (l.live (still l.patch l.head l.numbered))
    | inr d ↦ let some = (K.one_place_each.numbered d.patch d.head).0 in let e = d.numbered in absurd (omega (arith, some, e))
  ]
]

module _ (rows : List (ℕ × List ℕ)) (T : List Patch) (numbers : ℕ) (W : AreWhole rows T numbers) where
  abbrev F : List Patch
  F = map (whole rows) T

  abbrev D : IsOnDiskWithAll F
  D = W.lawful.on_disk_with_all

  pub named : (p : Patch) (q : ℕ) → Contains T p → Contains (whole rows p).dependencies q → q ≤ numbers
  named p q h c = W.lawful.one_place_each.named (whole rows p) q (is rows T p h) c

  -- of a step that keeps each patch the same holds
  over : (Shut : ℕ → Type 0) (new : List Patch) (later : ℕ) → HeadsAreLawful (map (whole rows) new) later → Heirs Shut numbers F (map (whole rows) new) → AreKept T new → numbers ≤ later → AreWhole rows new later
  over Shut new later K heirs kept few = record {
    lawful = K;
    sparse = sparse_kept rows T new numbers later W.sparse kept named (λ n small l. (live_number rows T n).1 (lived Shut F (map (whole rows) new) numbers later W.lawful K heirs n small ((live_number rows new n).0 l))) few;
  }

  -- a gate that is open
  pub gate_only : (g : ℕ) → IsOpenNumber T g → (p : Patch) → Contains T p → p.number ≡ g → p.kind ≡ OpenGate
  gate_only g o p h e =
      ap (λ x. x.kind) (same_number F (whole rows p) (whole rows o.patch) W.lawful.one_place_each.rising (is rows T p h) (is rows T o.patch o.head) (e ∙ sym o.numbered)) ∙ o.is_open

  -- a gate is sealed
  kept_sealed : (g : ℕ) (p : Patch) → IsKept p (sealed g p)
  kept_sealed g p = elim (cases_Bool (p.number == g)) [
    | inl t ↦ rw t (record { number = refl; more = λ q c. c; change = λ b on. absurd (shut b on) })
    | inr f ↦ rw f (kept_self p)
  ]
    where
      shut : (b : ℕ) → block_of_kind SealedGate ≡ Some b → ⊥
      shut b e = cc

  pub sealed_whole : (g : ℕ) (new : List Patch) → GateIsSealed T g new → GateIsSealed F g (map (whole rows) new) × AreWhole rows new numbers
  sealed_whole g new s =
      let r : GateIsSealed F g (map (whole rows) new) = record {
        gate = (open_number rows T g).0 s.gate;
        cascade = subst (λ mid. IsCascadeOf mid (map (whole rows) new)) (sym (swap_sealed rows g T (gate_only g s.gate))) (cascade_whole rows (map (sealed g) T) new s.cascade);
      } in (
        r,
        over (λ n. n ≡ g) new numbers (heads_sealed F (map (whole rows) new) numbers g W.lawful r.gate r.cascade)
            (heirs_cascade (λ n. n ≡ g) numbers F (map (sealed g) F) (map (whole rows) new) (heirs_sealed numbers g F W.lawful r.gate) r.cascade)
            (kept_then T (map (sealed g) T) new (kept_map (sealed g) T (λ p h. kept_sealed g p)) (kept_cascade (map (sealed g) T) new s.cascade)) (omega arith),
      )

  pub begun_whole : (g : ℕ) (new : List Patch) → GateIsSealedIfOpen T g new → GateIsSealedIfOpen F g (map (whole rows) new) × AreWhole rows new numbers
  begun_whole g new s = elim s [
    | inl seal ↦ let k = sealed_whole g new seal in (inl k.0, k.1)
    | inr shut ↦ (inr (λ o. shut.0 ((open_number rows T g).1 o), ap (map (whole rows)) shut.1), subst (λ heads. AreWhole rows heads numbers) (sym shut.1) W)
  ]

  -- what was in flight of a block is on disk
  kept_placed : (t : Bool) (x : Place) (p : Patch) → IsKept p (if t then record p { place = x } else p)
  kept_placed true x p = record { number = refl; more = λ q c. c; change = λ c on. (refl, refl) }
  kept_placed false x p = kept_self p

  pub landed_whole : (b : ℕ) (new : List Patch) → WriteIsLanded T b new → WriteIsLanded F b (map (whole rows) new) × AreWhole rows new numbers
  landed_whole b new s =
      let r : WriteIsLanded F b (map (whole rows) new) = subst (λ mid. IsCascadeOf mid (map (whole rows) new)) (sym (swap_landed rows b T)) (cascade_whole rows (map (landed b) T) new s) in (
        r,
        over NoneShut new numbers (heads_landed F (map (whole rows) new) numbers b W.lawful r)
            (heirs_cascade NoneShut numbers F (map (landed b) F) (map (whole rows) new) (heirs_landed numbers b F) r)
            (kept_then T (map (landed b) T) new (kept_map (landed b) T (λ p h. kept_placed (is_change_at place.Flight b p) place.Disk p)) (kept_cascade (map (landed b) T) new s)) (omega arith),
      )

  -- the chosen are in flight
  pub launched_is : (chosen : List ℕ) (new : List Patch) → WriteIsLaunched T chosen new → WriteIsLaunched F chosen (map (whole rows) new)
  launched_is chosen new s = ap (map (whole rows)) s ∙ sym (swap_launched rows chosen T)

  pub launched_over : (b : ℕ) (chosen : List ℕ) (new : List Patch) → IsWritable F b → IsWritableSet F b chosen → WriteIsLaunched T chosen new → AreWhole rows new numbers
  launched_over b chosen new writable choice s =
      let r = sym (launched_is chosen new s) in
      over NoneShut new numbers (subst (λ heads. HeadsAreLawful heads numbers) r (heads_launched F numbers b chosen W.lawful writable choice))
      (subst (Heirs NoneShut numbers F) r (heirs_launched numbers b chosen F W.lawful writable choice))
      (subst (AreKept T) (sym s) (kept_map (launched chosen) T (λ p h. kept_placed (is_among chosen p.number) place.Flight p))) (omega arith)

  -- an open gate gains named patches
  pub direct_gate : (g : ℕ) → IsOpenNumber T g → (n : ℕ) → DirectlyOn T g n ↔ DirectlyOn F g n
  direct_gate g o n = (
    λ d. record { patch = whole rows d.patch; head = is rows T d.patch d.head; numbered = d.numbered; named = W.sparse.only d.patch n d.head d.named },
    λ d.
        let w = was rows T d.patch d.head in
        let e = ap (λ x. x.number) w.2 ∙ d.numbered in
        record {
          patch = w.0;
          head = w.1;
          numbered = e;
          named = subst (λ ds. Contains ds n) (whole_open rows w.0 (gate_only g o w.0 w.1 e)) (subst (λ (x : Patch). Contains x.dependencies n) (sym w.2) d.named);
        },
  )

  pub gate_live : (g : ℕ) → IsOpenNumber T g → IsLiveNumber T g
  gate_live g o = (live_number rows T g).1 (open_lives F D g ((open_number rows T g).0 o))

  pub above_same : (g : ℕ) (on : List ℕ) → IsOpenNumber T g → NamesAbove T g on ↔ NamesAbove F g on
  above_same g on o = (
    λ a. (a.0, a.1, elim a.2 [ inl e ↦ inl e | inr d ↦ inr (depends_up rows T numbers W.sparse D a.0 g d) ]),
    λ a. (a.0, a.1, elim a.2 [ inl e ↦ inl e | inr d ↦ inr (depends_down rows T numbers W.sparse D a.0 g d (gate_live g o)) ]),
  )

  pub gains_whole : (g : ℕ) (on : List ℕ) (new : List Patch) → GateGains T g on new → GateGains F g on (map (whole rows) new) × AreWhole rows new numbers
  gains_whole g on new s =
      let r : GateGains F g on (map (whole rows) new) = record {
        gate = (open_number rows T g).0 s.gate;
        clear = λ a. s.clear ((above_same g on s.gate).1 a);
        names = s.names;
        live = record {
          rising = s.live.rising;
          only = λ n c. let k = s.live.only n c in ((live_number rows T n).0 k.0, k.1, λ d. k.2 ((direct_gate g s.gate n).1 d));
          each = λ n k. s.live.each n ((live_number rows T n).1 k.0, k.1, λ d. k.2 ((direct_gate g s.gate n).0 d));
        };
        gained = ap (map (whole rows)) s.gained ∙ sym (swap_gains rows g s.names T (gate_only g s.gate));
      } in (
        r,
        over NoneShut new numbers (heads_depended F (map (whole rows) new) numbers g on r W.lawful)
            (subst (Heirs NoneShut numbers F) (sym r.gained) (heirs_gained numbers g s.names F W.lawful r.gate))
            (subst (AreKept T) (sym s.gained) (kept_map (gains g s.names) T (λ p h. kept_gains p h))) (omega arith),
      )
    where
      kept_gains : (p : Patch) → Contains T p → IsKept p (gains g s.names p)
      kept_gains p h = elim (cases_Bool (p.number == g)) [
        | inl t ↦ rw t (record {
          number = refl;
          more = λ q c. Contains-append_left p.dependencies s.names q c;
          change = λ b on. absurd (open_other rows p (gate_only g s.gate p h (eqb-true p.number g t)) b on);
        })
        | inr f ↦ rw f (kept_self p)
      ]

  -- a new gate
  pub gated_whole : (number : ℕ) (new : List Patch) → GateIsMade T numbers number new → GateIsMade F numbers number (map (whole rows) new) × AreWhole rows new number
  gated_whole number new s =
      let r : GateIsMade F numbers number (map (whole rows) new) = record { next = s.next; added = ap (map (whole rows)) s.added ∙ swap_pushed rows T (fresh number OpenGate []) } in
      let next = s.next in (
        r,
        over NoneShut new number (heads_gated F (map (whole rows) new) numbers number r W.lawful)
            (subst (Heirs NoneShut numbers F) (sym r.added) (heirs_pushed numbers F (fresh number OpenGate []) s.next))
            (subst (AreKept T) (sym s.added) (kept_pushed T (fresh number OpenGate []) (λ b e. cc))) (omega (arith, next)),
      )

  -- a new empty patch
  pub emptied_whole : (after : List ℕ) (number : ℕ) (new : List Patch) → EmptyIsMade T numbers after number new → EmptyIsMade F numbers after number (map (whole rows) new) × AreWhole rows new number
  emptied_whole after number new s =
      let next = s.next in
      let p = fresh number Empty s.dependencies in
      let r : EmptyIsMade F numbers after number (map (whole rows) new) = record {
        next = next;
        dependencies = s.dependencies;
        depends = record {
          rising = s.depends.rising;
          only = λ n c. let k = s.depends.only n c in ((live_number rows T n).0 k.0, k.1);
          each = λ n k. s.depends.each n ((live_number rows T n).1 k.0, k.1);
        };
        cascade = subst (λ mid. IsCascadeOf mid (map (whole rows) new)) (swap_pushed rows T p) (cascade_whole rows (T ++ p ∷ []) new s.cascade);
      } in (
        r,
        over NoneShut new number (heads_emptied F (map (whole rows) new) numbers after number r W.lawful)
            (heirs_cascade NoneShut numbers F (F ++ p ∷ []) (map (whole rows) new) (heirs_pushed numbers F p s.next) r.cascade)
            (kept_then T (T ++ p ∷ []) new (kept_pushed T p (λ b e. cc)) (kept_cascade (T ++ p ∷ []) new s.cascade)) (omega (arith, next)),
      )

  -- what is on disk is forgotten
  pub forgotten_is : (dropped : ℕ) (new : List Patch) → DiskIsForgotten T dropped new → DiskIsForgotten F dropped (map (whole rows) new)
  forgotten_is dropped new s = record { counted = s.counted ∙ sym (count_map (λ p. is_at p.place place.Disk) (λ p. is_at p.place place.Disk) (whole rows) T (λ x h. refl)); kept = ap (map (whole rows)) s.kept ∙ sym (swap_filter rows T) }

  pub forgotten_over : (dropped : ℕ) (new : List Patch) → DiskIsForgotten T dropped new → AreWhole rows new numbers
  forgotten_over dropped new s = subst (λ heads. AreWhole rows heads numbers) (sym s.kept) (record {
    lawful = subst (λ heads. HeadsAreLawful heads numbers) (swap_filter rows T) (heads_dropped F numbers W.lawful);
    sparse = record {
      only = λ p q h c. W.sparse.only p q (stood p h).0 c;
      below = λ p q h c l. still p.number q (W.sparse.below p q (stood p h).0 c (lives q l)) (lives q l);
      given = W.sparse.given;
    };
  })
    where
      stood : (p : Patch) → Contains (filter is_live T) p → Contains T p × IsLive p
      stood p h =
          let k = filter_in is_live T p (In-from_Contains (filter is_live T) p h) in
          (Contains-from_In T p k.0, not_disk p.place k.1)

      stays : (p : Patch) → Contains T p → IsLive p → Contains (filter is_live T) p
      stays p h l = Contains-from_In (filter is_live T) p (in_filter is_live T p (In-from_Contains T p h) (live_place_of p.place l))

      lives : (n : ℕ) → IsLiveNumber (filter is_live T) n → IsLiveNumber T n
      lives n l = record { patch = l.patch; head = (stood l.patch l.head).0; numbered = l.numbered; live = l.live }

      live_higher : (a b : ℕ) → DependsOn T a b → IsLiveNumber T b → IsLiveNumber T a
      live_higher a b d l = (live_number rows T a).1 (live_up F D a b (depends_up rows T numbers W.sparse D a b d) ((live_number rows T b).0 l))

      same_patch : (p : Patch) → Contains T p → IsLiveNumber T p.number → IsLive p
      same_patch p h l e = l.live (on_disk_at p h e l.patch l.head l.numbered)
        where
          on_disk_at : (p : Patch) → Contains T p → p.place ≡ place.Disk → IsOnDisk T p.number
          on_disk_at p h e x i same = sym (ap (λ y. y.place) (same_number F (whole rows p) (whole rows x) W.lawful.one_place_each.rising (is rows T p h) (is rows T x i) (sym same))) ∙ e

      still : (a b : ℕ) → DependsOn T a b → IsLiveNumber T b → DependsOn (filter is_live T) a b
      still a b (one d) l =
          one (record { patch = d.patch; head = stays d.patch d.head (same_patch d.patch d.head (subst (IsLiveNumber T) (sym d.numbered) (live_higher a b (one d) l))); numbered = d.numbered; named = d.named })
      still a b (join {q = r} c d) l = join (still a r c (live_higher r b d l)) (still r b d l)

-- two new gates
pub grouped_is : (rows : List (ℕ × List ℕ)) (T : List Patch) (numbers number : ℕ) (new : List Patch) → AreWhole rows T numbers → GroupIsMade T numbers number new
    → GroupIsMade (map (whole rows) T) numbers number (map (whole rows) new) × AreWhole rows new (number + 1)
grouped_is rows T numbers number new W s =
    let V = gated_whole rows T numbers W number s.with_head s.head in
    let U = gated_whole rows s.with_head number V.1 (number + 1) s.with_tail s.tail in
    let k = gains_whole rows s.with_tail (number + 1) U.1 (number + 1) (number ∷ []) new s.tie in
    (record { with_head = map (whole rows) s.with_head; head = V.0; with_tail = map (whole rows) s.with_tail; tail = U.0; tie = k.0 }, k.1)
