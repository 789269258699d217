-- What blocks need when a gate gains names, when patches are forgotten, and with one patch more.
use Rattle.std.proofs.Common.{◌≡◌, ◌≤◌, true, not, ◌+◌, ◌++◌, ◌∷◌, ◌⊎◌, [], ℕ, List, map, filter, Contains, refl, sym, ap, subst, ◌∙◌, inl, inr, arith}
use Rattle.std.proofs.lemmas.{Bool.cases_eq, List.Elements.{Contains-push, Contains-push_cases, Contains-append_left}}
use Rattle.fst_types.specs.{Closure.{one, join}, Dependencies.{DirectlyOn, DependsOn, IsLiveNumber}, Facts.{HasOnePlaceEach, IsOnDiskWithAll}, Gates.{IsOpenNumber}, Gating.gains, Patches.{Patch, IsOn, IsHard, IsLive, IsOpenGate, IsRising, block_of_kind, grade_of_kind}, Tests.{is_at, is_live}}
use Rattle.fst_types.specs.{declared.grade.Grade.Grade, declared.place.Place.Place}
use Rattle.fst_types.proofs.{Alike.closure_map, Crash.same_number, Dropping.{filter_in, in_filter}, Depending.{grown}, Finite.{In-from_Contains, Contains-from_In, In-map}, GateGains.{direct_cases}}
use Rattle.fst_heads.specs.{Grading.IsHardNumber}
use Rattle.fst_heads.proofs.Covering.{was_gained}
use Rattle.fst_levels.specs.Needing.{AreNeeded, IsAtOrUnder, IsHardAt, IsNeededBy, IsPut, IsSpared, IsStoodFor, needs_of}
use Rattle.fst_levels.proofs.{Holding.live_up, NeedsKept.{at_hard, goes_on, hard_at}, Releveled.hard_was, Staying.{gained_stays, one_stays, still_stays}}
use Rattle.fst_types.specs.declared.grade.Grade.TheVariants as grade
use Rattle.fst_types.specs.declared.place.Place.TheVariants as place

-- an open gate gains names
module _ (old : List Patch) (rising : IsRising old) (g : ℕ) (names : List ℕ) (gate : IsOpenNumber old g) where
  abbrev gained : List Patch
  gained = map (gains g names) old

  now_in : (o : Patch) → Contains old o → Contains gained (gains g names o)
  now_in o h = Contains-from_In gained (gains g names o) (In-map (gains g names) old o (gains g names o) (In-from_Contains old o h) refl)

  at_gained : (at : Place) (d n : ℕ) → IsHardAt old at d n → IsHardAt gained at d n
  at_gained at d n h =
      let k = grown g names h.patch in
      record {
        patch = gains g names h.patch;
        head = now_in h.patch h.head;
        numbered = k.number ∙ h.numbered;
        change = ap block_of_kind k.kind ∙ h.change;
        hard = ap grade_of_kind k.kind ∙ h.hard;
        place = k.place ∙ h.place;
      }

  direct_is : (p q : ℕ) → DirectlyOn old p q → DirectlyOn gained p q
  direct_is p q d = let k = grown g names d.patch in record { patch = gains g names d.patch; head = now_in d.patch d.head; numbered = k.number ∙ d.numbered; named = k.kept q d.named }

  -- no change is the gate
  no_gate : (c h : ℕ) → IsHardNumber old c h → h ≡ g → ⊥
  no_gate c h x e =
      let same = same_number old x.patch gate.patch rising x.head gate.head (x.numbered ∙ (e ∙ sym gate.numbered)) in
      open_change x.patch c (ap (λ p. p.kind) same ∙ gate.is_open) x.hard.change
    where
      open_change : (p : Patch) (c : ℕ) → IsOpenGate p → IsOn p c → ⊥
      open_change p c is_open on = cc

  pub gained_needed : (needs : ℕ → List ℕ) → AreNeeded old needs → AreNeeded (map (gains g names) old) needs
  gained_needed needs = goes_on old gained needs needs (record {
    was = hard_was old g names gate;
    direct = λ c h q hard d. elim (direct_cases old g names h q d) [ inl before ↦ before | inr more ↦ absurd (no_gate c h (hard_was old g names gate c h hard) more.0) ];
    headed = λ q h. let o = was_gained old g names q h in (o.0, o.1, sym o.2.number);
    fewer = λ c n k. k;
    stays = λ c n h k o. record {
      hard = at_hard gained c h (at_gained place.Memory c h (hard_at old c h o.hard));
      older = o.older;
      depends = λ q head e. let r = was_gained old g names q head in closure_map (DirectlyOn old) (DirectlyOn gained) direct_is h n (o.depends r.0 r.1 (sym r.2.number ∙ e));
    };
    all = λ c h n hard k. k;
    together = λ q at d head h. (at, at_gained at d q.number h, λ n o. at_gained at d n o);
    staying = gained_stays old g names gate;
  })

-- what is on disk is forgotten
module _ (old : List Patch) (rising : IsRising old) (disk : IsOnDiskWithAll old) where
  abbrev left : List Patch
  left = filter is_live old

  left_in : (p : Patch) → Contains left p → Contains old p × (is_live p ≡ true)
  left_in p h = let r = filter_in is_live old p (In-from_Contains left p h) in (Contains-from_In old p r.0, r.1)

  stays_in : (p : Patch) → Contains old p → is_live p ≡ true → Contains left p
  stays_in p h live = Contains-from_In left p (in_filter is_live old p (In-from_Contains old p h) live)

  live_from : (p : Patch) → is_live p ≡ true → IsLive p
  live_from p e on_disk = let f = sym (ap (λ a. not (is_at a place.Disk)) on_disk) ∙ e in cc

  live_to : (p : Patch) → IsLive p → is_live p ≡ true
  live_to p l = live_at p.place l
    where
      live_at : (at : Place) → (at ≡ place.Disk → ⊥) → not (is_at at place.Disk) ≡ true
      live_at place.Memory l = refl
      live_at place.Flight l = refl
      live_at place.Disk l = absurd (l refl)

  -- all on a path to what is not on disk is left
  path_left : (p q : ℕ) → DependsOn old p q → IsLiveNumber old q → DependsOn left p q
  path_left p q (one d) l =
      let m = live_up old disk p q (one d) l in
      let same = same_number old m.patch d.patch rising m.head d.head (m.numbered ∙ sym d.numbered) in
      one (record { patch = d.patch; head = stays_in d.patch d.head (live_to d.patch (subst IsLive same m.live)); numbered = d.numbered; named = d.named })
  path_left p q (join {q = k} c d) l = join (path_left p k c (live_up old disk k q d l)) (path_left k q d l)

  at_left : (at : Place) (d n : ℕ) → not (is_at at place.Disk) ≡ true → IsHardAt old at d n → IsHardAt left at d n
  at_left at d n live h = record { patch = h.patch; head = stays_in h.patch h.head (ap (λ a. not (is_at a place.Disk)) h.place ∙ live); numbered = h.numbered; change = h.change; hard = h.hard; place = h.place }

  pub left_needed : (needs : ℕ → List ℕ) → AreNeeded old needs → AreNeeded (filter is_live old) needs
  left_needed needs = goes_on old left needs needs (record {
    was = λ c h x. record { patch = x.patch; head = (left_in x.patch x.head).0; numbered = x.numbered; hard = x.hard };
    direct = λ c h q hard d. record { patch = d.patch; head = (left_in d.patch d.head).0; numbered = d.numbered; named = d.named };
    headed = λ q h. (q, (left_in q h).0, refl);
    fewer = λ c n k. k;
    stays = λ c n h k o. record {
      hard = let hard = o.hard in record { patch = hard.patch; head = stays_in hard.patch hard.head (ap (λ a. not (is_at a place.Disk)) hard.hard.memory); numbered = hard.numbered; hard = hard.hard };
      older = o.older;
      depends = λ q head e. let r = left_in q head in path_left h n (o.depends q r.0 e) (record { patch = q; head = r.0; numbered = e; live = live_from q r.1 });
    };
    all = λ c h n hard k. k;
    together = λ q at d head h.
        let was = left_in q head in
        let same = same_number old q h.patch rising was.0 h.head (sym h.numbered) in
        let live : not (is_at at place.Disk) ≡ true = ap (λ a. not (is_at a place.Disk)) (sym h.place) ∙ subst (λ p. is_live p ≡ true) same was.1 in
        (at, at_left at d q.number live h, λ n o. at_left at d n live o);
    staying = still_stays old left (λ p q d. record { patch = d.patch; head = (left_in d.patch d.head).0; numbered = d.numbered; named = d.named })
        (λ n x. record { patch = x.patch; head = (left_in x.patch x.head).0; numbered = x.numbered; is_open = x.is_open })
        (λ c n x. record { patch = x.patch; head = (left_in x.patch x.head).0; numbered = x.numbered; passed = x.passed });
  })

-- one patch more, which no old one names
module _ (old : List Patch) (numbers : ℕ) (H : HasOnePlaceEach old numbers) (p : Patch) (next : p.number ≡ numbers + 1) where
  abbrev with_one : List Patch
  with_one = old ++ p ∷ []

  at_one : (at : Place) (d n : ℕ) → IsHardAt old at d n → IsHardAt with_one at d n
  at_one at d n h = record { patch = h.patch; head = Contains-append_left old (p ∷ []) h.patch h.head; numbered = h.numbered; change = h.change; hard = h.hard; place = h.place }

  direct_one : (m q : ℕ) → DirectlyOn old m q → DirectlyOn with_one m q
  direct_one m q d = record { patch = d.patch; head = Contains-append_left old (p ∷ []) d.patch d.head; numbered = d.numbered; named = d.named }

  path_one : (m q : ℕ) → DependsOn old m q → DependsOn with_one m q
  path_one = closure_map (DirectlyOn old) (DirectlyOn with_one) direct_one

  -- what one depends on was given
  under_given : (m q : ℕ) → DependsOn old m q → q ≤ numbers
  under_given m q (one d) = H.named d.patch q d.head d.named
  under_given m q (join {q = k} c d) = under_given k q d

  stood_one : (c : ℕ) (row more : List ℕ) (q : ℕ) → ((n : ℕ) → Contains row n → Contains more n) → IsStoodFor old c row q → IsStoodFor with_one c more q
  stood_one c row more q longer s = record { at = s.at; block = s.block; hard = at_one s.at s.block q s.hard; by = elim s.by [ inl own ↦ inl own | inr n ↦ inr (n.0, longer n.0 n.1, at_one s.at s.block n.0 n.2) ] }

  spared_one : (c : ℕ) (row more : List ℕ) (q : ℕ) → q ≤ numbers → ((n : ℕ) → Contains row n → Contains more n) → IsSpared old c row q → IsSpared with_one c more q
  spared_one c row more q few longer (inl s) = inl (stood_one c row more q longer s)
  spared_one c row more q few longer (inr on) = inr (one_stays old numbers H p next c q few on)

  here : Contains with_one p
  here = Contains-push old p

  module _ (needs kept : ℕ → List ℕ) (longer : (c n : ℕ) → Contains (needs c) n → Contains (kept c) n)
      (only : (c n : ℕ) → Contains (kept c) n → Contains (needs c) n ⊎ IsNeededBy with_one c n p.number)
      (told : (c q : ℕ) → IsOn p c → IsHard p → Contains p.dependencies q → (q ≤ numbers) × (Contains (kept c) q ⊎ IsSpared old c (kept c) q)) (N : AreNeeded old needs) where
    named_one : (c n : ℕ) → Contains (kept c) n → (h : ℕ) × IsNeededBy with_one c n h
    named_one c n k = elim (only c n k) [
      | inl before ↦
          let o = N.named c n before in
          let was = o.1.hard in (
            o.0,
            record {
              hard = at_hard with_one c o.0 (at_one place.Memory c o.0 (hard_at old c o.0 was));
              older = o.1.older;
              depends = λ q head e. elim (Contains-push_cases old p q head) [
                | inl there ↦ path_one o.0 n (o.1.depends q there e)
                | inr same ↦
                    let few = (H.numbered was.patch was.head).1 in
                    absurd (omega (arith, few, next, o.1.older, was.numbered, e, ap (λ (v : Patch). v.number) same))
              ];
            },
          )
      | inr own ↦ (p.number, own)
    ]

    -- the new one has a number of its own
    other : (x y : Patch) → Contains old x → p ≡ y → x.number ≡ y.number → ⊥
    other x y h e same = let k = (H.numbered x h).1 in omega (arith, k, same, next, ap (λ (v : Patch). v.number) e)

    whole_one : (c h : ℕ) (q : Patch) → IsHardNumber with_one c h → Contains with_one q → DirectlyOn with_one h q.number → Contains (kept c) q.number ⊎ IsSpared with_one c (kept c) q.number
    whole_one c h q hard head d = elim (Contains-push_cases old p hard.patch hard.head) [
      | inl before ↦ elim (Contains-push_cases old p d.patch d.head) [
        | inl still ↦ elim (Contains-push_cases old p q head) [
          | inl there ↦
              let was : IsHardNumber old c h = record { patch = hard.patch; head = before; numbered = hard.numbered; hard = hard.hard } in
              let named : DirectlyOn old h q.number = record { patch = d.patch; head = still; numbered = d.numbered; named = d.named } in
              elim (N.whole c h q was there named) [ inl k ↦ inl (longer c q.number k) | inr s ↦ inr (spared_one c (needs c) (kept c) q.number (H.numbered q there).1 (longer c) s) ]
          | inr e ↦ let k = H.named d.patch q.number still d.named in absurd (omega (arith, k, next, ap (λ (v : Patch). v.number) e))
        ]
        | inr e ↦ absurd (other hard.patch d.patch before e (hard.numbered ∙ sym d.numbered))
      ]
      | inr e ↦ elim (Contains-push_cases old p d.patch d.head) [
        | inl still ↦ absurd (other d.patch hard.patch still e (d.numbered ∙ sym hard.numbered))
        | inr f ↦
            let named : Contains p.dependencies q.number = subst (λ (v : Patch). Contains v.dependencies q.number) (sym f) d.named in
            let here = told c q.number (subst (λ (v : Patch). IsOn v c) (sym e) hard.hard.change) (subst IsHard (sym e) hard.hard.hard) named in
            elim here.1 [ inl k ↦ inl k | inr s ↦ inr (spared_one c (kept c) (kept c) q.number here.0 (λ n k. k) s) ]
      ]
    ]

    one_needed : AreNeeded with_one kept
    one_needed = record { named = named_one; whole = whole_one }

  -- it is no hard change
  pub other_needed : ((b : ℕ) → IsOn p b → IsHard p → ⊥) → (needs : ℕ → List ℕ) → AreNeeded old needs → AreNeeded (old ++ p ∷ []) needs
  other_needed soft needs N = one_needed needs needs (λ c n k. k) (λ c n k. inl k) (λ c q on hard k. absurd (soft c on hard)) N

  -- it is a change of block b
  pub change_needed : p.place ≡ place.Memory → (b : ℕ) (g : Grade) → ((c : ℕ) → IsOn p c → c ≡ b) → (IsHard p → g ≡ grade.Hard) → IsOn p b → (g ≡ grade.Hard → IsHard p) → ((q : ℕ) → Contains p.dependencies q → q ≤ numbers) → (lists grown : List (List ℕ)) → IsPut old b p.dependencies g lists grown
      → AreNeeded old (needs_of lists) → AreNeeded (old ++ p ∷ []) (needs_of grown)
  change_needed memory b g same graded on hard own lists grown put N = one_needed (needs_of lists) (needs_of grown) longer only (λ c q at is k. (own q k, subst (λ x. Contains (needs_of grown x) q ⊎ IsSpared old x (needs_of grown x) q) (sym (same c at)) (put.told (graded is) q k))) N
    where
      longer : (c n : ℕ) → Contains (needs_of lists c) n → Contains (needs_of grown c) n
      longer c n k = elim (cases_eq c b) [
        | inl e ↦ subst (λ x. Contains (needs_of grown x) n) (sym e) (put.kept n (subst (λ x. Contains (needs_of lists x) n) e k))
        | inr away ↦ subst (λ row. Contains row n) (sym (put.others c away)) k
      ]

      -- what is at or under its row it depends on
      depends_one : (n : ℕ) → IsAtOrUnder old p.dependencies n → (n ≤ numbers) × DependsOn with_one p.number n
      depends_one n (inl c) = (own n c, one (record { patch = p; head = here; numbered = refl; named = c }))
      depends_one n (inr t) = (under_given t.0 n t.2, join (one (record { patch = p; head = here; numbered = refl; named = t.1 })) (path_one t.0 n t.2))

      only : (c n : ℕ) → Contains (needs_of grown c) n → Contains (needs_of lists c) n ⊎ IsNeededBy with_one c n p.number
      only c n k = elim (cases_eq c b) [
        | inl e ↦ elim (put.only n (subst (λ x. Contains (needs_of grown x) n) e k)) [
          | inl before ↦ inl (subst (λ x. Contains (needs_of lists x) n) (sym e) before)
          | inr more ↦
              let under = depends_one n more.1 in
              inr (record {
                hard = record { patch = p; head = here; numbered = refl; hard = record { change = subst (IsOn p) (sym e) on; memory = memory; hard = hard more.0 } };
                older = omega (arith, under.0, next);
                depends = λ q head at. under.1;
              })
        ]
        | inr away ↦ inl (subst (λ row. Contains row n) (put.others c away) k)
      ]
