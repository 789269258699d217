-- A walk up from the live changes of a block and one down from the first changes of other blocks below a row: where they meet, a new change of the block over the row may not be hard; where one is at its end and they do not, it may be.
use Rattle.std.proofs.Common.{◌≡◌, ◌≤◌, ◌↔◌, ◌⊎◌, ◌∷◌, [], ℕ, Bool, List, Contains, refl, sym, ap, subst, ◌∙◌, inl, inr, arith}
use Rattle.std.proofs.lemmas.Bool.{cases_Bool, false≢true}
use Rattle.std.proofs.lemmas.List.Elements.{Contains-push}
use Rattle.fst_types.specs.{Closure.{Closure, one, join}, Dependencies.{DependsOn, IsLiveNumber}, Facts.{FlightsStandAlone, IsOnDiskWithAll, HardNeverHold}}
use Rattle.fst_types.specs.{Patches.{Patch, IsRising}}
use Rattle.fst_types.proofs.{Crash.same_number, SmallStates.only_in}
use Rattle.fst_heads.specs.{Grading.{HasUnder, LeadsNowhere, IsHardNumber}, Heads.{IsRising as AreRising, patches_of}, Indices.PassesAt}
use Rattle.fst_heads.specs.{Reaching.{ShowsBlocks}, Tests.passes, declared.head.Head.Head}
use Rattle.fst_heads.proofs.{Listing.rising_patches}
use Rattle.fst_walks.specs.{BothEnds.{AreApart, ComesTo, EndApart, IsFirstAway, IsHigh, IsLowChange, LeadTogether, StepsAway, StepsHigh, StepsLow, StepsTo}, Descending.{IsLedFrom, Visits}}
use Rattle.fst_levels.specs.{Leveling.AreLeveled, Ancestors.AreUnder, Needing.AreNeeded, WayBack.{IsKeptUnder, IsUnderHard, LeadsBack, StepsBack, StepsUp}}
use Rattle.fst_levels.proofs.{KeptOver.kept_is_under, NoWayBack.{Leads, leads_on, goes_up, back_leads, none_leads, off_live}, ComesBack.{live_number, off_not_on}, Holding.live_up, Leveled.level_path, NearRow.rests_may, Trails.none_in}
use Rattle.fst_walks.proofs.{BothEnds.{away_depends, led_leads, leads_led, backs_up, ups_back}, Needed.{StepsDown, StepsWhole, live_whole, steps_whole, whole_met}}
use Rattle.fst_heads.specs.declared.test.Test.TheVariants as test

-- whether the patch passes is known
pub passes_or : (patches : List Patch) → IsRising patches → (t : _) (p : Patch) (n : ℕ) → Contains patches p → p.number ≡ n → PassesAt t patches n ⊎ (PassesAt t patches n → ⊥)
passes_or patches rising t p n head numbered = elim (cases_Bool (passes t p)) [
  | inl said ↦ inl (record { patch = p; head = head; numbered = numbered; passed = said })
  | inr denied ↦ inr (λ x. let same = same_number patches x.patch p rising x.head head (x.numbered ∙ sym numbered) in false≢true (sym denied ∙ (ap (passes t) (sym same) ∙ x.passed)))
]

-- the way down from what depends on a live change of another block, from which a way leads back to b, leads to a first one
module _ (heads : List Head) (rising : AreRising heads) (disk : IsOnDiskWithAll (patches_of heads)) (hard : HardNeverHold (patches_of heads))
    (level floor : ℕ → ℕ) (leveled : AreLeveled (patches_of heads) level floor) (over : ℕ → ℕ) (kept : AreUnder (patches_of heads) over) (b least : ℕ) (low : least ≤ floor b) where
  abbrev patches : List Patch
  patches = patches_of heads

  -- a way leads back to b from what is at or below n
  abbrev ReturnsFrom : ℕ → Type 0
  ReturnsFrom n = LeadsNowhere patches b (n ∷ []) → ⊥

  returns_up : (m n : ℕ) → DependsOn patches m n → ReturnsFrom n → ReturnsFrom m
  returns_up m n d back may = back (record {
    straight = λ u. may.straight (m, Contains-push [] m, inr (below u));
    open_ended = λ u. may.open_ended (m, Contains-push [] m, inr (below u));
  })
    where
      below : {P : ℕ → Type 0} → HasUnder patches (n ∷ []) P → (q : ℕ) × DependsOn patches m q × P q
      below {P} u =
          let e = only_in n u.0 u.1 in
          elim u.2 [
            | inl has ↦ (n, d, subst P (sym e) has)
            | inr low ↦ (low.0, join d (subst (λ k. DependsOn patches k low.0) (sym e) low.1), low.2)
          ]

  -- no way leads back from what is at or below a hard change of b in memory
  under_returns : (n : ℕ) → IsUnderHard patches b n → ReturnsFrom n → ⊥
  under_returns n u back =
      let may = rests_may heads rising b (u.top ∷ []) hard (λ k c. subst (IsHardNumber patches b) (only_in u.top k c) u.hard) in
      let nowhere : LeadsNowhere patches b (u.top ∷ []) = record { straight = may.straight; open_ended = may.open_ended } in
      elim u.over [ inl e ↦ subst ReturnsFrom (sym e) back nowhere | inr path ↦ returns_up u.top n path back nowhere ]

  -- a first one on the way from m to n, above n
  record HasFirst (m n : ℕ) : Type 0 where
    found : ℕ
    away : PassesAt (test.LiveOff b) patches found
    path : Leads (StepsAway patches over level least b) m found
    above : DependsOn patches found n

  -- so what depends on something high is high
  high_up : (p q : ℕ) → DependsOn patches p q → IsHigh patches level least q → IsHigh patches level least p
  high_up p q d high = (live_up patches disk p q d high.0, let f = level_path patches level floor leveled p q d in let k = high.1 in omega (arith, f, k))

  goes_down : (m n : ℕ) → DependsOn patches m n → IsHigh patches level least n → ReturnsFrom n → HasFirst m n ⊎ Closure (StepsAway patches over level least b) m n
  goes_down m n (one d) high back = elim (passes_or patches (rising_patches heads rising) (test.LiveOff b) d.patch m d.head d.numbered) [
    | inl away ↦ inl (record { found = m; away = away; path = inl refl; above = one d })
    | inr own ↦
        let free : IsKeptUnder patches over b m → ⊥ = λ k.
        let under = kept_is_under patches over kept b d.patch d.head (subst (IsKeptUnder patches over b) (sym d.numbered) k) in
        under_returns m (subst (IsUnderHard patches b) d.numbered under) (returns_up m n (one d) back) in
        inr (one (record { own = own; free = free }, d, high))
  ]
  goes_down m n (join {q = k} c d) high back =
      elim (goes_down m k c (high_up k n d high) (returns_up k n d back)) [
        | inl f ↦ inl (record { found = f.found; away = f.away; path = f.path; above = join f.above d })
        | inr path ↦ elim (goes_down k n d high back) [
          | inl f ↦ inl (record { found = f.found; away = f.away; path = leads_on (StepsAway patches over level least b) m k f.found (inr path) f.path; above = f.above })
          | inr more ↦ inr (join path more)
        ]
      ]

  -- no way back falls
  back_rises : (p q : ℕ) → Closure (StepsBack patches b) p q → level p ≤ level q
  back_rises p q (one s) = elim s [
    | inl up ↦ leveled.direct q p up.0
    | inr k ↦ let first = leveled.hard k.block p k.hard in let last = leveled.change k.block q k.change in omega (arith, first, last)
  ]
  back_rises p q (join {q = k} c d) = let e = back_rises p k c in let f = back_rises k q d in omega (arith, e, f)

  module _ (crossed : List Bool) (shown : ShowsBlocks crossed (λ c. c ≡ b)) (row : List ℕ) where
    -- where a way leads back from the row, steps lead up from its end to a first one
    pub first_back : (end : ℕ) → LeadsBack patches b row end → (n : ℕ) × IsFirstAway patches over level least b row n × Closure (StepsUp patches crossed) end n
    first_back end l =
        let up = rising_patches heads rising in
        let last = l.away in
        let live = off_live patches up disk b last l.off in
        let high : IsHigh patches level least last = (live, let first = leveled.change b end l.change in let rises = back_rises end last l.path in omega (arith, low, first, rises)) in
        let back : ReturnsFrom last = back_leads patches up disk b (last ∷ []) end (record { away = last; change = l.change; off = l.off; under = (last, Contains-push [] last, inl refl); path = l.path }) in
        let path = backs_up patches b crossed shown end last l.path in
        let u = l.under in
        elim u.2 [
          | inl e ↦ (last, record { away = l.off; top = u.0; named = u.1; high = subst (IsHigh patches level least) (sym e) high; path = inl e }, path)
          | inr below ↦
              let down = subst (DependsOn patches u.0) below.2 below.1 in
              let top = high_up u.0 last down high in
              elim (goes_down u.0 last down high back) [
                | inl f ↦ (f.found, record { away = f.away; top = u.0; named = u.1; high = top; path = f.path }, join path (backs_up patches b crossed shown last f.found (goes_up patches disk b f.found last f.above live)))
                | inr further ↦ (last, record { away = l.off; top = u.0; named = u.1; high = top; path = inr further }, path)
              ]
        ]

-- a first one is at or below the row
first_under : (patches : List Patch) (over level : ℕ → ℕ) (least b : ℕ) (row : List ℕ) (n : ℕ) → IsFirstAway patches over level least b row n → HasUnder patches row (λ m. m ≡ n)
first_under patches over level least b row n f = (f.top, f.named, elim f.path [ inl e ↦ inl e | inr path ↦ inr (n, away_depends patches over level least b f.top n path, refl) ])

-- of what the way down from the row leads to, the changes of other blocks are first ones
pub first_only : (patches : List Patch) (over level : ℕ → ℕ) (least b : ℕ) (row start met kept : List ℕ) → Visits (λ n. Contains row n × IsHigh patches level least n) [] start → ((n : ℕ) → Contains met n → IsLedFrom (StepsAway patches over level least b) start n)
    → ((n : ℕ) → Contains kept n ↔ (Contains met n × PassesAt (test.LiveOff b) patches n)) → (n : ℕ) → Contains kept n → IsFirstAway patches over level least b row n
first_only patches over level least b row start met kept starts led keeps n c =
    let k = (keeps n).0 c in
    let s = led_leads (StepsAway patches over level least b) start n (led n k.0) in
    let top = started s.0 s.1 in
    record { away = k.1; top = s.0; named = top.0; high = top.1; path = s.2 }
  where
    started : (m : ℕ) → Contains start m → Contains row m × IsHigh patches level least m
    started m c = elim (starts.only m c) [ inl none ↦ absurd (none_in m none) | inr k ↦ k ]

-- and they are all of them where all that it leads to was met
pub first_all : (patches : List Patch) (over level : ℕ → ℕ) (least b : ℕ) (row start met kept : List ℕ) → Visits (λ n. Contains row n × IsHigh patches level least n) [] start → ((n : ℕ) → IsLedFrom (StepsAway patches over level least b) start n → Contains met n)
    → ((n : ℕ) → Contains kept n ↔ (Contains met n × PassesAt (test.LiveOff b) patches n)) → (n : ℕ) → IsFirstAway patches over level least b row n → Contains kept n
first_all patches over level least b row start met kept starts led keeps n f =
    (keeps n).1 (led n (leads_led (StepsAway patches over level least b) start f.top n (starts.each f.top (f.named, f.high)) f.path), f.away)

-- no way up falls
module _ (patches : List Patch) (level floor : ℕ → ℕ) (leveled : AreLeveled patches level floor) (crossed : List Bool) where
  up_rises : (p q : ℕ) → StepsUp patches crossed p q → level p ≤ level q
  up_rises p q s = elim s [
    | inl up ↦ leveled.direct q p up.0
    | inr k ↦ let first = leveled.hard k.block p k.hard in let last = leveled.change k.block q k.change in omega (arith, first, last)
  ]

  -- so all on the way to what is low is low
  pub low_ups : (most p q : ℕ) → Closure (StepsUp patches crossed) p q → level q ≤ most → (level p ≤ most) × Closure (StepsLow patches level most crossed) p q
  low_ups most p q (one s) low = let r = up_rises p q s in (omega (arith, r, low), one (elim s [ inl up ↦ inl (up.0, (up.1, low)) | inr k ↦ inr (k, low) ]))
  low_ups most p q (join {q = k} c d) low = let e = low_ups most k q d low in let f = low_ups most p k c e.0 in (f.0, join f.1 e.1)

  pub low_leads : (most p q : ℕ) → Leads (StepsUp patches crossed) p q → level q ≤ most → (level p ≤ most) × Leads (StepsLow patches level most crossed) p q
  low_leads most p q (inl e) low = (subst (λ k. level k ≤ most) (sym e) low, inl e)
  low_leads most p q (inr path) low = let r = low_ups most p q path low in (r.0, inr r.1)

  low_up : (most p q : ℕ) → Closure (StepsLow patches level most crossed) p q → Closure (StepsUp patches crossed) p q
  low_up most p q (one s) = one (elim s [ inl up ↦ inl (up.0, up.1.0) | inr k ↦ inr k.0 ])
  low_up most p q (join {q = k} c d) = join (low_up most p k c) (low_up most k q d)

  pub leads_up : (most p q : ℕ) → Leads (StepsLow patches level most crossed) p q → Leads (StepsUp patches crossed) p q
  leads_up most p q (inl e) = inl e
  leads_up most p q (inr path) = inr (low_up most p q path)

-- no way down rises
module _ (patches : List Patch) (level floor : ℕ → ℕ) (leveled : AreLeveled patches level floor) (needs : ℕ → List ℕ) (needed : AreNeeded patches needs) (crossed : List Bool) (least : ℕ) where
  down_falls : (p q : ℕ) → StepsDown patches needs crossed p q → level q ≤ level p
  down_falls p q s = elim s [
    | inl d ↦ leveled.direct p q d.1
    | inr k ↦
        let n = needed.named k.block q k.need.0 in
        let first = leveled.change k.block p k.change in
        let hard = leveled.hard k.block n.0 n.1.hard in
        let last = level_path patches level floor leveled n.0 q (n.1.depends k.need.1.patch k.need.1.head k.need.1.numbered) in
        omega (arith, first, hard, last)
  ]

  -- so all on the way to what is high is high
  high_downs : (p q : ℕ) → Closure (StepsDown patches needs crossed) p q → least ≤ level q → (least ≤ level p) × Closure (StepsHigh patches level least needs crossed) p q
  high_downs p q (one s) high = let f = down_falls p q s in (omega (arith, f, high), one (elim s [ inl d ↦ inl (d.0, d.1, (d.2, high)) | inr k ↦ inr (k, high) ]))
  high_downs p q (join {q = k} c d) high = let e = high_downs k q d high in let f = high_downs p k c e.0 in (f.0, join f.1 e.1)

  pub high_led : (start : List ℕ) (n : ℕ) → IsLedFrom (StepsDown patches needs crossed) start n → least ≤ level n → IsLedFrom (StepsHigh patches level least needs crossed) start n
  high_led start n (inl c) high = inl c
  high_led start n (inr r) high = inr (r.0, r.1, (high_downs r.0 n r.2 high).1)

  high_down : (p q : ℕ) → Closure (StepsHigh patches level least needs crossed) p q → Closure (StepsDown patches needs crossed) p q
  high_down p q (one s) = one (elim s [ inl d ↦ inl (d.0, d.1, d.2.0) | inr k ↦ inr k.0 ])
  high_down p q (join {q = k} c d) = join (high_down p k c) (high_down k q d)

  pub leads_down : (p q : ℕ) → Leads (StepsHigh patches level least needs crossed) p q → Leads (StepsDown patches needs crossed) p q
  leads_down p q (inl e) = inl e
  leads_down p q (inr path) = inr (high_down p q path)

-- where b alone is shown as crossed, steps that cross no change of b to what a block needs are steps across to hard changes
module _ (patches : List Patch) (disk : IsOnDiskWithAll patches) (needs : ℕ → List ℕ) (needed : AreNeeded patches needs) (b : ℕ) (crossed : List Bool) (shown : ShowsBlocks crossed (λ c. c ≡ b)) where
  to_whole : (p q : ℕ) → StepsTo patches needs b p q → Closure (StepsWhole patches crossed) p q
  to_whole p q (inl d) = one (inl d)
  to_whole p q (inr k) =
      let n = needed.named k.block q k.need.0 in
      let live = k.need.1 in
      join (one (inr (record { block = k.block; change = k.change; fresh = λ r. k.other (shown.only k.block r); hard = n.1.hard })))
      (live_whole patches disk crossed n.0 q (n.1.depends live.patch live.head live.numbered) live)

  all_whole : (p q : ℕ) → Closure (StepsTo patches needs b) p q → Closure (StepsWhole patches crossed) p q
  all_whole p q (one s) = to_whole p q s
  all_whole p q (join {q = k} c d) = join (all_whole p k c) (all_whole k q d)

  pub to_wholes : (p q : ℕ) → Leads (StepsTo patches needs b) p q → Leads (StepsWhole patches crossed) p q
  to_wholes p q (inl e) = inl e
  to_wholes p q (inr path) = inr (all_whole p q path)

-- the steps up and down are the same, the other way about
module _ (patches : List Patch) (b : ℕ) (up down : List Bool) (shows_up : ShowsBlocks up (λ c. c ≡ b)) (shows_down : ShowsBlocks down (λ c. c ≡ b)) where
  turned_up : (p q : ℕ) → StepsWhole patches down p q → IsLiveNumber patches p → StepsUp patches up q p
  turned_up p q s live = elim s [
    | inl d ↦ inl (d.0, live)
    | inr k ↦ inr (record { block = k.block; hard = k.hard; fresh = λ r. k.fresh (shows_down.each k.block (shows_up.only k.block r)); change = k.change })
  ]

  turned_down : (p q : ℕ) → StepsUp patches up p q → IsLiveNumber patches p → StepsWhole patches down q p
  turned_down p q s live = elim s [
    | inl d ↦ inl (d.0, live)
    | inr k ↦ inr (record { block = k.block; change = k.change; fresh = λ r. k.fresh (shows_up.each k.block (shows_down.only k.block r)); hard = k.hard })
  ]

  module _ (rising : IsRising patches) where
    up_live : (p q : ℕ) → StepsUp patches up p q → IsLiveNumber patches q
    up_live p q s = elim s [ inl d ↦ d.1 | inr k ↦ live_number patches rising b k.block q k.change ]

    down_live : (p q : ℕ) → StepsWhole patches down p q → IsLiveNumber patches q
    down_live p q s = elim s [
      | inl d ↦ d.1
      | inr k ↦ let h = k.hard in record { patch = h.patch; head = h.head; numbered = h.numbered; live = λ e. let memory = h.hard.memory in cc }
    ]

    ups : (p q : ℕ) → Closure (StepsWhole patches down) p q → IsLiveNumber patches p → Closure (StepsUp patches up) q p × IsLiveNumber patches q
    ups p q (one s) live = (one (turned_up p q s live), down_live p q s)
    ups p q (join {q = k} c d) live = let e = ups p k c live in let f = ups k q d e.1 in (join f.0 e.0, f.1)

    downs : (p q : ℕ) → Closure (StepsUp patches up) p q → IsLiveNumber patches p → Closure (StepsWhole patches down) q p × IsLiveNumber patches q
    downs p q (one s) live = (one (turned_down p q s live), up_live p q s)
    downs p q (join {q = k} c d) live = let e = downs p k c live in let f = downs k q d e.1 in (join f.0 e.0, f.1)

    pub leads_ups : (p q : ℕ) → Leads (StepsWhole patches down) p q → IsLiveNumber patches p → Leads (StepsUp patches up) q p
    leads_ups p q (inl e) live = inl (sym e)
    leads_ups p q (inr path) live = inr (ups p q path live).0

    pub leads_downs : (p q : ℕ) → Leads (StepsUp patches up) p q → IsLiveNumber patches p → Leads (StepsWhole patches down) q p
    leads_downs p q (inl e) live = inl (sym e)
    leads_downs p q (inr path) live = inr (downs p q path live).0

-- with no first one no way leads back
pub none_first : (heads : List Head) (rising : AreRising heads) (disk : IsOnDiskWithAll (patches_of heads)) (hard : HardNeverHold (patches_of heads)) (level floor : ℕ → ℕ) (leveled : AreLeveled (patches_of heads) level floor)
    (over : ℕ → ℕ) (kept : AreUnder (patches_of heads) over) (b least : ℕ) (low : least ≤ floor b) (crossed : List Bool) (shown : ShowsBlocks crossed (λ c. c ≡ b)) (row : List ℕ)
    → ((n : ℕ) → IsFirstAway (patches_of heads) over level least b row n → ⊥) → LeadsNowhere (patches_of heads) b row
none_first heads rising disk hard level floor leveled over kept b least low crossed shown row none =
    none_leads (patches_of heads) (rising_patches heads rising) disk b row (λ end l. let f = first_back heads rising disk hard level floor leveled over kept b least low crossed shown row end l in none f.0 f.1)

-- exactly those with P were visited where nothing was before
pub visited_all : (P : ℕ → Type 0) (queue : List ℕ) → Visits P [] queue → (n : ℕ) → Contains queue n ↔ P n
visited_all P queue v n = (λ c. elim (v.only n c) [ inl none ↦ absurd (none_in n none) | inr p ↦ p ], v.each n)

-- a walk down starts from first changes of other blocks at or below a row, and never crosses b
module _ (heads : List Head) (rising : AreRising heads) (disk : IsOnDiskWithAll (patches_of heads)) (hard : HardNeverHold (patches_of heads)) (flights : FlightsStandAlone (patches_of heads))
    (level floor : ℕ → ℕ) (leveled : AreLeveled (patches_of heads) level floor) (needs : ℕ → List ℕ) (needed : AreNeeded (patches_of heads) needs)
    (over : ℕ → ℕ) (kept : AreUnder (patches_of heads) over) (b least : ℕ) (low : least ≤ floor b) (row : List ℕ) (up down : List Bool) (shows_up : ShowsBlocks up (λ c. c ≡ b)) (shows_down : ShowsBlocks down (λ c. c ≡ b)) (tops : List ℕ) (first : (n : ℕ) → Contains tops n → IsFirstAway (patches_of heads) over level least b row n) where
  abbrev now : List Patch
  now = patches_of heads

  abbrev in_order : IsRising now
  in_order = rising_patches heads rising

  -- its steps lead where steps across to hard changes do
  pub wholly : (top n : ℕ) → Leads (StepsHigh now level least needs down) top n → Leads (StepsWhole now down) top n
  wholly top n path = elim (leads_down now level floor leveled needs needed down least top n path) [ inl e ↦ inl e | inr steps ↦ inr (steps_whole now in_order disk flights needs needed b down shows_down top n steps) ]

  -- they lead to what a way leads up from
  pub under_up : (top n : ℕ) → Contains tops top → Leads (StepsWhole now down) top n → Leads (StepsUp now up) n top
  under_up top n c whole = leads_ups now b up down shows_up shows_down in_order top n whole (off_live now in_order disk b top (first top c).away)

  -- where they lead to what steps lead up to from a change of b, a way leads back to that
  pub back_from : (end top n : ℕ) → Contains tops top → PassesAt (test.LiveOn b) now end → Leads (StepsWhole now down) top n → Leads (StepsUp now up) end n → LeadsBack now b row end
  back_from end top n c change below above =
      let away = first top c in
      record {
        away = top;
        change = change;
        off = away.away;
        under = first_under now over level least b row top away;
        path = elim (leads_on (StepsUp now up) end n top above (under_up top n c below)) [ inl e ↦ absurd (off_not_on now in_order b top away.away (subst (PassesAt (test.LiveOn b) now) e change)) | inr path ↦ ups_back now b up shows_up end top path ];
      }

  -- where it comes to a change of b, a way leads back to that
  pub comes_back : (at : ℕ) → ComesTo now level least needs down b tops at → LeadsBack now b row at
  comes_back at met =
      let a = led_leads (StepsHigh now level least needs down) tops at met.under in
      back_from at a.0 at a.1 met.change (wholly a.0 at a.2) (inl refl)

  -- where it starts from all of them and comes to none, none does
  pub comes_hard : ((n : ℕ) → IsFirstAway now over level least b row n → Contains tops n) → ((at : ℕ) → ComesTo now level least needs down b tops at → ⊥) → LeadsNowhere now b row
  comes_hard each none = none_leads now in_order disk b row (λ end l.
      let f = first_back heads rising disk hard level floor leveled over kept b least low up shows_up row end l in
      let back = leads_downs now b up down shows_up shows_down in_order end f.0 (inr f.2) (live_number now in_order b b end l.change) in
      let y = whole_met now in_order disk flights needs needed b down shows_down tops f.0 end (each f.0 f.1) back l.change in
      let over = leveled.change b y.0 y.2 in
      none y.0 (record { under = high_led now level floor leveled needs needed down least tops y.0 y.1 (omega (arith, low, over)); change = y.2 }))

-- the walks start from the low live changes of b and from the first changes of other blocks at or below a row, which are low, and never cross b
pub record AreEnds (patches : List Patch) (level over : ℕ → ℕ) (most least b : ℕ) (row : List ℕ) (up down : List Bool) (bottoms tops : List ℕ) : Type 0 where
  pub low : (n : ℕ) → Contains tops n → level n ≤ most
  pub shows_up : ShowsBlocks up (λ c. c ≡ b)
  pub shows_down : ShowsBlocks down (λ c. c ≡ b)
  pub changes : (n : ℕ) → Contains bottoms n ↔ IsLowChange patches level most b n
  pub first : (n : ℕ) → Contains tops n → IsFirstAway patches over level least b row n

module _ (heads : List Head) (rising : AreRising heads) (disk : IsOnDiskWithAll (patches_of heads)) (hard : HardNeverHold (patches_of heads)) (flights : FlightsStandAlone (patches_of heads))
    (level floor : ℕ → ℕ) (leveled : AreLeveled (patches_of heads) level floor) (needs : ℕ → List ℕ) (needed : AreNeeded (patches_of heads) needs)
    (over : ℕ → ℕ) (kept : AreUnder (patches_of heads) over) (most least b : ℕ) (floored : least ≤ floor b) (row : List ℕ) (up down : List Bool) (bottoms tops : List ℕ) (ends : AreEnds (patches_of heads) level over most least b row up down bottoms tops) where
  abbrev all : List Patch
  all = patches_of heads

  abbrev ordered : IsRising all
  ordered = rising_patches heads rising

  -- at first nothing was met by both
  pub begin_apart : AreApart bottoms tops
  begin_apart n above below = off_not_on all ordered b n (ends.first n below).away ((ends.changes n).0 above).0

  whole : (top n : ℕ) → Leads (StepsHigh all level least needs down) top n → Leads (StepsWhole all down) top n
  whole = wholly heads rising disk hard flights level floor leveled needs needed over kept b least floored row up down ends.shows_up ends.shows_down tops ends.first

  down_to : (top n : ℕ) → Contains tops top → Leads (StepsHigh all level least needs down) top n → Leads (StepsUp all up) n top
  down_to top n c path = under_up heads rising disk hard flights level floor leveled needs needed over kept b least floored row up down ends.shows_up ends.shows_down tops ends.first top n c (whole top n path)

  -- where the walks lead to the same, a way leads back to one from which the walk up starts
  pub together_soft : (n : ℕ) → LeadTogether all level needs most least up down bottoms tops n → LeadsNowhere all b row → ⊥
  together_soft n met =
      let x = led_leads (StepsLow all level most up) bottoms n met.over in
      let a = led_leads (StepsHigh all level least needs down) tops n met.under in
      let back = back_from heads rising disk hard flights level floor leveled needs needed over kept b least floored row up down ends.shows_up ends.shows_down tops ends.first x.0 a.0 n a.1 ((ends.changes x.0).0 x.1).0
      (whole a.0 n a.2) (leads_up all level floor leveled up most x.0 n x.2) in
      back_leads all ordered disk b row x.0 back

  -- and it is not on disk
  pub together_live : (n : ℕ) → LeadTogether all level needs most least up down bottoms tops n → IsLiveNumber all n
  together_live n met =
      let x = led_leads (StepsLow all level most up) bottoms n met.over in
      let live = live_number all ordered b b x.0 ((ends.changes x.0).0 x.1).0 in
      elim (leads_up all level floor leveled up most x.0 n x.2) [ inl e ↦ subst (IsLiveNumber all) e live | inr path ↦ (downs all b up down ends.shows_up ends.shows_down ordered x.0 n path live).1 ]

  -- where steps lead on from there to a change of b, a way leads back to that
  pub traced_back : (n end : ℕ) → LeadTogether all level needs most least up down bottoms tops n → PassesAt (test.LiveOn b) all end → Leads (StepsTo all needs b) n end → LeadsBack all b row end
  traced_back n end met change path =
      let a = led_leads (StepsHigh all level least needs down) tops n met.under in
      let below = leads_on (StepsWhole all down) a.0 n end (whole a.0 n a.2) (to_wholes all disk needs needed b down ends.shows_down n end path) in
      back_from heads rising disk hard flights level floor leveled needs needed over kept b least floored row up down ends.shows_up ends.shows_down tops ends.first end a.0 end a.1 change below (inl refl)

  -- a change of b that the walk down leads to is one that the walk up starts from
  under_bottom : (n : ℕ) → IsLedFrom (StepsHigh all level least needs down) tops n → PassesAt (test.LiveOn b) all n → Contains bottoms n
  under_bottom n led x =
      let a = led_leads (StepsHigh all level least needs down) tops n led in
      (ends.changes n).1 (x, (low_leads all level floor leveled up most n a.0 (down_to a.0 n a.1 a.2) (ends.low a.0 a.1)).0)

  -- where they start from all of the first changes, one has met all and nothing was met by both, none does
  pub apart_hard : ((n : ℕ) → IsFirstAway all over level least b row n → Contains tops n) → (above below : List ℕ) → EndApart all level needs most least up down bottoms tops above below → LeadsNowhere all b row
  apart_hard from_all above below met = elim met.ended [
    | inl each ↦ none_leads all ordered disk b row (λ end l.
        let f = first_back heads rising disk hard level floor leveled over kept b least floored up ends.shows_up row end l in
        let n = f.0 in
        let top = from_all n f.1 in
        let path = low_leads all level floor leveled up most end n (inr f.2) (ends.low n top) in
        met.apart n (each n (leads_led (StepsLow all level most up) bottoms end n ((ends.changes end).1 (l.change, path.0)) path.1)) (met.under_begun n top))
    | inr each ↦
        comes_hard heads rising disk hard flights level floor leveled needs needed over kept b least floored row up down ends.shows_up ends.shows_down tops ends.first from_all (λ at x. met.apart at (met.over_begun at (under_bottom at x.under x.change)) (each at x.under))
  ]
