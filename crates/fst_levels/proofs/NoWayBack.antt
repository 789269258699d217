-- A new change over a row may be hard exactly where no way leads from the row back to its block.
use Rattle.std.proofs.Common.{◌≡◌, ◌⊎◌, ◌∷◌, [], ℕ, List, refl, sym, subst, inl, inr}
use Rattle.std.proofs.lemmas.Bool.{cases_eq}
use Rattle.std.proofs.lemmas.List.Elements.{Contains-push}
use Rattle.fst_types.specs.{Closure.{Closure, one, join}, Dependencies.{DependsOn, IsLiveNumber}, Facts.{IsOnDiskWithAll}}
use Rattle.fst_types.specs.{Grades.{HasEdge, Reaches}, Patches.{Patch, IsLive, IsRising}}
use Rattle.fst_types.proofs.SmallStates.{only_in}
use Rattle.fst_heads.specs.{Grading.{HasUnder, IsReturning, IsLeading, LeadsNowhere, IsHardNumber}, Indices.PassesAt}
use Rattle.fst_heads.proofs.{Graded.{off_from, off_to}}
use Rattle.fst_levels.specs.WayBack.{LeadsBack, StepsBack, IsLiveOver}
use Rattle.fst_levels.proofs.{ComesBack.{ComesBack, on_live, live_number, step_back, back_soft, off_not_on, over_back}, Holding.live_up}
use Rattle.fst_heads.specs.declared.test.Test.TheVariants as test

-- p is q, or steps lead from it to q
abbrev pub Leads : (ℕ → ℕ → Type 0) → ℕ → ℕ → Type 0
Leads E p q = (p ≡ q) ⊎ Closure E p q

pub leads_on : (E : ℕ → ℕ → Type 0) (p q r : ℕ) → Leads E p q → Leads E q r → Leads E p r
leads_on E p q r (inl e) onward = subst (λ k. Leads E k r) (sym e) onward
leads_on E p q r (inr path) (inl e) = inr (subst (Closure E p) e path)
leads_on E p q r (inr path) (inr onward) = inr (join path onward)

-- steps lead up to what depends on a patch
module _ (patches : List Patch) (disk : IsOnDiskWithAll patches) (b : ℕ) where
  pub goes_up : (m n : ℕ) → DependsOn patches m n → IsLiveNumber patches n → Closure (StepsBack patches b) n m
  goes_up m n (one d) l = one (inl (d, live_up patches disk m n (one d) l))
  goes_up m n (join {q = k} c d) l = join (goes_up k n d l) (goes_up m k c (live_up patches disk k n d l))

module _ (patches : List Patch) (rising : IsRising patches) (disk : IsOnDiskWithAll patches) (b : ℕ) where
  abbrev Up : ℕ → ℕ → Type 0
  Up = StepsBack patches b

  pub off_live : (n : ℕ) → PassesAt (test.LiveOff b) patches n → IsLiveNumber patches n
  off_live n x = record { patch = x.patch; head = x.head; numbered = x.numbered; live = (off_from b x.patch.number x.patch.kind x.patch.place x.passed).0 }

  -- steps from what is over a live change of b lead to what is, or to what comes back
  pub up_over : (m n : ℕ) → Up m n → IsLiveOver patches b m ⊎ ComesBack patches rising b m → IsLiveOver patches b n ⊎ ComesBack patches rising b n
  up_over m n s (inr x) = inr (step_back patches rising b m n s x)
  up_over m n (inl up) (inl o) = inl (record {
    live = up.1;
    base = o.base;
    change = o.change;
    over = inr (elim o.over [ inl e ↦ subst (DependsOn patches n) e (one up.0) | inr d ↦ join (one up.0) d ]);
  })
  up_over m n (inr k) (inl o) =
      let h = k.hard in
      let live : IsLive h.patch = λ e. let memory = h.hard.memory in cc in
      let off : PassesAt (test.LiveOff b) patches m = record { patch = h.patch; head = h.head; numbered = h.numbered; passed = off_to b h.patch.number k.block h.patch.kind h.patch.place live h.hard.change k.other } in
      inr (step_back patches rising b m n (inr k) (over_back patches rising b m o off))

  ups_over : (m n : ℕ) → Closure Up m n → IsLiveOver patches b m ⊎ ComesBack patches rising b m → IsLiveOver patches b n ⊎ ComesBack patches rising b n
  ups_over m n (one s) o = up_over m n s o
  ups_over m n (join {q = k} c d) o = ups_over k n d (ups_over m k c o)

  module _ (row : List ℕ) where
    -- what is at or below one under the row is under the row
    under_one : (n : ℕ) (P : ℕ → Type 0) → HasUnder patches row (λ m. m ≡ n) → HasUnder patches (n ∷ []) P → HasUnder patches row P
    under_one n P u v =
        let e = only_in n v.0 v.1 in (
          u.0,
          u.1,
          elim v.2 [
            | inl has ↦
                let here = subst P (sym e) has in
                elim u.2 [ inl s ↦ inl (subst P (sym s) here) | inr low ↦ inr (n, subst (DependsOn patches u.0) low.2 low.1, here) ]
            | inr deep ↦
                let path = subst (λ k. DependsOn patches k deep.0) (sym e) deep.1 in
                inr (
                  deep.0,
                  elim u.2 [ inl s ↦ subst (λ k. DependsOn patches k deep.0) (sym s) path | inr low ↦ join (subst (DependsOn patches u.0) low.2 low.1) path ],
                  deep.2,
                )
          ],
        )

    -- so a new change over the row may not be hard
    pub back_leads : (end : ℕ) → LeadsBack patches b row end → LeadsNowhere patches b row → ⊥
    back_leads end l may =
        let start : IsLiveOver patches b end = record { live = live_number patches rising b b end l.change; base = end; change = l.change; over = inl refl } in
        let back : ComesBack patches rising b l.away = elim (ups_over end l.away l.path (inl start)) [ inl o ↦ over_back patches rising b l.away o l.off | inr x ↦ x ] in
        back_soft patches rising b (l.away ∷ []) l.away (Contains-push [] l.away) back (record {
          straight = λ u. may.straight (under_one l.away (IsReturning patches b) l.under u);
          open_ended = λ u. may.open_ended (under_one l.away (IsLeading patches b) l.under u);
        })

    -- n is where steps lead from a live change of b
    abbrev IsLed : ℕ → Type 0
    IsLed n = (x : ℕ) × PassesAt (test.LiveOn b) patches x × Leads Up x n

    led_up : (m n : ℕ) → IsLed n → DependsOn patches m n → IsLiveNumber patches n → IsLed m
    led_up m n l d live = (l.0, l.1, leads_on Up l.0 n m l.2 (inr (goes_up patches disk b m n d live)))

    abbrev AllLed : ℕ → Type 0
    AllLed c = (n : ℕ) → PassesAt (test.LiveOn c) patches n → IsLed n

    -- against the edges of the block graph, from b on
    edge_led : (c d : ℕ) → HasEdge patches c d → (d ≡ b) ⊎ AllLed d → (c ≡ b) ⊎ AllLed c
    edge_led c d e known = elim (cases_eq c b) [
      | inl own ↦ inl own
      | inr other ↦
          let h = e.hard in
          let need : PassesAt (test.LiveOn d) patches e.need.number = on_live patches rising b d e.need.number e.need e.needs.head refl e.needs.change e.live in
          let hard : IsHardNumber patches c h.number = record { patch = h; head = e.in_memory.head; numbered = refl; hard = record { change = e.in_memory.change; memory = e.in_memory.memory; hard = e.is_hard } } in
          let need_led : IsLed e.need.number = elim known [
            | inl own ↦ (e.need.number, subst (λ k. PassesAt (test.LiveOn k) patches e.need.number) own need, inl refl)
            | inr all ↦ all e.need.number need
          ] in
          let led = led_up h.number e.need.number need_led e.needs.depends (live_number patches rising b d e.need.number need) in
          inr (λ n x. (led.0, led.1, leads_on Up led.0 h.number n led.2 (inr (one (inr (record { block = c; other = other; hard = hard; change = x }))))))
    ]

    reached_led : (c d : ℕ) → Reaches patches c d → (d ≡ b) ⊎ AllLed d → (c ≡ b) ⊎ AllLed c
    reached_led c d (one e) known = edge_led c d e known
    reached_led c d (join {q = k} e f) known = reached_led c k e (reached_led k d f known)

    -- a way leads back from what is led to and a live change of another block
    led_back : (n : ℕ) → HasUnder patches row (λ m. m ≡ n) → IsLed n → PassesAt (test.LiveOff b) patches n → (end : ℕ) × LeadsBack patches b row end
    led_back n under led off = (led.0, record { away = n; change = led.1; off = off; under = under; path = elim led.2 [ inl e ↦ absurd (off_not_on patches rising b n off (subst (PassesAt (test.LiveOn b) patches) e led.1)) | inr path ↦ path ] })

    -- and so where P tells that of what is at or below the row
    under_back : (P : ℕ → Type 0) → ((n : ℕ) → P n → IsLed n × PassesAt (test.LiveOff b) patches n) → HasUnder patches row P → (end : ℕ) × LeadsBack patches b row end
    under_back P told u = elim u.2 [
      | inl has ↦ let k = told u.0 has in led_back u.0 (u.0, u.1, inl refl) k.0 k.1
      | inr low ↦ let k = told low.0 low.2 in led_back low.0 (u.0, u.1, inr (low.0, low.1, refl)) k.0 k.1
    ]

    -- where no way leads back, it may be
    pub none_leads : ((end : ℕ) → LeadsBack patches b row end → ⊥) → LeadsNowhere patches b row
    none_leads none = record {
      straight = λ u. let w = under_back (IsReturning patches b) (λ n r.
          let y : PassesAt (test.LiveOn b) patches r.back.number = on_live patches rising b b r.back.number r.back r.back_needed.head refl r.back_needed.change r.back_live in
          let path = subst (λ k. DependsOn patches k r.back.number) r.numbered r.back_needed.depends in (
            (r.back.number, y, inr (goes_up patches disk b n r.back.number path (live_number patches rising b b r.back.number y))),
            record { patch = r.away; head = r.head; numbered = r.numbered; passed = off_to b r.away.number r.away_on r.away.kind r.away.place r.away_live r.change r.off },
          )) u in none w.0 w.1;
      open_ended = λ u. let w = under_back (IsLeading patches b) (λ n l.
          let x : PassesAt (test.LiveOn l.block) patches n = on_live patches rising b l.block n l.patch l.head l.numbered l.change l.live in (
            elim (reached_led l.block b l.reaches (inl refl)) [ inl own ↦ absurd (l.other own) | inr all ↦ all n x ],
            record { patch = l.patch; head = l.head; numbered = l.numbered; passed = off_to b l.patch.number l.block l.patch.kind l.patch.place l.live l.change l.other },
          )) u in none w.0 w.1;
    }
