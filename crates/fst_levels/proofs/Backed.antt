-- A way back stays until its end is on disk: each patch on it waits for the one before, so that none of them is on disk earlier, and no block that it leads over is written.
use Rattle.std.proofs.Common.{◌≡◌, ◌≢◌, ◌++◌, ◌∷◌, ◌⊎◌, ◌∙◌, [], ℕ, true, not, List, Contains, map, filter, refl, sym, ap, subst, inl, inr}
use Rattle.std.proofs.lemmas.List.Elements.{Contains-append_left}
use Rattle.fst_types.specs.{Cascade.IsCascadeOf, Closure.{Closure, one, join}, Dependencies.{DependsOn, DirectlyOn, IsLiveNumber}, Facts.{FlightsStandAlone, IsInFlightOn, IsOnDiskWithAll, SparseAreLawful}, Gates.IsOpenNumber, Gating.{gains, sealed}}
use Rattle.fst_types.specs.{Grades.{HasEdge, Reaches}, Patches.{Patch, OpenGate, IsOn, IsHard, IsLive, IsRising, block_of_kind, grade_of_kind}}
use Rattle.fst_types.specs.{Tests.{is_at, is_live}, Writable.{IsWritable, IsWritableSet}, Writing.{landed, launched}, declared.place.Place.Place}
use Rattle.fst_types.proofs.{Cascades.{no_follower_on, settled_on}, Crash.same_number, Depending.grown, Dropping.in_filter, Finite.{In-from_Contains, Contains-from_In, In-map}, Issuing.launched_cases, Landing.landed_cases, Sealing.sealed_cases}
use Rattle.fst_heads.specs.{Grading.{HasUnder, IsHardNumber}, Indices.PassesAt}
use Rattle.fst_heads.proofs.{Graded.{off_from, off_to, on_to}}
use Rattle.fst_levels.specs.{Needing.{AreNeeded, HasWayBack, HaveWaysBack, IsHardAt, StaysOn}, WayBack.{IsLiveOver, LeadsBack, StepsBack}, declared.needs.Way.Way}
use Rattle.fst_levels.proofs.{NoWayBack.{off_live, up_over}, ComesBack.{ComesBack, hard_reaches, live_number, live_on, over_back}, Holding.live_up, Staying.above_on, Trails.none_in}
use Rattle.fst_types.specs.declared.place.Place.TheVariants as place
use Rattle.fst_heads.specs.declared.test.Test.TheVariants as test
use Rattle.fst_types.proofs.Numbers.{one_block}

-- a patch that is there still, with what it depended on at least; where it is a change of a block with Kept it is not on disk, and in memory where it was hard and in memory
pub record StaysIn (new : List Patch) (Kept : ℕ → Type 0) (p : Patch) : Type 0 where
  pub now : Patch
  pub head : Contains new now
  pub number : now.number ≡ p.number
  pub dependencies : (n : ℕ) → Contains p.dependencies n → Contains now.dependencies n
  pub kind : (b : ℕ) → IsOn p b → now.kind ≡ p.kind
  pub live : (b : ℕ) → IsOn p b → Kept b → IsLive now
  pub memory : (b : ℕ) → IsOn p b → Kept b → IsHard p → p.place ≡ place.Memory → now.place ≡ place.Memory

-- where all that is not on disk stays, and the blocks from which edges lead are such
module _ (old new : List Patch) (rising : IsRising old) (disk : IsOnDiskWithAll old) (in_order : IsRising new) (rests : IsOnDiskWithAll new)
    (Kept : ℕ → Type 0) (edges : (c d : ℕ) → HasEdge old c d → Kept c) (stays : (p : Patch) → Contains old p → IsLive p → StaysIn new Kept p) where
  edges_kept : (c d : ℕ) → Reaches old c d → Kept c
  edges_kept c d (one e) = edges c d e
  edges_kept c d (join {q = k} e f) = edges_kept c k e

  direct_stays : (m n : ℕ) → DirectlyOn old m n → IsLiveNumber old n → DirectlyOn new m n
  direct_stays m n d l =
      let g = stays d.patch d.head (λ e. l.live (disk.disk d.patch d.head e n d.named l.patch l.head l.numbered)) in
      record { patch = g.now; head = g.head; numbered = g.number ∙ d.numbered; named = g.dependencies n d.named }

  depends_stays : (m n : ℕ) → DependsOn old m n → IsLiveNumber old n → DependsOn new m n
  depends_stays m n (one d) l = one (direct_stays m n d l)
  depends_stays m n (join {q = k} c d) l = join (depends_stays m k c (live_up old disk k n d l)) (depends_stays k n d l)

  under_stays : (row longer : List ℕ) (n : ℕ) → ((q : ℕ) → Contains row q → Contains longer q) → HasUnder old row (λ m. m ≡ n) → IsLiveNumber old n → HasUnder new longer (λ m. m ≡ n)
  under_stays row longer n more u l = (
    u.0,
    more u.0 u.1,
    elim u.2 [ inl e ↦ inl e | inr low ↦ inr (low.0, depends_stays u.0 low.0 low.1 (subst (IsLiveNumber old) (sym low.2) l), low.2) ],
  )

  on_stays : (p : Patch) (b : ℕ) (h : Contains old p) (l : IsLive p) → IsOn p b → IsOn (stays p h l).now b
  on_stays p b h l on = ap block_of_kind ((stays p h l).kind b on) ∙ on

  -- what has the number now is what stayed
  live_now : (p : Patch) (n : ℕ) (h : Contains old p) (l : IsLive p) → p.number ≡ n → IsLiveNumber new n → IsLive (stays p h l).now
  live_now p n h l numbered x = let g = stays p h l in subst IsLive (same_number new x.patch g.now in_order x.head g.head (x.numbered ∙ (sym numbered ∙ sym g.number))) x.live

  module _ (b : ℕ) where
    -- n waits for a change of b, or is one
    abbrev Waits : ℕ → Type 0
    Waits n = IsLiveOver old b n ⊎ ComesBack old rising b n

    -- from the block of a hard change in memory that does, edges lead
    hard_kept : (c n : ℕ) → c ≢ b → IsHardNumber old c n → Waits n → Kept c
    hard_kept c n other h waits =
        let live : IsLive h.patch = λ e. let memory = h.hard.memory in cc in
        let off : PassesAt (test.LiveOff b) old n = record { patch = h.patch; head = h.head; numbered = h.numbered; passed = off_to b h.patch.number c h.patch.kind h.patch.place live h.hard.change other } in
        edges_kept c b (hard_reaches old rising b c n h other (elim waits [ inl o ↦ over_back old rising b n o off | inr x ↦ x ]))

    step_stays : (m n : ℕ) → StepsBack old b m n → IsLiveNumber old m → IsLiveNumber new m → Waits m → StepsBack new b m n × IsLiveNumber new n
    step_stays m n (inl up) was now waits =
        let d = direct_stays n m up.0 was in
        let live = live_up new rests n m (one d) now in
        (inl (d, live), live)
    step_stays m n (inr k) was now waits =
        let c = k.block in
        let kept = hard_kept c m k.other k.hard waits in
        let p = k.hard.patch in
        let h = k.hard.hard in
        let held : IsLive p = λ e. let memory = h.memory in cc in
        let hard = stays p k.hard.head held in
        let q = k.change.patch in
        let x = live_on old rising b c n k.change in
        let change = stays q k.change.head x.0 in
        let live = change.live c x.1 kept in (
          inr (record {
            block = c;
            other = k.other;
            hard = record {
              patch = hard.now;
              head = hard.head;
              numbered = hard.number ∙ k.hard.numbered;
              hard = record { change = on_stays p c k.hard.head held h.change; memory = hard.memory c h.change kept h.hard h.memory; hard = ap grade_of_kind (hard.kind c h.change) ∙ h.hard };
            };
            change = record { patch = change.now; head = change.head; numbered = change.number ∙ k.change.numbered; passed = on_to c change.now.number change.now.kind change.now.place live (on_stays q c k.change.head x.0 x.1) };
          }),
          record { patch = change.now; head = change.head; numbered = change.number ∙ k.change.numbered; live = live },
        )

    -- it is not on disk, and was not, and waits for a change of b
    record IsOnWay (n : ℕ) : Type 0 where
      was : IsLiveNumber old n
      now : IsLiveNumber new n
      waits : Waits n

    path_stays : (m n : ℕ) → Closure (StepsBack old b) m n → IsOnWay m → Closure (StepsBack new b) m n × IsOnWay n
    path_stays m n (one s) w =
        let t = step_stays m n s w.was w.now w.waits in
        let was : IsLiveNumber old n = elim s [ inl up ↦ up.1 | inr k ↦ live_number old rising b k.block n k.change ] in
        (one t.0, record { was = was; now = t.1; waits = up_over old rising disk b m n s w.waits })
    path_stays m n (join {q = k} c d) w = let e = path_stays m k c w in let f = path_stays k n d e.1 in (join e.0 f.0, f.1)

    pub leads_stays : (row longer : List ℕ) (end : ℕ) → ((q : ℕ) → Contains row q → Contains longer q) → LeadsBack old b row end → IsLiveNumber new end → LeadsBack new b longer end
    leads_stays row longer end more l now =
        let x = live_on old rising b b end l.change in
        let first = l.change.patch in
        let last = l.off.patch in
        let off = off_from b last.number last.kind last.place l.off.passed in
        let start = live_number old rising b b end l.change in
        let path = path_stays end l.away l.path (record { was = start; now = now; waits = inl (record { live = start; base = end; change = l.change; over = inl refl }) }) in
        let e = stays first l.change.head x.0 in
        let a = stays last l.off.head off.0 in
        record {
          away = l.away;
          change = record { patch = e.now; head = e.head; numbered = e.number ∙ l.change.numbered; passed = on_to b e.now.number e.now.kind e.now.place (live_now first end l.change.head x.0 l.change.numbered now) (on_stays first b l.change.head x.0 x.1) };
          off = record { patch = a.now; head = a.head; numbered = a.number ∙ l.off.numbered; passed = off_to b a.now.number off.1 a.now.kind a.now.place (live_now last l.away l.off.head off.0 l.off.numbered path.1.now) (on_stays last off.1 l.off.head off.0 off.2) off.3 };
          under = under_stays row longer l.away more l.under path.1.was;
          path = path.0;
        }

  -- no way leads back from what is on disk
  back_live : (n end : ℕ) (x : HasWayBack old n end) → IsLive x.patch
  back_live n end x e =
      let away = off_live old rising disk x.block x.back.away x.back.off in
      let u = x.back.under in
      let top : IsLiveNumber old u.0 = elim u.2 [ inl s ↦ subst (IsLiveNumber old) (sym s) away | inr low ↦ live_up old disk u.0 low.0 low.1 (subst (IsLiveNumber old) (sym low.2) away) ] in
      top.live (disk.disk x.patch x.head e u.0 u.1 top.patch top.head top.numbered)

  back_stays : (n end : ℕ) → HasWayBack old n end → IsLiveNumber new end → HasWayBack new n end
  back_stays n end x now =
      let live = back_live n end x in
      let g = stays x.patch x.head live in
      record { patch = g.now; head = g.head; numbered = g.number ∙ x.numbered; block = x.block; change = on_stays x.patch x.block x.head live x.change; back = leads_stays x.block x.patch.dependencies g.now.dependencies end g.dependencies x.back now }

  -- where an end that is there now was there
  pub all_stay : (ways : List Way) → ((w : Way) → Contains ways w → (b : ℕ) → PassesAt (test.LiveOn b) new w.end → PassesAt (test.LiveOn b) old w.end) → HaveWaysBack old ways → HaveWaysBack new ways
  all_stay ways was all w c b now = back_stays w.number w.end (all w c b (was w c b now)) (live_number new in_order b b w.end now)

-- where all stay
abbrev pub Any : ℕ → Type 0
Any b = Unit {0}

-- with one patch more
pub stays_put : (old : List Patch) (p : Patch) (q : Patch) → Contains old q → IsLive q → StaysIn (old ++ p ∷ []) Any q
stays_put old p q h l = record {
  now = q;
  head = Contains-append_left old (p ∷ []) q h;
  number = refl;
  dependencies = λ n c. c;
  kind = λ b on. refl;
  live = λ b on k. l;
  memory = λ b on k hard m. m;
}

-- where a gate gains names
pub stays_gained : (old : List Patch) (g : ℕ) (names : List ℕ) (q : Patch) → Contains old q → IsLive q → StaysIn (map (gains g names) old) Any q
stays_gained old g names q h l =
    let k = grown g names q in
    record {
      now = gains g names q;
      head = Contains-from_In (map (gains g names) old) (gains g names q) (In-map (gains g names) old q (gains g names q) (In-from_Contains old q h) refl);
      number = k.number;
      dependencies = k.kept;
      kind = λ b on. k.kind;
      live = λ b on t e. l (sym k.place ∙ e);
      memory = λ b on t hard m. k.place ∙ m;
    }

-- where those on disk are forgotten
pub stays_left : (old : List Patch) (q : Patch) → Contains old q → IsLive q → StaysIn (filter is_live old) Any q
stays_left old q h l = record {
  now = q;
  head = Contains-from_In (filter is_live old) q (in_filter is_live old q (In-from_Contains old q h) (live_said q.place l));
  number = refl;
  dependencies = λ n c. c;
  kind = λ b on. refl;
  live = λ b on k. l;
  memory = λ b on k hard m. m;
}
  where
    live_said : (at : Place) → (at ≡ place.Disk → ⊥) → not (is_at at place.Disk) ≡ true
    live_said place.Memory l = refl
    live_said place.Flight l = refl
    live_said place.Disk l = absurd (l refl)

-- where a block is launched, no edge leads from it
module _ (old : List Patch) (numbers b : ℕ) (chosen : List ℕ) (H : SparseAreLawful old numbers) (writable : IsWritable old b) (choice : IsWritableSet old b chosen) where
  pub edges_launched : (c d : ℕ) → HasEdge old c d → c ≢ b
  edges_launched c d e same =
      let i = e.in_memory in
      let w = writable.hard e.hard (record { head = i.head; change = subst (IsOn e.hard) same i.change; memory = i.memory }) e.is_hard in
      elim (w.needs e.need d e.needs) [ inl gone ↦ e.live gone | inr own ↦ e.other (same ∙ one_block e.need b d own.change e.needs.change) ]

  pub stays_launched : (q : Patch) → Contains old q → IsLive q → StaysIn (map (launched chosen) old) (λ c. c ≢ b) q
  stays_launched q h l =
      let head = Contains-from_In (map (launched chosen) old) (launched chosen q) (In-map (launched chosen) old q (launched chosen q) (In-from_Contains old q h) refl) in
      elim (launched_cases old numbers b chosen H writable choice q h) [
        | inl m ↦ record {
          now = launched chosen q;
          head = head;
          number = ap (λ x. x.number) m.1;
          dependencies = λ n c. subst (λ ds. Contains ds n) (sym (ap (λ x. x.dependencies) m.1)) c;
          kind = λ a on. ap (λ x. x.kind) m.1;
          live = λ a on other. absurd (other (one_block q a b on m.0.in_memory.change));
          memory = λ a on other hard memory. absurd (other (one_block q a b on m.0.in_memory.change));
        }
        | inr s ↦ record {
          now = launched chosen q;
          head = head;
          number = ap (λ x. x.number) s.0;
          dependencies = λ n c. subst (λ ds. Contains ds n) (sym (ap (λ x. x.dependencies) s.0)) c;
          kind = λ a on. ap (λ x. x.kind) s.0;
          live = λ a on other e. l (sym (ap (λ x. x.place) s.0) ∙ e);
          memory = λ a on other hard memory. ap (λ x. x.place) s.0 ∙ memory;
        }
      ]

-- where a gate is sealed
module _ (old new : List Patch) (numbers g : ℕ) (H : SparseAreLawful old numbers) (gate : IsOpenNumber old g) (cascade : IsCascadeOf (map (sealed g) old) new) where
  pub stays_sealed : (q : Patch) → Contains old q → IsLive q → StaysIn new Any q
  stays_sealed q h l =
      let mid = Contains-from_In (map (sealed g) old) (sealed g q) (In-map (sealed g) old q (sealed g q) (In-from_Contains old q h) refl) in
      let s = settled_on (map (sealed g) old) new cascade (sealed g q) mid in
      elim (sealed_cases old new numbers g H gate cascade q h) [
        | inl m ↦ record {
          now = s.0;
          head = s.1;
          number = s.2.number ∙ ap (λ x. x.number) m.1;
          dependencies = λ n c. subst (λ ds. Contains ds n) (sym (s.2.dependencies ∙ ap (λ x. x.dependencies) m.1)) c;
          kind = λ b on. absurd (no_gate q b m.0 on);
          live = λ b on. absurd (no_gate q b m.0 on);
          memory = λ b on. absurd (no_gate q b m.0 on);
        }
        | inr e ↦
            let same : (b : ℕ) → IsOn q b → s.0.place ≡ q.place = λ b on. s.2.place (no_follower_on (sealed g q).kind b (ap (λ x. block_of_kind x.kind) e ∙ on)) ∙ ap (λ x. x.place) e in
            record {
              now = s.0;
              head = s.1;
              number = s.2.number ∙ ap (λ x. x.number) e;
              dependencies = λ n c. subst (λ ds. Contains ds n) (sym (s.2.dependencies ∙ ap (λ x. x.dependencies) e)) c;
              kind = λ b on. s.2.kind ∙ ap (λ x. x.kind) e;
              live = λ b on t k. l (sym (same b on) ∙ k);
              memory = λ b on t hard m. same b on ∙ m;
            }
      ]
    where
      no_gate : (p : Patch) (b : ℕ) → p.kind ≡ OpenGate → IsOn p b → ⊥
      no_gate p b k on = let e = sym (ap block_of_kind k) ∙ on in cc

-- where a write of a block lands of which no hard change needs anything, no edge leads from it
module _ (old : List Patch) (rising : IsRising old) (disk : IsOnDiskWithAll old) (flights : FlightsStandAlone old) (b : ℕ) (needs : ℕ → List ℕ) (needed : AreNeeded old needs) (none : needs b ≡ []) where
  -- n is in flight of b, or depends on what is
  record IsOverFlight (n : ℕ) : Type 0 where
    patch : Patch
    flies : IsInFlightOn old b patch
    over : (patch.number ≡ n) ⊎ DependsOn old patch.number n

  -- what a hard change in memory directly depends on is one of the block
  own_direct : (h n : ℕ) → IsHardNumber old b h → DirectlyOn old h n → IsLiveNumber old n → IsHardNumber old b n ⊎ (IsOverFlight n ⊎ StaysOn old b n)
  own_direct h n hard d l = elim (needed.whole b h l.patch hard l.head (subst (DirectlyOn old h) (sym l.numbered) d)) [
    | inl kept ↦ absurd (none_in l.patch.number (subst (λ ns. Contains ns l.patch.number) none kept))
    | inr (inl s) ↦
        let own : s.block ≡ b = elim s.by [ inl e ↦ e | inr k ↦ absurd (none_in k.0 (subst (λ ns. Contains ns k.0) none k.1)) ] in
        let x = s.hard in
        let change = subst (IsOn x.patch) own x.change in
        let same = same_number old x.patch l.patch rising x.head l.head x.numbered in
        at_place x change (subst IsLive (sym same) l.live) s.at refl (x.numbered ∙ l.numbered)
    | inr (inr on) ↦ inr (inr (subst (StaysOn old b) l.numbered on))
  ]
    where
      at_place : {at : Place} {d m : ℕ} (x : IsHardAt old at d m) → IsOn x.patch b → IsLive x.patch → (p : Place) → at ≡ p → x.patch.number ≡ n → IsHardNumber old b n ⊎ (IsOverFlight n ⊎ StaysOn old b n)
      at_place x on live place.Memory e numbered = inl (record { patch = x.patch; head = x.head; numbered = numbered; hard = record { change = on; memory = x.place ∙ e; hard = x.hard } })
      at_place x on live place.Flight e numbered = inr (inl (record { patch = x.patch; flies = record { head = x.head; change = on; flight = x.place ∙ e }; over = inl numbered }))
      at_place x on live place.Disk e numbered = absurd (live (x.place ∙ e))

  own_below : (h n : ℕ) → IsHardNumber old b h → DependsOn old h n → IsLiveNumber old n → IsHardNumber old b n ⊎ (IsOverFlight n ⊎ StaysOn old b n)
  own_below h n hard (one d) l = own_direct h n hard d l
  own_below h n hard (join {q = k} c d) l = elim (own_below h k hard c (live_up old disk k n d l)) [
    | inl mid ↦ own_below k n mid d l
    | inr (inl f) ↦ inr (inl (record { patch = f.patch; flies = f.flies; over = inr (elim f.over [ inl e ↦ subst (λ m. DependsOn old m n) (sym e) d | inr low ↦ join low d ]) }))
    | inr (inr on) ↦ inr (inr (record { closed = λ a. on.closed (above_on old (IsOpenNumber old) k n d a); own = λ a. on.own (above_on old (PassesAt (test.LiveOff b) old) k n d a) }))
  ]

  pub edges_landed : (c d : ℕ) → HasEdge old c d → c ≢ b
  edges_landed c d e same =
      let i = e.in_memory in
      let need = e.need in
      let hard : IsHardNumber old b e.hard.number = record { patch = e.hard; head = i.head; numbered = refl; hard = record { change = subst (IsOn e.hard) same i.change; memory = i.memory; hard = e.is_hard } } in
      let other : IsOn need b → ⊥ = λ on. e.other (same ∙ one_block need b d on e.needs.change) in
      elim (own_below e.hard.number need.number hard e.needs.depends (record { patch = need; head = e.needs.head; numbered = refl; live = e.live })) [
        | inl own ↦ other (subst (λ p. IsOn p b) (same_number old own.patch need rising own.head e.needs.head own.numbered) own.hard.change)
        | inr (inr on) ↦ on.own (inl (record { patch = need; head = e.needs.head; numbered = refl; passed = off_to b need.number d need.kind need.place e.live e.needs.change (λ own. other (subst (IsOn need) own e.needs.change)) }))
        | inr (inl f) ↦ elim f.over [
          | inl here ↦ other (subst (λ p. IsOn p b) (same_number old f.patch need rising f.flies.head e.needs.head here) f.flies.change)
          | inr low ↦ elim (flights.needs b f.patch f.flies need d (record { head = e.needs.head; change = e.needs.change; depends = low })) [ inl gone ↦ e.live gone | inr own ↦ other own.change ]
        ]
      ]

-- and all but what flies of it stays
module _ (old new : List Patch) (b : ℕ) (cascade : IsCascadeOf (map (landed b) old) new) where
  pub stays_landed : (q : Patch) → Contains old q → IsLive q → StaysIn new (λ c. c ≢ b) q
  stays_landed q h l =
      let mid = Contains-from_In (map (landed b) old) (landed b q) (In-map (landed b) old q (landed b q) (In-from_Contains old q h) refl) in
      let s = settled_on (map (landed b) old) new cascade (landed b q) mid in
      elim (landed_cases b q) [
        | inl m ↦ record {
          now = s.0;
          head = s.1;
          number = s.2.number ∙ ap (λ x. x.number) m.2;
          dependencies = λ n c. subst (λ ds. Contains ds n) (sym (s.2.dependencies ∙ ap (λ x. x.dependencies) m.2)) c;
          kind = λ c on. s.2.kind ∙ ap (λ x. x.kind) m.2;
          live = λ c on other. absurd (other (one_block q c b on m.0));
          memory = λ c on other hard memory. absurd (other (one_block q c b on m.0));
        }
        | inr e ↦
            let same : (c : ℕ) → IsOn q c → s.0.place ≡ q.place = λ c on. s.2.place (no_follower_on (landed b q).kind c (ap (λ x. block_of_kind x.kind) e.0 ∙ on)) ∙ ap (λ x. x.place) e.0 in
            record {
              now = s.0;
              head = s.1;
              number = s.2.number ∙ ap (λ x. x.number) e.0;
              dependencies = λ n c. subst (λ ds. Contains ds n) (sym (s.2.dependencies ∙ ap (λ x. x.dependencies) e.0)) c;
              kind = λ c on. s.2.kind ∙ ap (λ x. x.kind) e.0;
              live = λ c on other k. l (sym (same c on) ∙ k);
              memory = λ c on other hard m. same c on ∙ m;
            }
      ]

-- from a row above a change from which a way leads back, a way leads back to the same end
pub back_over : (patches : List Patch) (b : ℕ) (row below : List ℕ) (top n end : ℕ) → Contains row top → (top ≡ n) ⊎ DependsOn patches top n → ((q : ℕ) → Contains below q → DirectlyOn patches n q) → LeadsBack patches b below end → LeadsBack patches b row end
back_over patches b row below top n end named way direct l = record { away = l.away; change = l.change; off = l.off; under = (top, named, inr (l.away, from, refl)); path = l.path }
  where
    low : DependsOn patches n l.away
    low = let u = l.under in let d = direct u.0 u.1 in elim u.2 [ inl e ↦ one (subst (DirectlyOn patches n) e d) | inr k ↦ join (one d) (subst (DependsOn patches u.0) k.2 k.1) ]

    from : DependsOn patches top l.away
    from = elim way [ inl e ↦ subst (λ m. DependsOn patches m l.away) (sym e) low | inr c ↦ join c low ]
