-- What a new change would depend on, and how it would be graded, once an open gate is sealed: told by the patches as they stand.
use Rattle.std.proofs.{Common.{◌≡◌, ◌≢◌, ◌⊎◌, ◌↔◌, ℕ, List, [], ◌∷◌, map, Contains, Some, None, refl, sym, ap, subst, ◌∙◌, inl, inr, arith}}
use Rattle.fst_types.specs.{Cascade.{Follows, RestsOnDisk, IsCascadeOf}, Closure.{one, join}, Dependencies.{DirectlyOn, DependsOn, Needs, IsLiveNumber, IsOnDisk}, Facts.SparseAreLawful}
use Rattle.fst_types.specs.{Gates.IsOpenNumber, Gating.sealed, Grades.FollowsRule, Patches.{SealedGate, Patch, IsOn, IsLive, IsOpenGate}, declared.grade.Grade.Grade}
use Rattle.fst_heads.specs.{Grading.{HasUnder, IsReturning, IsLeading, IsOpenBut, MayBeHard}, Rows.{IsTouched, IsSparseRow}}
use Rattle.fst_types.proofs.{Alike.back_alike, Cascades.{kind_cases, arrived}, Crash.same_number}
use Rattle.fst_types.proofs.Finite.{In-from_Contains, Contains-from_In, search_in, lowest}
use Rattle.fst_types.proofs.{SealedSame.{Twin, back, forth, depends_same, need_was, need_is, reaches_same}, Sealing.{alike_sealed, sparse_sealed}, SmallStates.only_in}
use Rattle.fst_heads.proofs.Touching.{touch_parts, touch_whole}
use Rattle.fst_levels.specs.WayBack.{LeadsBack}
use Rattle.fst_levels.proofs.{Backed.{Any, leads_stays, stays_sealed}, ComesBack.live_on, Holding.live_up, NearRow.under_weaker}
use Rattle.fst_graph.proofs.{WholeRows.live_or_disk, Wholes.{open_lives}}
use Rattle.fst_types.specs.declared.grade.Grade.TheVariants as grade
use Rattle.fst_types.proofs.Numbers.{memory_disk}

module _ (old new : List Patch) (numbers g : ℕ) (H : SparseAreLawful old numbers) (gate : IsOpenNumber old g) (cascade : IsCascadeOf (map (sealed g) old) new) where
  K : SparseAreLawful new numbers
  K = sparse_sealed old new numbers g H gate cascade

  was : (p : Patch) → Contains new p → (o : Patch) × Contains old o × Twin g o p
  was = back old new numbers g H gate cascade

  pub is : (o : Patch) → Contains old o → (p : Patch) × Contains new p × Twin g o p
  is = forth old new numbers g H gate cascade

  pub depends : (a b : ℕ) → DependsOn new a b ↔ DependsOn old a b
  depends = depends_same old new numbers g H gate cascade

  -- what is under a row stays there
  under_was : (P : ℕ → Type 0) (row : List ℕ) → HasUnder new row P → HasUnder old row P
  under_was P row u = (u.0, u.1, elim u.2 [ inl has ↦ inl has | inr r ↦ inr (r.0, (depends u.0 r.0).0 r.1, r.2) ])

  under_is : (P : ℕ → Type 0) (row : List ℕ) → HasUnder old row P → HasUnder new row P
  under_is P row u = (u.0, u.1, elim u.2 [ inl has ↦ inl has | inr r ↦ inr (r.0, (depends u.0 r.0).1 r.1, r.2) ])

  -- the other gates are open as before
  pub open_was : (n : ℕ) → IsOpenNumber new n → IsOpenBut old (Some g) n
  open_was n o =
      let p = was o.patch o.head in
      let e = p.2.was_open o.is_open in
      (record { patch = p.0; head = p.1; numbered = sym p.2.number ∙ o.numbered; is_open = e.0 }, λ same. e.1 (sym p.2.number ∙ (o.numbered ∙ same)))

  pub open_is : (n : ℕ) → IsOpenBut old (Some g) n → IsOpenNumber new n
  open_is n o =
      let p = is o.0.patch o.0.head in
      record { patch = p.0; head = p.1; numbered = p.2.number ∙ o.0.numbered; is_open = p.2.stays_open o.0.is_open (λ same. o.1 (sym o.0.numbered ∙ same)) }

  returning_was : (b n : ℕ) → IsReturning new b n → IsReturning old b n
  returning_was b n r =
      let x = was r.away r.head in
      let y = need_was old new numbers g H gate cascade r.away.number r.back b r.back_needed in
      let on = sym x.2.block ∙ r.change in
      record {
        away = x.0;
        back = y.0;
        away_on = r.away_on;
        head = x.1;
        numbered = sym x.2.number ∙ r.numbered;
        change = on;
        off = r.off;
        away_live = λ e. r.away_live (x.2.place r.away_on on ∙ e);
        back_needed = subst (λ k. Needs old k y.0 b) x.2.number y.1;
        back_live = λ e. r.back_live (y.3 ∙ e);
      }

  returning_is : (b n : ℕ) → IsReturning old b n → IsReturning new b n
  returning_is b n r =
      let x = is r.away r.head in
      let y = need_is old new numbers g H gate cascade r.away.number r.back b r.back_needed in
      record {
        away = x.0;
        back = y.0;
        away_on = r.away_on;
        head = x.1;
        numbered = x.2.number ∙ r.numbered;
        change = x.2.block ∙ r.change;
        off = r.off;
        away_live = λ e. r.away_live (sym (x.2.place r.away_on r.change) ∙ e);
        back_needed = subst (λ k. Needs new k y.0 b) (sym x.2.number) y.1;
        back_live = λ e. r.back_live (sym y.3 ∙ e);
      }

  leading_was : (b n : ℕ) → IsLeading new b n → IsLeading old b n
  leading_was b n l =
      let x = was l.patch l.head in
      let on = sym x.2.block ∙ l.change in
      record {
        patch = x.0;
        block = l.block;
        head = x.1;
        numbered = sym x.2.number ∙ l.numbered;
        change = on;
        live = λ e. l.live (x.2.place l.block on ∙ e);
        other = l.other;
        reaches = (reaches_same old new numbers g H gate cascade l.block b).0 l.reaches;
      }

  leading_is : (b n : ℕ) → IsLeading old b n → IsLeading new b n
  leading_is b n l =
      let x = is l.patch l.head in
      record {
        patch = x.0;
        block = l.block;
        head = x.1;
        numbered = x.2.number ∙ l.numbered;
        change = x.2.block ∙ l.change;
        live = λ e. l.live (sym (x.2.place l.block l.change) ∙ e);
        other = l.other;
        reaches = (reaches_same old new numbers g H gate cascade l.block b).1 l.reaches;
      }

  -- so a change may be hard once the gate is sealed exactly where it may be so with the gate taken as sealed
  may_is : (b : ℕ) (row : List ℕ) → MayBeHard old (Some g) b row → MayBeHard new None b row
  may_is b row m = record {
    free = λ u. m.free (under_was (IsOpenBut old (Some g)) row (under_weaker new row (IsOpenNumber new) (IsOpenBut old (Some g)) open_was u));
    straight = λ u. m.straight (under_was (IsReturning old b) row (under_weaker new row (IsReturning new b) (IsReturning old b) (returning_was b) u));
    open_ended = λ u. m.open_ended (under_was (IsLeading old b) row (under_weaker new row (IsLeading new b) (IsLeading old b) (leading_was b) u));
  }

  may_was : (b : ℕ) (row : List ℕ) → MayBeHard new None b row → MayBeHard old (Some g) b row
  may_was b row m = record {
    free = λ u. m.free (under_is (IsOpenNumber new) row (under_weaker old row (IsOpenBut old (Some g)) (IsOpenNumber new) open_is u));
    straight = λ u. m.straight (under_is (IsReturning new b) row (under_weaker old row (IsReturning old b) (IsReturning new b) (returning_is b) u));
    open_ended = λ u. m.open_ended (under_is (IsLeading new b) row (under_weaker old row (IsLeading old b) (IsLeading new b) (leading_is b) u));
  }

  pub rule_sealed : (x : Grade) (b : ℕ) (row : List ℕ) → FollowsRule x (MayBeHard old (Some g) b row) → FollowsRule x (MayBeHard new None b row)
  rule_sealed grade.Hard b row m = may_is b row m
  rule_sealed grade.Soft b row m = λ k. m (may_was b row k)

  -- and a way back stays
  pub back_sealed : (b : ℕ) (row : List ℕ) (end : ℕ) → LeadsBack old b row end → LeadsBack new b row end
  back_sealed b row end l =
      let x = live_on old H.one_place_each.rising b b end l.change in
      let s = stays_sealed old new numbers g H gate cascade l.change.patch l.change.head x.0 in
      leads_stays old new H.one_place_each.rising H.on_disk_with_all K.one_place_each.rising K.on_disk_with_all Any (λ c d e. tt) (stays_sealed old new numbers g H gate cascade) b row row end (λ q i. i) l
      (record { patch = s.now; head = s.head; numbered = s.number ∙ l.change.numbered; live = s.live b x.1 tt })

  -- what is on disk stays there
  pub stays : (q : ℕ) → IsOnDisk old q → IsOnDisk new q
  stays q d y i e =
      arrived (map (sealed g) old) new cascade K.no_cycle (λ p. IsOnDisk old p.number)
      (λ p b h bound on. let o = was p h in o.2.place b (sym o.2.block ∙ on) ∙ bound o.0 o.1 (sym o.2.number))
      (λ p h bound open_gate. let o = was p h in memory_disk o.0.place (H.on_disk_with_all.open_gates o.0 o.1 (o.2.was_open open_gate).0) (bound o.0 o.1 (sym o.2.number)))
      (λ p q h bound i c. let o = was p h in H.on_disk_with_all.disk o.0 o.1 (bound o.0 o.1 (sym o.2.number)) q.number (subst (λ ds. Contains ds q.number) o.2.dependencies c))
      y i (subst (IsOnDisk old) (sym e) d)

  -- a live patch that neither is the gate nor depends on it
  record IsAside (p : Patch) : Type 0 where
    head : Contains old p
    live : IsLive p
    other : p.number ≢ g
    apart : DependsOn old p.number g → ⊥

  -- it has a live one below, or rests on disk
  one_below : (p : Patch) → ((q : Patch) × Contains old q × Contains p.dependencies q.number × IsLive q) ⊎ RestsOnDisk old p
  one_below p =
      elim (search_in (IsLiveNumber old) p.dependencies (λ n. elim (live_or_disk old n) [ inl l ↦ inl l | inr disk ↦ inr (λ l. l.live (disk l.patch l.head l.numbered)) ])) [
        | inl f ↦ inl (f.2.patch, f.2.head, subst (Contains p.dependencies) (sym f.2.numbered) (Contains-from_In p.dependencies f.0 f.1), f.2.live)
        | inr m ↦ inr (λ n c. elim (live_or_disk old n) [ inl l ↦ absurd (m n (In-from_Contains p.dependencies n c) l) | inr disk ↦ disk ])
      ]

  -- a change or an open gate
  abbrev IsRoot : Patch → Type 0
  IsRoot p = ((b : ℕ) × IsOn p b) ⊎ IsOpenGate p

  next_root : (p : Patch) → IsAside p → IsRoot p ⊎ ((q : Patch) × IsAside q × DependsOn old p.number q.number)
  next_root p a = elim (kind_cases p.kind) [
    | inl on ↦ inl (inl on)
    | inr other ↦ elim other [
      | inl open_gate ↦ inl (inr open_gate)
      | inr follows ↦ elim (one_below p) [
        | inl f ↦
            let d : DependsOn old p.number f.0.number = one (record { patch = p; head = a.head; numbered = refl; named = f.2 }) in
            inr (f.0, record { head = f.1; live = f.3; other = λ same. a.apart (subst (DependsOn old p.number) same d); apart = λ k. a.apart (join d k) }, d)
        | inr rests ↦ absurd (a.live (H.on_disk_with_all.follows p a.head follows rests))
      ]
    ]
  ]

  -- so it stays live
  lives : (p : Patch) → IsAside p → IsLiveNumber new p.number
  lives p a =
      let r = lowest Patch (λ x y. DependsOn old x.number y.number) (λ x y z c d. join c d) (λ x d. H.no_cycle x.number d) IsAside IsRoot next_root old (λ x y k d. In-from_Contains old y k.head) p a in
      let root : IsLiveNumber new r.0.number = root_lives r.0 r.1 r.2 in
      elim r.3 [
        | inl same ↦ subst (λ (x : Patch). IsLiveNumber new x.number) (sym same) root
        | inr d ↦ live_up new K.on_disk_with_all p.number r.0.number ((depends p.number r.0.number).1 d) root
      ]
    where
      root_lives : (x : Patch) → IsAside x → IsRoot x → IsLiveNumber new x.number
      root_lives x k (inl on) = let y = is x k.head in record { patch = y.0; head = y.1; numbered = y.2.number; live = λ e. k.live (sym (y.2.place on.0 on.1) ∙ e) }
      root_lives x k (inr open_gate) = let y = is x k.head in open_lives new K.on_disk_with_all x.number (record { patch = y.0; head = y.1; numbered = y.2.number; is_open = y.2.stays_open open_gate k.other })

  -- the gate is live exactly where something live is directly below it
  pub gate_lives : (q : ℕ) → DirectlyOn old g q → IsLiveNumber old q → IsLiveNumber new g
  gate_lives q d l =
      let below : IsAside l.patch = record {
        head = l.head;
        live = l.live;
        other = λ same. H.no_cycle g (subst (DependsOn old g) (sym l.numbered ∙ same) (one d));
        apart = λ k. H.no_cycle g (join (one d) (subst (λ m. DependsOn old m g) l.numbered k));
      } in
      live_up new K.on_disk_with_all g q ((depends g q).1 (one d)) (subst (IsLiveNumber new) l.numbered (lives l.patch below))

  -- it is sealed
  is_sealed : (p : Patch) → Contains new p → p.number ≡ g → p.kind ≡ SealedGate
  is_sealed p h e =
      let r = back_alike old new (alike_sealed old new numbers g H gate cascade) p h in
      elim r.2.kind [
        | inl same ↦
            let o : r.0 ≡ gate.patch = same_number old r.0 gate.patch H.one_place_each.rising r.1 gate.head (sym r.2.number ∙ (e ∙ sym gate.numbered)) in
            let w = was p h in
            absurd ((w.2.was_open (same ∙ (ap (λ x. x.kind) o ∙ gate.is_open))).1 (sym w.2.number ∙ e))
        | inr k ↦ k.1
      ]

  pub gate_rests : ((q : ℕ) → DirectlyOn old g q → IsOnDisk old q) → IsLiveNumber new g → ⊥
  gate_rests rests l =
      let o = was l.patch l.head in
      l.live ((cascade.settled l.patch l.head (subst Follows (sym (is_sealed l.patch l.head l.numbered)) tt)).1 (λ q c.
      stays q (rests q (record { patch = o.0; head = o.1; numbered = sym o.2.number ∙ l.numbered; named = subst (λ ds. Contains ds q) o.2.dependencies c }))))

  -- what a new change overlaps stays
  pub touched_was : (b at len n : ℕ) → IsTouched new b at len n → IsTouched old b at len n
  touched_was b at len n t =
      let k = touch_parts b at len t.patch.kind t.patch.place t.shares in
      let o = was t.patch t.head in
      let on = sym o.2.block ∙ k.1 in
      record {
        patch = o.0;
        head = o.1;
        numbered = sym o.2.number ∙ t.numbered;
        shares = touch_whole b at len o.0.kind o.0.place (λ e. k.0 (o.2.place b on ∙ e)) on (omega (arith, k.2, o.2.at)) (omega (arith, k.3, o.2.at, o.2.len));
      }

  touched_is : (b at len n : ℕ) → IsTouched old b at len n → IsTouched new b at len n
  touched_is b at len n t =
      let k = touch_parts b at len t.patch.kind t.patch.place t.shares in
      let p = is t.patch t.head in
      record {
        patch = p.0;
        head = p.1;
        numbered = p.2.number ∙ t.numbered;
        shares = touch_whole b at len p.0.kind p.0.place (λ e. k.0 (sym (p.2.place b k.1) ∙ e)) (p.2.block ∙ k.1) (omega (arith, k.2, p.2.at)) (omega (arith, k.3, p.2.at, p.2.len));
      }

  -- so the row is the same, where the gate is named exactly if it stays live
  pub row_named : (b at len : ℕ) (row : List ℕ) → IsLiveNumber new g → IsSparseRow old (g ∷ []) b at len row → IsSparseRow new (g ∷ []) b at len row
  row_named b at len row live l = record {
    rising = l.rising;
    only = λ n c. elim (l.only n c) [ inl k ↦ inl (subst (IsLiveNumber new) (only_in g n k.1) live, k.1) | inr t ↦ inr (touched_is b at len n t) ];
    named = λ n k c. l.named n (subst (IsLiveNumber old) (only_in g n c) (open_lives old H.on_disk_with_all g gate)) c;
    above = λ n t. elim (l.above n (touched_was b at len n t)) [ inl c ↦ inl c | inr m ↦ inr (m.0, m.1, (depends m.0 n).1 m.2) ];
  }

  pub row_unnamed : (b at len : ℕ) (row : List ℕ) → (IsLiveNumber new g → ⊥) → IsSparseRow old [] b at len row → IsSparseRow new (g ∷ []) b at len row
  row_unnamed b at len row rests l = record {
    rising = l.rising;
    only = λ n c. elim (l.only n c) [ inl k ↦ absurd (In-from_Contains [] n k.1) | inr t ↦ inr (touched_is b at len n t) ];
    named = λ n k c. absurd (rests (subst (IsLiveNumber new) (sym (only_in g n c)) k));
    above = λ n t. elim (l.above n (touched_was b at len n t)) [ inl c ↦ inl c | inr m ↦ inr (m.0, m.1, (depends m.0 n).1 m.2) ];
  }
