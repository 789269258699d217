-- What patches with whole rows and the same with sparse ones have in common, and that a step makes the same of both.
use Rattle.std.proofs.Common.{◌≡◌, ◌↔◌, ℕ, List, map, Contains, refl, sym, ap, subst, ◌∙◌, inl, inr, ◌⊎◌, ◌==◌, ◌≤◌, [], ◌∷◌, ◌++◌, filter, Some, arith}
use Rattle.std.proofs.lemmas.{Bool.{cases_Bool, eqb-true}, List.Elements.Contains-append_cases}
use Rattle.fst_types.specs.{Cascade.{Follows, RestsOnDisk, placed_as, unsettled, IsCascadeOf}, Closure.{one, join}, Dependencies.{DirectlyOn, DependsOn, Needs, IsBlocked, IsLiveNumber, IsOnDisk}}
use Rattle.fst_types.specs.{Facts.IsOnDiskWithAll, Gates.{IsOpenNumber, IsSealedNumber}, Gating.{gains, sealed}, Grades.{HasEdge, Reaches, Returns}}
use Rattle.fst_types.specs.{Patches.{Patch, IsLive, IsOpenGate, grade_of_kind, Kind, Change, OpenGate, SealedGate, IsOn, block_of_kind}, Tests.{is_live, is_among, is_change_at}}
use Rattle.fst_types.specs.{Writable.{IsInMemoryOn, InWritableSet}, Writing.{launched, landed}, declared.place.Place.Place}
use Rattle.fst_graph.specs.Rows.{whole, IsSparseOf, row_of_kind}
use Rattle.fst_types.proofs.{Alike.closure_map, Cascades.{place_decided, Settled, settled_back, settled_on, no_follower_on}}
use Rattle.fst_types.proofs.{Finite.{In-from_Contains, Contains-from_In, In-map, In, In-append_left}, GateGains.In-unmap}
use Rattle.fst_levels.proofs.Holding.{live_up}
use Rattle.fst_types.specs.declared.place.Place.TheVariants as place
use Rattle.fst_types.proofs.Numbers.{memory_disk}

pub open_lives : (heads : List Patch) → IsOnDiskWithAll heads → (g : ℕ) → IsOpenNumber heads g → IsLiveNumber heads g
open_lives heads D g o = record { patch = o.patch; head = o.head; numbered = o.numbered; live = λ e. memory_disk o.patch.place (D.open_gates o.patch o.head o.is_open) e }

-- a patch and the same with its whole row
module _ (rows : List (ℕ × List ℕ)) (T : List Patch) where
  abbrev pub wholes : List Patch
  wholes = map (whole rows) T

  pub is : (p : Patch) → Contains T p → Contains wholes (whole rows p)
  is p h = Contains-from_In wholes (whole rows p) (In-map (whole rows) T p (whole rows p) (In-from_Contains T p h) refl)

  pub was : (q : Patch) → Contains wholes q → (p : Patch) × Contains T p × (whole rows p ≡ q)
  was q h = let w = In-unmap (whole rows) T q (In-from_Contains wholes q h) in (w.0, Contains-from_In T w.0 w.1, w.2)

  -- what holds of each with its whole row
  pub each_whole : (P : Patch → Type 0) → ((p : Patch) → Contains T p → P (whole rows p)) → (q : Patch) → Contains wholes q → P q
  each_whole P f q h = let w = was q h in subst P w.2 (f w.0 w.1)

  pub on_disk : (n : ℕ) → IsOnDisk T n ↔ IsOnDisk wholes n
  on_disk n = (λ d. each_whole (λ q. q.number ≡ n → q.place ≡ place.Disk) (λ p h e. d p h e), λ d p h e. d (whole rows p) (is p h) e)

  pub live_number : (n : ℕ) → IsLiveNumber T n ↔ IsLiveNumber wholes n
  live_number n = (
    λ l. record { patch = whole rows l.patch; head = is l.patch l.head; numbered = l.numbered; live = l.live },
    λ l. let w = was l.patch l.head in record { patch = w.0; head = w.1; numbered = ap (λ x. x.number) w.2 ∙ l.numbered; live = λ e. l.live (sym (ap (λ x. x.place) w.2) ∙ e) },
  )

  pub open_number : (n : ℕ) → IsOpenNumber T n ↔ IsOpenNumber wholes n
  open_number n = (
    λ l. record { patch = whole rows l.patch; head = is l.patch l.head; numbered = l.numbered; is_open = l.is_open },
    λ l. let w = was l.patch l.head in record { patch = w.0; head = w.1; numbered = ap (λ x. x.number) w.2 ∙ l.numbered; is_open = ap (λ x. x.kind) w.2 ∙ l.is_open },
  )

  pub sealed_number : (n : ℕ) → IsSealedNumber T n ↔ IsSealedNumber wholes n
  sealed_number n = (
    λ l. record { patch = whole rows l.patch; head = is l.patch l.head; numbered = l.numbered; is_sealed = l.is_sealed },
    λ l. let w = was l.patch l.head in record { patch = w.0; head = w.1; numbered = ap (λ x. x.number) w.2 ∙ l.numbered; is_sealed = ap (λ x. x.kind) w.2 ∙ l.is_sealed },
  )

  pub memory_is : (b : ℕ) (p : Patch) → IsInMemoryOn T b p → IsInMemoryOn wholes b (whole rows p)
  memory_is b p m = record { head = is p m.head; change = m.change; memory = m.memory }

  pub memory_was : (b : ℕ) (q : Patch) → IsInMemoryOn wholes b q → (p : Patch) × IsInMemoryOn T b p × (whole rows p ≡ q)
  memory_was b q m =
      let w = was q m.head in
      (w.0, subst (λ (x : Patch). IsInMemoryOn wholes b x → IsInMemoryOn T b w.0) w.2 (λ k. record { head = w.1; change = k.change; memory = k.memory }) m, w.2)

-- where what is kept of a row tells the rest
module _ (rows : List (ℕ × List ℕ)) (T : List Patch) (numbers : ℕ) (S : IsSparseOf rows T numbers) (D : IsOnDiskWithAll (map (whole rows) T)) where
  abbrev F : List Patch
  F = map (whole rows) T

  pub depends_up : (a b : ℕ) → DependsOn T a b → DependsOn F a b
  depends_up = closure_map (DirectlyOn T) (DirectlyOn F) (λ a b d. record { patch = whole rows d.patch; head = is rows T d.patch d.head; numbered = d.numbered; named = S.only d.patch b d.head d.named })

  live_above : (a b : ℕ) → DependsOn F a b → IsLiveNumber T b → IsLiveNumber T a
  live_above a b d l = (live_number rows T a).1 (live_up F D a b d ((live_number rows T b).0 l))

  pub depends_down : (a b : ℕ) → DependsOn F a b → IsLiveNumber T b → DependsOn T a b
  depends_down a b (one d) live =
      let w = was rows T d.patch d.head in
      subst (λ n. DependsOn T n b) (ap (λ x. x.number) w.2 ∙ d.numbered) (S.below w.0 b w.1 (subst (λ (x : Patch). Contains x.dependencies b) (sym w.2) d.named) live)
  depends_down a b (join {q = r} d e) live = join (depends_down a r d (live_above r b e live)) (depends_down r b e live)

  open_live : (g : Patch) → Contains F g → IsOpenGate g → IsLiveNumber T g.number
  open_live g h o = (live_number rows T g.number).1 (record { patch = g; head = h; numbered = refl; live = λ e. memory_disk g.place (D.open_gates g h o) e })

  pub blocked : (a : ℕ) → IsBlocked T a ↔ IsBlocked F a
  blocked a = (
    λ k. record { gate = whole rows k.gate; head = is rows T k.gate k.head; is_open = k.is_open; depends = depends_up a k.gate.number k.depends },
    λ k.
        let w = was rows T k.gate k.head in
        record {
          gate = w.0;
          head = w.1;
          is_open = ap (λ x. x.kind) w.2 ∙ k.is_open;
          depends = subst (DependsOn T a) (sym (ap (λ x. x.number) w.2)) (depends_down a k.gate.number k.depends (open_live k.gate k.head k.is_open));
        },
  )

  pub need_is : (a : ℕ) (q : Patch) (c : ℕ) → Needs T a q c → Needs F a (whole rows q) c
  need_is a q c n = record { head = is rows T q n.head; change = n.change; depends = depends_up a q.number n.depends }

  pub need_was : (a : ℕ) (q : Patch) (c : ℕ) → Needs F a q c → IsLive q → (p : Patch) × Needs T a p c × (whole rows p ≡ q)
  need_was a q c n live =
      let w = was rows T q n.head in
      let k = subst (λ (x : Patch). Needs F a x c) (sym w.2) n in
      (w.0, record { head = w.1; change = k.change; depends = depends_down a w.0.number k.depends (record { patch = w.0; head = w.1; numbered = refl; live = λ e. live (sym (ap (λ x. x.place) w.2) ∙ e) }) }, w.2)

  -- what may be written
  pub set_is : (b : ℕ) (p : Patch) → InWritableSet T b p → InWritableSet F b (whole rows p)
  set_is b p i = record {
    in_memory = memory_is rows T b p i.in_memory;
    free = λ k. i.free ((blocked p.number).1 k);
    needs = λ q c n. elim (place_decided q.place) [
      | inl d ↦ inl d
      | inr live ↦
          let o = need_was p.number q c n live in
          elim (i.needs o.0 c o.1) [ inl d ↦ inl (sym (ap (λ x. x.place) o.2) ∙ d) | inr m ↦ inr (subst (IsInMemoryOn F b) o.2 (memory_is rows T b o.0 m)) ]
    ];
  }

  pub set_back : (b : ℕ) (p : Patch) → Contains T p → InWritableSet F b (whole rows p) → InWritableSet T b p
  set_back b p h i = record {
    in_memory = record { head = h; change = i.in_memory.change; memory = i.in_memory.memory };
    free = λ k. i.free ((blocked p.number).0 k);
    needs = λ q c n. elim (i.needs (whole rows q) c (need_is p.number q c n)) [
      | inl d ↦ inl d
      | inr m ↦ inr (record { head = n.head; change = m.change; memory = m.memory })
    ];
  }

  pub set_was : (b : ℕ) (q : Patch) → InWritableSet F b q → (p : Patch) × InWritableSet T b p × (whole rows p ≡ q)
  set_was b q i = let w = was rows T q i.in_memory.head in (w.0, set_back b w.0 w.1 (subst (InWritableSet F b) (sym w.2) i), w.2)

  -- the block graph
  pub edge_is : (b c : ℕ) → HasEdge T b c → HasEdge F b c
  edge_is b c e = record {
    other = e.other;
    hard = whole rows e.hard;
    need = whole rows e.need;
    in_memory = memory_is rows T b e.hard e.in_memory;
    is_hard = e.is_hard;
    needs = need_is e.hard.number e.need c e.needs;
    live = e.live;
  }

  pub edge_was : (b c : ℕ) → HasEdge F b c → HasEdge T b c
  edge_was b c e =
      let p = memory_was rows T b e.hard e.in_memory in
      let q = need_was e.hard.number e.need c e.needs e.live in
      record {
        other = e.other;
        hard = p.0;
        need = q.0;
        in_memory = p.1;
        is_hard = ap (λ x. grade_of_kind x.kind) p.2 ∙ e.is_hard;
        needs = subst (λ n. Needs T n q.0 c) (sym (ap (λ x. x.number) p.2)) q.1;
        live = λ d. e.live (sym (ap (λ x. x.place) q.2) ∙ d);
      }

  pub reaches : (b c : ℕ) → Reaches T b c ↔ Reaches F b c
  reaches b c = (closure_map (HasEdge T) (HasEdge F) edge_is b c, closure_map (HasEdge F) (HasEdge T) edge_was b c)

  pub returns : (b a : ℕ) → Returns T b a ↔ Returns F b a
  returns b a = (
    λ r. record {
      away = whole rows r.away;
      back = whole rows r.back;
      away_on = r.away_on;
      off = r.off;
      away_needed = need_is a r.away r.away_on r.away_needed;
      away_live = r.away_live;
      back_needed = need_is r.away.number r.back b r.back_needed;
      back_live = r.back_live;
    },
    λ r.
        let x = need_was a r.away r.away_on r.away_needed r.away_live in
        let y = need_was r.away.number r.back b r.back_needed r.back_live in
        record {
          away = x.0;
          back = y.0;
          away_on = r.away_on;
          off = r.off;
          away_needed = x.1;
          away_live = λ e. r.away_live (sym (ap (λ z. z.place) x.2) ∙ e);
          back_needed = subst (λ n. Needs T n y.0 b) (sym (ap (λ z. z.number) x.2)) y.1;
          back_live = λ e. r.back_live (sym (ap (λ z. z.place) y.2) ∙ e);
        },
  )

-- two changes of each patch that can be made in either order
pub map_swap : (f g : Patch → Patch) (xs : List Patch) → ((x : Patch) → In xs x → f (g x) ≡ g (f x)) → map f (map g xs) ≡ map g (map f xs)
map_swap f g [] same = refl
map_swap f g (x ∷ xs) same = let head = same x (inl refl) in let rest = map_swap f g xs (λ y h. same y (inr h)) in cc

-- the same patch but for more dependencies, which no change gains
pub record IsKept (o p : Patch) : Type 0 where
  pub number : p.number ≡ o.number
  pub more : (q : ℕ) → Contains o.dependencies q → Contains p.dependencies q
  pub change : (b : ℕ) → IsOn p b → (p.dependencies ≡ o.dependencies) × (p.kind ≡ o.kind)

pub kept_self : (p : Patch) → IsKept p p
kept_self p = record { number = refl; more = λ q c. c; change = λ b on. (refl, refl) }

-- each patch that was there is kept, and each other one is no change
pub record AreKept (old new : List Patch) : Type 0 where
  pub back : (p : Patch) → Contains new p → ((b : ℕ) → IsOn p b → ⊥) ⊎ ((o : Patch) × Contains old o × IsKept o p)
  pub forth : (o : Patch) → Contains old o → (p : Patch) × Contains new p × IsKept o p

pub kept_then : (old mid new : List Patch) → AreKept old mid → AreKept mid new → AreKept old new
kept_then old mid new K L = record {
  back = λ p h. elim (L.back p h) [
    | inl off ↦ inl off
    | inr m ↦ elim (K.back m.0 m.1) [
      | inl off ↦ inl (λ b on. off b (subst (λ (k : Kind). block_of_kind k ≡ Some b) (m.2.change b on).1 on))
      | inr o ↦ inr (o.0, o.1, both o.0 m.0 p o.2 m.2)
    ]
  ];
  forth = λ o h. let m = K.forth o h in let p = L.forth m.0 m.1 in (p.0, p.1, both o m.0 p.0 m.2 p.2);
}
  where
    both : (o m p : Patch) → IsKept o m → IsKept m p → IsKept o p
    both o m p k l = record {
      number = l.number ∙ k.number;
      more = λ q c. l.more q (k.more q c);
      change = λ b on.
          let x = l.change b on in
          let y = k.change b (subst (λ (k : Kind). block_of_kind k ≡ Some b) x.1 on) in
          (x.0 ∙ y.0, x.1 ∙ y.1);
    }

pub kept_map : (f : Patch → Patch) (heads : List Patch) → ((p : Patch) → Contains heads p → IsKept p (f p)) → AreKept heads (map f heads)
kept_map f heads each = record {
  back = λ p h.
      let o = In-unmap f heads p (In-from_Contains (map f heads) p h) in
      let c = Contains-from_In heads o.0 o.1 in
      inr (o.0, c, subst (IsKept o.0) o.2 (each o.0 c));
  forth = λ o h. (f o, Contains-from_In (map f heads) (f o) (In-map f heads o (f o) (In-from_Contains heads o h) refl), each o h);
}

pub kept_cascade : (mid new : List Patch) → IsCascadeOf mid new → AreKept mid new
kept_cascade mid new cascade = record {
  back = λ p h. let o = settled_back mid new cascade p h in inr (o.0, o.1, settles o.0 p o.2);
  forth = λ o h. let p = settled_on mid new cascade o h in (p.0, p.1, settles o p.0 p.2);
}
  where
    settles : (o p : Patch) → Settled o p → IsKept o p
    settles o p s = record { number = s.number; more = λ q c. subst (λ ds. Contains ds q) (sym s.dependencies) c; change = λ b on. (s.dependencies, s.kind) }

pub kept_pushed : (heads : List Patch) (p : Patch) → ((b : ℕ) → IsOn p b → ⊥) → AreKept heads (heads ++ p ∷ [])
kept_pushed heads p off = record {
  back = λ x h. elim (Contains-append_cases heads (p ∷ []) x h) [
    | inl was ↦ inr (x, was, kept_self x)
    | inr new ↦ elim (In-from_Contains (p ∷ []) x new) [ inl same ↦ inl (subst (λ (y : Patch). (b : ℕ) → IsOn y b → ⊥) same off) | inr none ↦ absurd none ]
  ];
  forth = λ o h. (o, Contains-from_In (heads ++ p ∷ []) o (In-append_left heads (p ∷ []) o (In-from_Contains heads o h)), kept_self o);
}

-- so what depended on another patch still does
pub depends_kept : (old new : List Patch) → AreKept old new → (a b : ℕ) → DependsOn old a b → DependsOn new a b
depends_kept old new K =
    closure_map (DirectlyOn old) (DirectlyOn new)
    (λ a b d. let p = K.forth d.patch d.head in record { patch = p.0; head = p.1; numbered = p.2.number ∙ d.numbered; named = p.2.more b d.named })

module _ (rows : List (ℕ × List ℕ)) where
  -- a patch that is no change has its own row
  own_row : (k : Kind) (n : ℕ) (own : List ℕ) → ((b : ℕ) → block_of_kind k ≡ Some b → ⊥) → row_of_kind rows k n own ≡ own
  own_row (Change block at len grade) n own off = absurd (off block refl)
  own_row k n own off = refl

  pub whole_other : (p : Patch) → ((b : ℕ) → IsOn p b → ⊥) → (whole rows p).dependencies ≡ p.dependencies
  whole_other p off = own_row p.kind p.number p.dependencies off

  pub whole_same : (o p : Patch) → p.number ≡ o.number → p.kind ≡ o.kind → p.dependencies ≡ o.dependencies → (whole rows p).dependencies ≡ (whole rows o).dependencies
  whole_same o p number kind dependencies = rw (number, kind, dependencies) refl

  -- what is kept of rows tells the rest after the step too
  pub sparse_kept : (old new : List Patch) (numbers later : ℕ) → IsSparseOf rows old numbers → AreKept old new → ((p : Patch) (q : ℕ) → Contains old p → Contains (whole rows p).dependencies q → q ≤ numbers)
      → ((n : ℕ) → n ≤ numbers → IsLiveNumber new n → IsLiveNumber old n) → numbers ≤ later → IsSparseOf rows new later
  sparse_kept old new numbers later S K named lives few = record {
    only = λ p q h c. only p q h c (change_or_not p.kind);
    below = λ p q h c live. below p q h c live (change_or_not p.kind);
    given = λ e h. let k = S.given e h in omega arith;
  }
    where
      change_or_not : (k : Kind) → ((b : ℕ) × (block_of_kind k ≡ Some b)) ⊎ ((b : ℕ) → block_of_kind k ≡ Some b → ⊥)
      change_or_not (Change block at len grade) = inl (block, refl)
      change_or_not k = inr (λ b e. cc)

      before : (p : Patch) (b : ℕ) → Contains new p → IsOn p b → (o : Patch) × Contains old o × IsKept o p
      before p b h on = elim (K.back p h) [ inl off ↦ absurd (off b on) | inr o ↦ o ]

      only : (p : Patch) (q : ℕ) → Contains new p → Contains p.dependencies q → ((b : ℕ) × IsOn p b) ⊎ ((b : ℕ) → IsOn p b → ⊥) → Contains (whole rows p).dependencies q
      only p q h c (inl on) =
          let o = before p on.0 h on.1 in
          let k = o.2.change on.0 on.1 in
          subst (λ ds. Contains ds q) (sym (whole_same o.0 p o.2.number k.1 k.0)) (S.only o.0 q o.1 (subst (λ ds. Contains ds q) k.0 c))
      only p q h c (inr off) = subst (λ ds. Contains ds q) (sym (whole_other p off)) c

      below : (p : Patch) (q : ℕ) → Contains new p → Contains (whole rows p).dependencies q → IsLiveNumber new q → ((b : ℕ) × IsOn p b) ⊎ ((b : ℕ) → IsOn p b → ⊥) → DependsOn new p.number q
      below p q h c live (inl on) =
          let o = before p on.0 h on.1 in
          let k = o.2.change on.0 on.1 in
          let was = subst (λ ds. Contains ds q) (whole_same o.0 p o.2.number k.1 k.0) c in
          subst (λ n. DependsOn new n q) (sym o.2.number) (depends_kept old new K o.0.number q (S.below o.0 q o.1 was (lives q (named o.0 q o.1 was) live)))
      below p q h c live (inr off) = one (record { patch = p; head = h; numbered = refl; named = subst (λ ds. Contains ds q) (whole_other p off) c })

  -- followers settle as they do with sparse rows
  settle_kind : (k : Kind) (n : ℕ) (at : Place) (own : List ℕ) → let p : Patch = record { number = n; kind = k; place = at; dependencies = own } in placed_as k (whole rows p) ≡ whole rows (placed_as k p)
  settle_kind (Change block from len grade) n at own = refl
  settle_kind k n at own = refl

  follower_other : (p : Patch) → Follows p.kind → (b : ℕ) → IsOn p b → ⊥
  follower_other p f b on = no_follower_on p.kind b on f

  pub cascade_whole : (mid new : List Patch) → IsCascadeOf mid new → IsCascadeOf (map (whole rows) mid) (map (whole rows) new)
  cascade_whole mid new cascade = record {
    same = swap new ∙ (ap (map (whole rows)) cascade.same ∙ sym (swap mid));
    places = each_whole rows new (λ q. Follows q.kind → (q.place ≡ place.Memory) ⊎ (q.place ≡ place.Disk)) (λ p h f. cascade.places p h f);
    settled = each_whole rows new (λ q. Follows q.kind → ((q.place ≡ place.Disk) ↔ RestsOnDisk (map (whole rows) new) q)) (λ p h f.
        let own = whole_other p (follower_other p f) in
        let s = cascade.settled p h f in
        (λ d q c. (on_disk rows new q).0 (s.0 d q (subst (λ ds. Contains ds q) own c)), λ r. s.1 (λ q c. (on_disk rows new q).1 (r q (subst (λ ds. Contains ds q) (sym own) c)))));
  }
    where
      swap : (xs : List Patch) → map unsettled (map (whole rows) xs) ≡ map (whole rows) (map unsettled xs)
      swap xs = map_swap unsettled (whole rows) xs (λ x h. settle_kind x.kind x.number x.place x.dependencies)

  -- what a step does to each patch
  pub swap_landed : (b : ℕ) (heads : List Patch) → map (landed b) (map (whole rows) heads) ≡ map (whole rows) (map (landed b) heads)
  swap_landed b heads = map_swap (landed b) (whole rows) heads (λ p h. elim (cases_Bool (is_change_at place.Flight b p)) [ inl t ↦ rw t refl | inr f ↦ rw f refl ])

  pub swap_launched : (chosen : List ℕ) (heads : List Patch) → map (launched chosen) (map (whole rows) heads) ≡ map (whole rows) (map (launched chosen) heads)
  swap_launched chosen heads = map_swap (launched chosen) (whole rows) heads (λ p h. elim (cases_Bool (is_among chosen p.number)) [ inl t ↦ rw t refl | inr f ↦ rw f refl ])

  pub open_other : (p : Patch) → p.kind ≡ OpenGate → (b : ℕ) → IsOn p b → ⊥
  open_other p e b on = let none = subst (λ (k : Kind). block_of_kind k ≡ Some b) e on in cc

  pub whole_open : (p : Patch) → p.kind ≡ OpenGate → (whole rows p).dependencies ≡ p.dependencies
  whole_open p e = whole_other p (open_other p e)

  pub swap_sealed : (g : ℕ) (heads : List Patch) → ((p : Patch) → Contains heads p → p.number ≡ g → p.kind ≡ OpenGate) → map (sealed g) (map (whole rows) heads) ≡ map (whole rows) (map (sealed g) heads)
  swap_sealed g heads gate =
      map_swap (sealed g) (whole rows) heads
      (λ p h. elim (cases_Bool (p.number == g)) [
        | inl t ↦ rw t (ap (λ ds. record p { kind = SealedGate; dependencies = ds }) (whole_other p (open_other p (gate p (Contains-from_In heads p h) (eqb-true p.number g t)))))
        | inr f ↦ rw f refl
      ])

  pub swap_gains : (g : ℕ) (names : List ℕ) (heads : List Patch) → ((p : Patch) → Contains heads p → p.number ≡ g → p.kind ≡ OpenGate) → map (gains g names) (map (whole rows) heads) ≡ map (whole rows) (map (gains g names) heads)
  swap_gains g names heads gate =
      map_swap (gains g names) (whole rows) heads
      (λ p h. elim (cases_Bool (p.number == g)) [
        | inl t ↦
            let off = open_other p (gate p (Contains-from_In heads p h) (eqb-true p.number g t)) in
            rw t (ap (λ ds. record p { dependencies = ds }) (ap (λ ds. ds ++ names) (whole_other p off) ∙ sym (own_row p.kind p.number (p.dependencies ++ names) off)))
        | inr f ↦ rw f refl
      ])

  pub swap_filter : (heads : List Patch) → filter is_live (map (whole rows) heads) ≡ map (whole rows) (filter is_live heads)
  swap_filter [] = refl
  swap_filter (x ∷ xs) = let rest = swap_filter xs in elim (cases_Bool (is_live x)) [ inl t ↦ rw (t, rest) refl | inr f ↦ rw (f, rest) refl ]

  pub swap_pushed : (heads : List Patch) (p : Patch) → map (whole rows) (heads ++ p ∷ []) ≡ map (whole rows) heads ++ whole rows p ∷ []
  swap_pushed [] p = refl
  swap_pushed (x ∷ xs) p = rw (swap_pushed xs p) refl
