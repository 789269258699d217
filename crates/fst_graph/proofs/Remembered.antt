-- What is told of the patches that are not forgotten is told of all whose heads are kept: a live patch depends on a live one by live ones alone.
use Rattle.std.proofs.Common.{◌≡◌, ◌<◌, ◌↔◌, ℕ, Bool, true, false, not, List, [], ◌∷◌, ◌++◌, map, filter, Contains, refl, sym, ap, subst, ◌∙◌, inl, inr}
use Rattle.std.proofs.lemmas.{Bool.cases_Bool, List.Kept.AllPairs-filter}
use Rattle.fst_types.specs.{Closure.{one, join}, Dependencies.{DirectlyOn, DependsOn, Needs, IsBlocked, IsLiveNumber, IsOnDisk}, Facts.{IsInFlightOn, IsOnDiskWithAll, SparseAreLawful}}
use Rattle.fst_types.specs.{Gates.{IsOpenNumber, IsSealedNumber}, Grades.{HasEdge, Reaches, Returns}, Patches.{Patch, IsLive}, Writable.{IsInMemoryOn, InWritableSet}}
use Rattle.fst_types.proofs.{Alike.{closure_map, acyclic_map}, Cascades.place_decided, Dropping.{filter_in, in_filter}, Finite.{In, In-from_Contains, Contains-from_In}, Numbers.{clash, true_not}}
use Rattle.fst_levels.proofs.Holding.{live_up}
use Rattle.fst_graph.specs.Remembered.{remembered, AreGone}
use Rattle.fst_graph.proofs.Wholes.{open_lives}
use Rattle.fst_types.proofs.Numbers.{memory_disk}

-- a list filtered twice, where what the one test drops the other does too
pub filter_twice : (t u : Patch → Bool) (xs : List Patch) → ((x : Patch) → In xs x → u x ≡ false → t x ≡ false) → filter t (filter u xs) ≡ filter t xs
filter_twice t u [] drops = refl
filter_twice t u (x ∷ xs) drops =
    let rest = filter_twice t u xs (λ y i. drops y (inr i)) in
    elim (cases_Bool (u x)) [
      | inl e ↦ elim (cases_Bool (t x)) [ inl f ↦ rw (e, f, rest) refl | inr f ↦ rw (e, f, rest) refl ]
      | inr e ↦ rw (e, drops x (inl refl) e, rest) refl
    ]

module _ (gone : ℕ → Bool) where
  -- where nothing is forgotten
  pub remembered_all : (heads : List Patch) → ((p : Patch) → In heads p → gone p.number ≡ false) → remembered gone heads ≡ heads
  remembered_all [] none = refl
  remembered_all (x ∷ xs) none = rw (none x (inl refl), remembered_all xs (λ y i. none y (inr i))) refl

  -- a step that keeps the number of each patch
  pub remembered_map : (f : Patch → Patch) → ((p : Patch) → (f p).number ≡ p.number) → (heads : List Patch) → remembered gone (map f heads) ≡ map f (remembered gone heads)
  remembered_map f same [] = refl
  remembered_map f same (x ∷ xs) =
      let rest = remembered_map f same xs in
      elim (cases_Bool (gone x.number)) [
        | inl e ↦ let k : gone (f x).number ≡ true = ap gone (same x) ∙ e in rw (k, e, rest) refl
        | inr e ↦ let k : gone (f x).number ≡ false = ap gone (same x) ∙ e in rw (k, e, rest) refl
      ]

  -- a new patch that is not forgotten
  pub remembered_pushed : (heads : List Patch) (p : Patch) → gone p.number ≡ false → remembered gone (heads ++ p ∷ []) ≡ remembered gone heads ++ p ∷ []
  remembered_pushed [] p e = rw e refl
  remembered_pushed (x ∷ xs) p e =
      let rest = remembered_pushed xs p e in
      elim (cases_Bool (gone x.number)) [ inl t ↦ rw (t, rest) refl | inr f ↦ rw (f, rest) refl ]

module _ (gone : ℕ → Bool) (heads : List Patch) where
  abbrev pub S : List Patch
  S = remembered gone heads

  pub was : (p : Patch) → Contains S p → Contains heads p × (gone p.number ≡ false)
  was p h = let r = filter_in (λ (q : Patch). not (gone q.number)) heads p (In-from_Contains S p h) in (Contains-from_In heads p r.0, true_not (gone p.number) r.1)

  pub is : (p : Patch) → Contains heads p → gone p.number ≡ false → Contains S p
  is p h e = Contains-from_In S p (in_filter (λ (q : Patch). not (gone q.number)) heads p (In-from_Contains heads p h) (rw e refl))

  pub direct_was : (a b : ℕ) → DirectlyOn S a b → DirectlyOn heads a b
  direct_was a b d = record { patch = d.patch; head = (was d.patch d.head).0; numbered = d.numbered; named = d.named }

  pub direct_is : (a b : ℕ) → gone a ≡ false → DirectlyOn heads a b → DirectlyOn S a b
  direct_is a b e d = record { patch = d.patch; head = is d.patch d.head (subst (λ n. gone n ≡ false) (sym d.numbered) e); numbered = d.numbered; named = d.named }

  pub depends_was : (a b : ℕ) → DependsOn S a b → DependsOn heads a b
  depends_was = closure_map (DirectlyOn S) (DirectlyOn heads) direct_was

  pub need_was : (a : ℕ) (q : Patch) (c : ℕ) → Needs S a q c → Needs heads a q c
  need_was a q c n = record { head = (was q n.head).0; change = n.change; depends = depends_was a q.number n.depends }

  pub sealed_was : (n : ℕ) → IsSealedNumber S n → IsSealedNumber heads n
  sealed_was n s = record { patch = s.patch; head = (was s.patch s.head).0; numbered = s.numbered; is_sealed = s.is_sealed }

  pub sealed_is : (n : ℕ) → gone n ≡ false → IsSealedNumber heads n → IsSealedNumber S n
  sealed_is n e s = record { patch = s.patch; head = is s.patch s.head (subst (λ m. gone m ≡ false) (sym s.numbered) e); numbered = s.numbered; is_sealed = s.is_sealed }

  -- what is forgotten has no head among them
  pub none_is : (n : ℕ) → gone n ≡ true → (p : Patch) → Contains S p → p.number ≡ n → ⊥
  none_is n e p h same = clash (gone n) e (subst (λ m. gone m ≡ false) same (was p h).1)

  module _ (G : AreGone gone heads) where
    pub kept : (p : Patch) → Contains heads p → IsLive p → Contains S p
    kept p h live = elim (cases_Bool (gone p.number)) [ inl e ↦ absurd (live (G p h e)) | inr e ↦ is p h e ]

    pub live_number : (n : ℕ) → IsLiveNumber S n ↔ IsLiveNumber heads n
    live_number n = (
      λ l. record { patch = l.patch; head = (was l.patch l.head).0; numbered = l.numbered; live = l.live },
      λ l. record { patch = l.patch; head = kept l.patch l.head l.live; numbered = l.numbered; live = l.live },
    )

    -- a live patch is not forgotten
    pub live_known : (n : ℕ) → IsLiveNumber heads n → gone n ≡ false
    live_known n l = elim (cases_Bool (gone n)) [ inl e ↦ absurd (l.live (G l.patch l.head (subst (λ m. gone m ≡ true) (sym l.numbered) e))) | inr e ↦ e ]

    pub on_disk : (n : ℕ) → IsOnDisk S n ↔ IsOnDisk heads n
    on_disk n = (
      λ d p h e. elim (cases_Bool (gone p.number)) [ inl t ↦ G p h t | inr f ↦ d p (is p h f) e ],
      λ d p h e. d p (was p h).0 e,
    )

    pub memory : (b : ℕ) (p : Patch) → IsInMemoryOn S b p ↔ IsInMemoryOn heads b p
    memory b p = (
      λ m. record { head = (was p m.head).0; change = m.change; memory = m.memory },
      λ m. record { head = kept p m.head (λ e. memory_disk p.place m.memory e); change = m.change; memory = m.memory },
    )

    module _ (D : IsOnDiskWithAll heads) where
      pub open_number : (n : ℕ) → IsOpenNumber S n ↔ IsOpenNumber heads n
      open_number n = (
        λ o. record { patch = o.patch; head = (was o.patch o.head).0; numbered = o.numbered; is_open = o.is_open },
        λ o. record { patch = o.patch; head = kept o.patch o.head (λ e. memory_disk o.patch.place (D.open_gates o.patch o.head o.is_open) e); numbered = o.numbered; is_open = o.is_open },
      )

      pub open_known : (n : ℕ) → IsOpenNumber heads n → gone n ≡ false
      open_known n o = live_known n (open_lives heads D n o)

      pub depends_is : (a b : ℕ) → DependsOn heads a b → IsLiveNumber heads b → DependsOn S a b
      depends_is a b (one d) l = one (direct_is a b (live_known a (live_up heads D a b (one d) l)) d)
      depends_is a b (join {q = r} c d) l = join (depends_is a r c (live_up heads D r b d l)) (depends_is r b d l)

      pub blocked : (a : ℕ) → IsBlocked S a ↔ IsBlocked heads a
      blocked a = (
        λ k. record { gate = k.gate; head = (was k.gate k.head).0; is_open = k.is_open; depends = depends_was a k.gate.number k.depends },
        λ k.
            let live : IsLive k.gate = λ e. memory_disk k.gate.place (D.open_gates k.gate k.head k.is_open) e in
            record { gate = k.gate; head = kept k.gate k.head live; is_open = k.is_open; depends = depends_is a k.gate.number k.depends (record { patch = k.gate; head = k.head; numbered = refl; live = live }) },
      )

      pub need_is : (a : ℕ) (q : Patch) (c : ℕ) → Needs heads a q c → IsLive q → Needs S a q c
      need_is a q c n live = record { head = kept q n.head live; change = n.change; depends = depends_is a q.number n.depends (record { patch = q; head = n.head; numbered = refl; live = live }) }

      -- what may be written: a need on disk decides nothing
      pub set : (b : ℕ) (p : Patch) → InWritableSet S b p ↔ InWritableSet heads b p
      set b p = (
        λ i. record {
          in_memory = (memory b p).0 i.in_memory;
          free = λ k. i.free ((blocked p.number).1 k);
          needs = λ q c n. elim (place_decided q.place) [
            | inl d ↦ inl d
            | inr live ↦ elim (i.needs q c (need_is p.number q c n live)) [ inl d ↦ inl d | inr m ↦ inr ((memory b q).0 m) ]
          ];
        },
        λ i. record {
          in_memory = (memory b p).1 i.in_memory;
          free = λ k. i.free ((blocked p.number).0 k);
          needs = λ q c n. elim (i.needs q c (need_was p.number q c n)) [ inl d ↦ inl d | inr m ↦ inr ((memory b q).1 m) ];
        },
      )

      -- the block graph
      pub edge_was : (b c : ℕ) → HasEdge S b c → HasEdge heads b c
      edge_was b c e = record { other = e.other; hard = e.hard; need = e.need; in_memory = (memory b e.hard).0 e.in_memory; is_hard = e.is_hard; needs = need_was e.hard.number e.need c e.needs; live = e.live }

      pub edge_is : (b c : ℕ) → HasEdge heads b c → HasEdge S b c
      edge_is b c e = record { other = e.other; hard = e.hard; need = e.need; in_memory = (memory b e.hard).1 e.in_memory; is_hard = e.is_hard; needs = need_is e.hard.number e.need c e.needs e.live; live = e.live }

      pub reaches : (b c : ℕ) → Reaches S b c ↔ Reaches heads b c
      reaches b c = (closure_map (HasEdge S) (HasEdge heads) edge_was b c, closure_map (HasEdge heads) (HasEdge S) edge_is b c)

      pub returns : (b a : ℕ) → Returns S b a ↔ Returns heads b a
      returns b a = (
        λ r. record {
          away = r.away;
          back = r.back;
          away_on = r.away_on;
          off = r.off;
          away_needed = need_was a r.away r.away_on r.away_needed;
          away_live = r.away_live;
          back_needed = need_was r.away.number r.back b r.back_needed;
          back_live = r.back_live;
        },
        λ r. record {
          away = r.away;
          back = r.back;
          away_on = r.away_on;
          off = r.off;
          away_needed = need_is a r.away r.away_on r.away_needed r.away_live;
          away_live = r.away_live;
          back_needed = need_is r.away.number r.back b r.back_needed r.back_live;
          back_live = r.back_live;
        },
      )

-- and they are as lawful
module _ (gone : ℕ → Bool) (heads : List Patch) (numbers : ℕ) (G : AreGone gone heads) (H : SparseAreLawful heads numbers) where
  abbrev kept_of : List Patch
  kept_of = remembered gone heads

  abbrev D : IsOnDiskWithAll heads
  D = H.on_disk_with_all

  flew : (b : ℕ) (p : Patch) → IsInFlightOn kept_of b p → IsInFlightOn heads b p
  flew b p i = record { head = (was gone heads p i.head).0; change = i.change; flight = i.flight }

  pub remembered_lawful : SparseAreLawful kept_of numbers
  remembered_lawful = record {
    one_place_each = record {
      rising = AllPairs-filter (λ (p q : Patch). p.number < q.number) (λ (p : Patch). not (gone p.number)) heads H.one_place_each.rising;
      numbered = λ p h. H.one_place_each.numbered p (was gone heads p h).0;
      named = λ p q h c. H.one_place_each.named p q (was gone heads p h).0 c;
    };
    no_cycle = acyclic_map (DirectlyOn kept_of) (DirectlyOn heads) (direct_was gone heads) H.no_cycle;
    on_disk_with_all = record {
      disk = λ p h d q c. (on_disk gone heads G q).1 (D.disk p (was gone heads p h).0 d q c);
      follows = λ p h f rests. D.follows p (was gone heads p h).0 f (λ q c. (on_disk gone heads G q).0 (rests q c));
      open_gates = λ p h e. D.open_gates p (was gone heads p h).0 e;
      only_changes_fly = λ p h f. D.only_changes_fly p (was gone heads p h).0 f;
    };
    flights_stand_alone = record {
      free = λ b p i k. H.flights_stand_alone.free b p (flew b p i) ((blocked gone heads G D p.number).0 k);
      needs = λ b p i q c n. elim (H.flights_stand_alone.needs b p (flew b p i) q c (need_was gone heads p.number q c n)) [
        | inl d ↦ inl d
        | inr f ↦ inr (record { head = n.head; change = f.change; flight = f.flight })
      ];
    };
    hard_never_hold = record {
      free = λ p h hard k. H.hard_never_hold.free p (was gone heads p h).0 hard ((blocked gone heads G D p.number).0 k);
      straight = λ p b i hard r. H.hard_never_hold.straight p b ((memory gone heads G b p).0 i) hard ((returns gone heads G D b p.number).0 r);
      acyclic = acyclic_map (HasEdge kept_of) (HasEdge heads) (edge_was gone heads G D) H.hard_never_hold.acyclic;
    };
  }
