-- What blocks need when a gate is sealed, a write lands and one is launched: hard changes of a block move together, and a block that is launched has none in memory any more.
use Rattle.std.proofs.Common.{◌≡◌, ◌≢◌, ◌==◌, [], ℕ, Bool, true, false, List, cond, map, Contains, refl, sym, ap, subst, ◌∙◌, inl, inr, eq-eqb, ne_eqb}
use Rattle.std.proofs.lemmas.Bool.{cases_eq}
use Rattle.fst_types.specs.{Cascade.IsCascadeOf, Facts.SparseAreLawful, Gates.IsOpenNumber, Gating.sealed, Patches.{Patch, IsOn, IsHard, block_of_kind, grade_of_kind}}
use Rattle.fst_types.specs.{Writable.{IsWritable, IsWritableSet}, Writing.{landed, launched}, declared.place.Place.Place}
use Rattle.fst_types.proofs.{Cascades.{Settled, no_follower_on, settled_back, settled_on}, Finite.{In-from_Contains, Contains-from_In, In-map}, GateGains.In-unmap, Issuing.launched_cases, Landing.landed_cases, Sealing.sealed_cases}
use Rattle.fst_levels.specs.Needing.{AreNeeded}
use Rattle.fst_levels.proofs.{NeedsKept.{GoesAs, moved_needed}, Trails.none_in}
use Rattle.fst_types.specs.declared.place.Place.TheVariants as place

-- after a cascade what moved as a function says moved so
module _ (old new : List Patch) (go : Place → ℕ → Place) (f : Patch → Patch) (moves : (o : Patch) → Contains old o → GoesAs go o (f o)) (cascade : IsCascadeOf (map f old) new) where
  settled_goes : (o m p : Patch) → GoesAs go o m → Settled m p → GoesAs go o p
  settled_goes o m p g s = record {
    number = s.number ∙ g.number;
    dependencies = s.dependencies ∙ g.dependencies;
    block = ap block_of_kind s.kind ∙ g.block;
    grade = ap grade_of_kind s.kind ∙ g.grade;
    place = λ d on hard. s.place (no_follower_on m.kind d (g.block ∙ on)) ∙ g.place d on hard;
    opened = λ e. g.opened (sym s.kind ∙ e);
    live = λ d on l. g.live d on (λ e. l (s.place (no_follower_on m.kind d (g.block ∙ on)) ∙ e));
  }

  pub goes_back : (p : Patch) → Contains new p → (o : Patch) × Contains old o × GoesAs go o p
  goes_back p h =
      let m = settled_back (map f old) new cascade p h in
      let r = In-unmap f old m.0 (In-from_Contains (map f old) m.0 m.1) in
      let o = Contains-from_In old r.0 r.1 in
      (r.0, o, settled_goes r.0 m.0 p (subst (GoesAs go r.0) r.2 (moves r.0 o)) m.2)

  pub goes_forth : (o : Patch) → Contains old o → (p : Patch) × Contains new p × GoesAs go o p
  goes_forth o h =
      let m = Contains-from_In (map f old) (f o) (In-map f old o (f o) (In-from_Contains old o h) refl) in
      let s = settled_on (map f old) new cascade (f o) m in
      (s.0, s.1, settled_goes o (f o) s.0 (moves o h) s.2)

-- no change moves when a gate is sealed
module _ (old new : List Patch) (numbers g : ℕ) (H : SparseAreLawful old numbers) (gate : IsOpenNumber old g) (cascade : IsCascadeOf (map (sealed g) old) new) where
  seal_moves : (o : Patch) → Contains old o → GoesAs (λ at d. at) o (sealed g o)
  seal_moves o h = elim (sealed_cases old new numbers g H gate cascade o h) [
    | inl m ↦ rw m.1 record { number = refl; dependencies = refl; block = sym (ap block_of_kind m.0); grade = sym (ap grade_of_kind m.0); place = λ d on hard. refl; opened = λ e. m.0; live = λ d on l. l }
    | inr s ↦ rw s record { number = refl; dependencies = refl; block = refl; grade = refl; place = λ d on hard. refl; opened = λ e. e; live = λ d on l. l }
  ]

  pub sealed_needed : (needs : ℕ → List ℕ) → AreNeeded old needs → AreNeeded new needs
  sealed_needed needs = moved_needed old new (λ at d. at) (goes_back old new (λ at d. at) (sealed g) seal_moves cascade) (goes_forth old new (λ at d. at) (sealed g) seal_moves cascade) (λ at d e. e) needs needs (λ c n k. (k, refl)) (λ c n e k. k)

-- what flies of the block lands
abbrev lands_at : ℕ → Place → ℕ → Place
lands_at b place.Memory d = place.Memory
lands_at b place.Flight d = cond (d == b) place.Disk place.Flight
lands_at b place.Disk d = place.Disk

module _ (old new : List Patch) (b : ℕ) (cascade : IsCascadeOf (map (landed b) old) new) where
  land_moves : (o : Patch) → Contains old o → GoesAs (lands_at b) o (landed b o)
  land_moves o h = elim (landed_cases b o) [
    | inl m ↦ rw m.2 record { number = refl; dependencies = refl; block = refl; grade = refl; place = λ d on hard. sym (ap (λ a. lands_at b a d) m.1 ∙ ap (λ t. cond t place.Disk place.Flight) (eq-eqb d b (same d on m.0))); opened = λ e. e; live = λ d on l. absurd (l refl) }
    | inr s ↦ rw s.0 record { number = refl; dependencies = refl; block = refl; grade = refl; place = λ d on hard. rests o.place d on s.1 refl; opened = λ e. e; live = λ d on l. l }
  ]
    where
      same : (d : ℕ) → IsOn o d → IsOn o b → d ≡ b
      same d x y = cc

      rests : (at : Place) (d : ℕ) → IsOn o d → (IsOn o b → o.place ≡ place.Flight → ⊥) → o.place ≡ at → at ≡ lands_at b at d
      rests place.Memory d on away e = refl
      rests place.Flight d on away e = sym (ap (λ t. cond t place.Disk place.Flight) (ne_eqb d b (λ k. away (subst (IsOn o) k on) e)))
      rests place.Disk d on away e = refl

  pub landed_needed : (needs : ℕ → List ℕ) → AreNeeded old needs → AreNeeded new needs
  landed_needed needs = moved_needed old new (lands_at b) (goes_back old new (lands_at b) (landed b) land_moves cascade) (goes_forth old new (lands_at b) (landed b) land_moves cascade) memory_was needs needs (λ c n k. (k, refl)) (λ c n e k. k)
    where
      clash : (t : Bool) → cond t place.Disk place.Flight ≡ place.Memory → ⊥
      clash true e = cc
      clash false e = cc

      memory_was : (at : Place) (d : ℕ) → lands_at b at d ≡ place.Memory → at ≡ place.Memory
      memory_was place.Memory d e = refl
      memory_was place.Flight d e = absurd (clash (d == b) e)
      memory_was place.Disk d e = e

-- what is hard and in memory of the block is launched
abbrev launches_at : ℕ → Place → ℕ → Place
launches_at b place.Memory d = cond (d == b) place.Flight place.Memory
launches_at b place.Flight d = place.Flight
launches_at b place.Disk d = place.Disk

module _ (old : List Patch) (numbers b : ℕ) (chosen : List ℕ) (H : SparseAreLawful old numbers) (writable : IsWritable old b) (choice : IsWritableSet old b chosen) where
  abbrev later : List Patch
  later = map (launched chosen) old

  launch_moves : (o : Patch) → Contains old o → GoesAs (launches_at b) o (launched chosen o)
  launch_moves o h = elim (launched_cases old numbers b chosen H writable choice o h) [
    | inl m ↦
        let i = m.0.in_memory in
        rw m.1 record { number = refl; dependencies = refl; block = refl; grade = refl; place = λ d on hard. sym (ap (λ a. launches_at b a d) i.memory ∙ ap (λ t. cond t place.Flight place.Memory) (eq-eqb d b (same d on i.change))); opened = λ e. e; live = λ d on l e. in_memory i.memory e }
    | inr s ↦ rw s.0 record { number = refl; dependencies = refl; block = refl; grade = refl; place = λ d on hard. rests o.place d on hard (λ i e. s.1 (writable.hard o (record { head = h; change = i; memory = e }) hard)) refl; opened = λ e. e; live = λ d on l. l }
  ]
    where
      in_memory : o.place ≡ place.Memory → o.place ≡ place.Disk → ⊥
      in_memory m e = cc

      same : (d : ℕ) → IsOn o d → IsOn o b → d ≡ b
      same d x y = cc

      rests : (at : Place) (d : ℕ) → IsOn o d → IsHard o → (IsOn o b → o.place ≡ place.Memory → ⊥) → o.place ≡ at → at ≡ launches_at b at d
      rests place.Memory d on hard away e = sym (ap (λ t. cond t place.Flight place.Memory) (ne_eqb d b (λ k. away (subst (IsOn o) k on) e)))
      rests place.Flight d on hard away e = refl
      rests place.Disk d on hard away e = refl

  was_in : (p : Patch) → Contains later p → (o : Patch) × Contains old o × GoesAs (launches_at b) o p
  was_in p h =
      let r = In-unmap (launched chosen) old p (In-from_Contains later p h) in
      let o = Contains-from_In old r.0 r.1 in
      (r.0, o, subst (GoesAs (launches_at b) r.0) r.2 (launch_moves r.0 o))

  now_is : (o : Patch) → Contains old o → (p : Patch) × Contains later p × GoesAs (launches_at b) o p
  now_is o h = (launched chosen o, Contains-from_In later (launched chosen o) (In-map (launched chosen) old o (launched chosen o) (In-from_Contains old o h) refl), launch_moves o h)

  pub launched_needed : (needs kept : ℕ → List ℕ) → ((c : ℕ) → c ≢ b → kept c ≡ needs c) → kept b ≡ [] → AreNeeded old needs → AreNeeded (map (launched chosen) old) kept
  launched_needed needs kept others cleared = moved_needed old later (launches_at b) was_in now_is memory_was needs kept fewer all
    where
      memory_was : (at : Place) (d : ℕ) → launches_at b at d ≡ place.Memory → at ≡ place.Memory
      memory_was place.Memory d e = refl
      memory_was place.Flight d e = e
      memory_was place.Disk d e = e

      fewer : (c n : ℕ) → Contains (kept c) n → Contains (needs c) n × (launches_at b place.Memory c ≡ place.Memory)
      fewer c n k = elim (cases_eq c b) [
        | inl e ↦ absurd (none (subst (λ x. Contains x n) (ap kept e ∙ cleared) k))
        | inr other ↦ (subst (λ x. Contains x n) (others c other) k, ap (λ t. cond t place.Flight place.Memory) (ne_eqb c b other))
      ]
        where
          none : Contains [] n → ⊥
          none i = none_in n i

      all : (c n : ℕ) → launches_at b place.Memory c ≡ place.Memory → Contains (needs c) n → Contains (kept c) n
      all c n stays k = elim (cases_eq c b) [
        | inl e ↦ absurd (clash (ap (λ t. cond t place.Flight place.Memory) (sym (eq-eqb c b e)) ∙ stays))
        | inr other ↦ subst (λ x. Contains x n) (sym (others c other)) k
      ]
        where
          clash : place.Flight ≡ place.Memory → ⊥
          clash e = cc
