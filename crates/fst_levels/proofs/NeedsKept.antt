-- What keeps what the blocks need: patches that are the same but for their places, where hard changes of one block at one place stay together.
use Rattle.std.proofs.Common.{◌≡◌, ◌⊎◌, ℕ, List, Contains, sym, ap, subst, ◌∙◌, inl, inr}
use Rattle.fst_types.specs.{Dependencies.DirectlyOn, Gates.IsOpenNumber, Patches.{Patch, IsOn, IsHard, IsLive, OpenGate, block_of_kind, grade_of_kind}, declared.place.Place.Place}
use Rattle.fst_types.proofs.Alike.{closure_map}
use Rattle.fst_heads.specs.{Grading.IsHardNumber, Indices.PassesAt}
use Rattle.fst_heads.proofs.Graded.{off_from, off_to}
use Rattle.fst_levels.specs.Needing.{AreNeeded, IsHardAt, IsNeededBy, IsSpared, StaysOn}
use Rattle.fst_levels.proofs.Staying.{still_stays}
use Rattle.fst_types.specs.declared.place.Place.TheVariants as place
use Rattle.fst_heads.specs.declared.test.Test.TheVariants as test

pub hard_at : (patches : List Patch) (c h : ℕ) → IsHardNumber patches c h → IsHardAt patches place.Memory c h
hard_at patches c h x = record { patch = x.patch; head = x.head; numbered = x.numbered; change = x.hard.change; hard = x.hard.hard; place = x.hard.memory }

pub at_hard : (patches : List Patch) (c h : ℕ) → IsHardAt patches place.Memory c h → IsHardNumber patches c h
at_hard patches c h x = record { patch = x.patch; head = x.head; numbered = x.numbered; hard = record { change = x.change; memory = x.place; hard = x.hard } }

-- the patches old are new later, and what was kept of what their blocks need is kept of the blocks that still have hard changes in memory
pub record GoOn (old new : List Patch) (needs kept : ℕ → List ℕ) : Type 0 where
  pub was : (c h : ℕ) → IsHardNumber new c h → IsHardNumber old c h
  pub direct : (c h q : ℕ) → IsHardNumber new c h → DirectlyOn new h q → DirectlyOn old h q
  pub headed : (q : Patch) → Contains new q → (o : Patch) × Contains old o × (o.number ≡ q.number)
  pub fewer : (c n : ℕ) → Contains (kept c) n → Contains (needs c) n
  pub stays : (c n h : ℕ) → Contains (kept c) n → IsNeededBy old c n h → IsNeededBy new c n h
  pub all : (c h n : ℕ) → IsHardNumber new c h → Contains (needs c) n → Contains (kept c) n
  pub together : (q : Patch) (at : Place) (d : ℕ) → Contains new q → IsHardAt old at d q.number → (to : Place) × IsHardAt new to d q.number × ((n : ℕ) → IsHardAt old at d n → IsHardAt new to d n)
  pub staying : (c n : ℕ) → StaysOn old c n → StaysOn new c n

-- they stay so
pub goes_on : (old new : List Patch) (needs kept : ℕ → List ℕ) → GoOn old new needs kept → AreNeeded old needs → AreNeeded new kept
goes_on old new needs kept G N = record {
  named = λ c n k. let o = N.named c n (G.fewer c n k) in (o.0, G.stays c n o.0 k o.1);
  whole = λ c h q hard head d.
      let o = G.headed q head in
      let told : Contains (needs c) q.number ⊎ IsSpared old c (needs c) q.number =
      subst (λ k. Contains (needs c) k ⊎ IsSpared old c (needs c) k) o.2 (N.whole c h o.0 (G.was c h hard) o.1 (subst (DirectlyOn old h) (sym o.2) (G.direct c h q.number hard d))) in
      elim told [
        | inl k ↦ inl (G.all c h q.number hard k)
        | inr spared ↦ inr (elim spared [
          | inl s ↦
              let t = G.together q s.at s.block head s.hard in
              inl (record { at = t.0; block = s.block; hard = t.1; by = elim s.by [ inl own ↦ inl own | inr n ↦ inr (n.0, G.all c h n.0 hard n.1, t.2 n.0 n.2) ] })
          | inr on ↦ inr (G.staying c q.number on)
        ])
      ];
}

-- the patch o, later: a hard change in memory is one still or went on, as `go` says for its place and its block; no gate opens, and no change comes back from the disk
pub record GoesAs (go : Place → ℕ → Place) (o p : Patch) : Type 0 where
  pub number : p.number ≡ o.number
  pub dependencies : p.dependencies ≡ o.dependencies
  pub block : block_of_kind p.kind ≡ block_of_kind o.kind
  pub grade : grade_of_kind p.kind ≡ grade_of_kind o.kind
  pub place : (d : ℕ) → IsOn o d → IsHard o → p.place ≡ go o.place d
  pub opened : p.kind ≡ OpenGate → o.kind ≡ OpenGate
  pub live : (d : ℕ) → IsOn o d → IsLive p → IsLive o

module _ (old new : List Patch) (go : Place → ℕ → Place) (back : (p : Patch) → Contains new p → (o : Patch) × Contains old o × GoesAs go o p) (forth : (o : Patch) → Contains old o → (p : Patch) × Contains new p × GoesAs go o p)
    (memory : (at : Place) (d : ℕ) → go at d ≡ place.Memory → at ≡ place.Memory) where
  at_forth : (at : Place) (d n : ℕ) → IsHardAt old at d n → IsHardAt new (go at d) d n
  at_forth at d n h =
      let r = forth h.patch h.head in
      record {
        patch = r.0;
        head = r.1;
        numbered = r.2.number ∙ h.numbered;
        change = r.2.block ∙ h.change;
        hard = r.2.grade ∙ h.hard;
        place = r.2.place d h.change h.hard ∙ ap (λ a. go a d) h.place;
      }

  hard_back : (c h : ℕ) → IsHardNumber new c h → IsHardNumber old c h
  hard_back c h x =
      let r = back x.patch x.head in
      let on = sym r.2.block ∙ x.hard.change in
      let hard = sym r.2.grade ∙ x.hard.hard in
      record {
        patch = r.0;
        head = r.1;
        numbered = sym r.2.number ∙ x.numbered;
        hard = record { change = on; memory = memory r.0.place c (sym (r.2.place c on hard) ∙ x.hard.memory); hard = hard };
      }

  direct_was : (p q : ℕ) → DirectlyOn new p q → DirectlyOn old p q
  direct_was p q d = let r = back d.patch d.head in record { patch = r.0; head = r.1; numbered = sym r.2.number ∙ d.numbered; named = subst (λ row. Contains row q) r.2.dependencies d.named }

  direct_is : (p q : ℕ) → DirectlyOn old p q → DirectlyOn new p q
  direct_is p q d = let r = forth d.patch d.head in record { patch = r.0; head = r.1; numbered = r.2.number ∙ d.numbered; named = subst (λ row. Contains row q) (sym r.2.dependencies) d.named }

  open_was : (n : ℕ) → IsOpenNumber new n → IsOpenNumber old n
  open_was n x = let r = back x.patch x.head in record { patch = r.0; head = r.1; numbered = sym r.2.number ∙ x.numbered; is_open = r.2.opened x.is_open }

  off_was : (c n : ℕ) → PassesAt (test.LiveOff c) new n → PassesAt (test.LiveOff c) old n
  off_was c n x =
      let r = back x.patch x.head in
      let o = r.0 in
      let k = off_from c x.patch.number x.patch.kind x.patch.place x.passed in
      let on : IsOn o k.1 = sym r.2.block ∙ k.2 in
      record { patch = o; head = r.1; numbered = sym r.2.number ∙ x.numbered; passed = off_to c o.number k.1 o.kind o.place (r.2.live k.1 on k.0) on k.3 }

  -- what is kept is kept on, but for a block whose hard changes in memory go
  pub moved_needed : (needs kept : ℕ → List ℕ) → ((c n : ℕ) → Contains (kept c) n → Contains (needs c) n × (go place.Memory c ≡ place.Memory))
      → ((c n : ℕ) → go place.Memory c ≡ place.Memory → Contains (needs c) n → Contains (kept c) n) → AreNeeded old needs → AreNeeded new kept
  moved_needed needs kept fewer all = goes_on old new needs kept (record {
    was = hard_back;
    direct = λ c h q hard d. direct_was h q d;
    headed = λ q h. let r = back q h in (r.0, r.1, sym r.2.number);
    fewer = λ c n k. (fewer c n k).0;
    stays = λ c n h k o. record {
      hard = at_hard new c h (subst (λ a. IsHardAt new a c h) (fewer c n k).1 (at_forth place.Memory c h (hard_at old c h o.hard)));
      older = o.older;
      depends = λ q head e. let r = back q head in closure_map (DirectlyOn old) (DirectlyOn new) direct_is h n (o.depends r.0 r.1 (sym r.2.number ∙ e));
    };
    all = λ c h n hard k. all c n (still c h hard) k;
    together = λ q at d head h. (go at d, at_forth at d q.number h, λ n o. at_forth at d n o);
    staying = still_stays old new direct_was open_was off_was;
  })
    where
      still : (c h : ℕ) → IsHardNumber new c h → go place.Memory c ≡ place.Memory
      still c h x =
          let r = back x.patch x.head in
          let on = sym r.2.block ∙ x.hard.change in
          let hard = sym r.2.grade ∙ x.hard.hard in
          let was = memory r.0.place c (sym (r.2.place c on hard) ∙ x.hard.memory) in
          ap (λ a. go a c) (sym was) ∙ (sym (r.2.place c on hard) ∙ x.hard.memory)
