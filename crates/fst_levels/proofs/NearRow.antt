-- What is near a row, and the grade that it tells.
use Rattle.std.proofs.Common.{◌≡◌, ◌&&◌, ℕ, true, List, get_or, Contains, Some, None, refl, sym, ap, subst, ◌∙◌, inl, inr}
use Rattle.fst_types.specs.{Closure.{one, join}, Dependencies.{DirectlyOn, DependsOn}, Facts.{HardNeverHold}}
use Rattle.fst_types.specs.{Grades.FollowsRule, Patches.{Kind, OpenGate, Patch, IsOn, grade_of_kind}, Tests.is_change_at, declared.grade.Grade.Grade}
use Rattle.fst_types.proofs.{Landing.{change_at, at_change}, Numbers.both}
use Rattle.fst_heads.specs.Grading.{HasUnder, MayBeHard, IsHardNumber}
use Rattle.fst_heads.specs.{Heads.{IsRising, patch_of, patches_of}, Indices.{HasIndex, HasNone, PassesAt}, Reaching.IsHardIn, Tests.{passes, is_hard_kind}}
use Rattle.fst_heads.specs.{declared.head.Head.Head, declared.test.Test.Test}
use Rattle.fst_heads.proofs.{Leading.{same_patch}, Indices.{direct_at, patch_at, patch_is, patch_index, index_in, none_index}}
use Rattle.fst_levels.proofs.Obstacles.{hard_from, hard_to}
use Rattle.fst_types.specs.declared.place.Place.TheVariants as place
use Rattle.fst_types.specs.declared.grade.Grade.TheVariants as grade
use Rattle.fst_types.proofs.Numbers.{one_block}

-- a number that no head has is no patch's
pub no_patch : (heads : List Head) (n : ℕ) → HasNone heads n → (p : Patch) → Contains (patches_of heads) p → p.number ≡ n → ⊥
no_patch heads n none p c e = let t = index_in heads p c in none_index heads n t.0 none (subst (λ m. HasIndex heads m t.0) e (patch_index heads p t.0 t.1 t.2))

-- the head at the index of a number tells what its patch is
module _ (heads : List Head) (rising : IsRising heads) (n s : ℕ) (d : Head) (index : HasIndex heads n s) where
  abbrev p : Patch
  p = patch_of (get_or heads s d)

  pub is_it : (x : Patch) → Contains (patches_of heads) x → x.number ≡ n → p ≡ x
  is_it x c e = patch_is heads x s d rising c (subst (λ m. HasIndex heads m s) (sym e) index)

  pub passes_here : (t : Test) → passes t p ≡ true → PassesAt t (patches_of heads) n
  passes_here t e = record { patch = p; head = patch_at heads s d index.0; numbered = index.1 d; passed = e }

  pub here_passes : (t : Test) → PassesAt t (patches_of heads) n → passes t p ≡ true
  here_passes t x = ap (passes t) (is_it x.patch x.head x.numbered) ∙ x.passed

  -- what its row names are its direct dependencies
  pub row_direct : (row : List ℕ) → row ≡ (get_or heads s d).dependencies.items → (q : ℕ) → Contains row q → DirectlyOn (patches_of heads) n q
  row_direct row e q c = direct_at heads n q s d index (subst (λ qs. Contains qs q) e c)

  pub hard_here : (b : ℕ) → (is_change_at place.Memory b p && is_hard_kind p.kind) ≡ true → IsHardNumber (patches_of heads) b n
  hard_here b e =
      let k = both _ _ e in
      let at = change_at place.Memory b p k.0 in
      record { patch = p; head = patch_at heads s d index.0; numbered = index.1 d; hard = record { change = at.0; memory = at.1; hard = hard_from p.kind k.1 } }

  pub here_hard : (b : ℕ) → IsHardNumber (patches_of heads) b n → (is_change_at place.Memory b p && is_hard_kind p.kind) ≡ true
  here_hard b x =
      let h = subst (λ q. IsHardIn q b) (sym (is_it x.patch x.head x.numbered)) x.hard in
      rw (at_change place.Memory b p h.change h.memory, hard_to p.kind h.hard) refl

-- a hard change is no gate
hard_no_gate : (k : Kind) → grade_of_kind k ≡ Some grade.Hard → k ≡ OpenGate → ⊥
hard_no_gate k e f = cc

-- what is below hard changes of b in memory neither is an open gate, nor returns to b, nor leads to it
module _ (heads : List Head) (rising : IsRising heads) (b : ℕ) (row : List ℕ) (hard : HardNeverHold (patches_of heads)) (rests : (n : ℕ) → Contains row n → IsHardNumber (patches_of heads) b n) where
  abbrev patches : List Patch
  patches = patches_of heads

  pub rests_may : MayBeHard patches None b row
  rests_may = record {
    free = λ u. let h = rests u.0 u.1 in elim u.2 [
      | inl o ↦
          let same = same_patch heads o.patch h.patch rising o.head h.head (o.numbered ∙ sym h.numbered) in
          hard_no_gate h.patch.kind h.hard.hard (ap (λ p. p.kind) (sym same) ∙ o.is_open)
      | inr r ↦
          let o = r.2 in
          hard.free h.patch h.head h.hard.hard (record {
            gate = o.patch;
            head = o.head;
            is_open = o.is_open;
            depends = subst (λ m. DependsOn patches m o.patch.number) (sym h.numbered) (subst (DependsOn patches u.0) (sym o.numbered) r.1);
          })
    ];
    straight = λ u. let h = rests u.0 u.1 in elim u.2 [
      | inl r ↦
          let same = same_patch heads r.away h.patch rising r.head h.head (r.numbered ∙ sym h.numbered) in
          r.off (one_block h.patch r.away_on b (subst (λ p. IsOn p r.away_on) same r.change) h.hard.change)
      | inr low ↦
          let r = low.2 in
          hard.straight h.patch b (record { head = h.head; change = h.hard.change; memory = h.hard.memory }) h.hard.hard (record {
            away = r.away;
            back = r.back;
            away_on = r.away_on;
            off = r.off;
            away_needed = record { head = r.head; change = r.change; depends = subst (λ m. DependsOn patches m r.away.number) (sym h.numbered) (subst (DependsOn patches u.0) (sym r.numbered) low.1) };
            away_live = r.away_live;
            back_needed = r.back_needed;
            back_live = r.back_live;
          })
    ];
    open_ended = λ u. let h = rests u.0 u.1 in elim u.2 [
      | inl l ↦
          let same = same_patch heads l.patch h.patch rising l.head h.head (l.numbered ∙ sym h.numbered) in
          l.other (one_block h.patch l.block b (subst (λ p. IsOn p l.block) same l.change) h.hard.change)
      | inr low ↦
          let l = low.2 in
          hard.acyclic b (join (one (record {
            other = λ e. l.other (sym e);
            hard = h.patch;
            need = l.patch;
            in_memory = record { head = h.head; change = h.hard.change; memory = h.hard.memory };
            is_hard = h.hard.hard;
            needs = record { head = l.head; change = l.change; depends = subst (λ m. DependsOn patches m l.patch.number) (sym h.numbered) (subst (DependsOn patches u.0) (sym l.numbered) low.1) };
            live = l.live;
          })) l.reaches)
    ];
  }

-- what is under a row in one sense is under it in a weaker one
pub under_weaker : (heads : List Patch) (row : List ℕ) (P Q : ℕ → Type 0) → ((n : ℕ) → P n → Q n) → HasUnder heads row P → HasUnder heads row Q
under_weaker heads row P Q to u = (u.0, u.1, elim u.2 [ inl p ↦ inl (to u.0 p) | inr r ↦ inr (r.0, r.1, to r.0 r.2) ])

-- what a grade tells of one thing it tells of another that is so exactly where the first is
pub follows_same : (g : Grade) (First Second : Type 0) → (Second → First) → (First → Second) → FollowsRule g First → FollowsRule g Second
follows_same grade.Hard First Second to from told = from told
follows_same grade.Soft First Second to from told = λ second. told (to second)
