-- The walk up from the changes of a block meets a direct dependency of a new change of the block exactly where that may not be hard.
use Rattle.std.proofs.Common.{◌≡◌, ◌≢◌, ◌⊎◌, ℕ, List, Contains, refl, sym, subst, ◌∙◌, inl, inr}
use Rattle.std.proofs.lemmas.Bool.{cases_eq}
use Rattle.fst_types.specs.{Closure.{one, join}, Dependencies.{DependsOn, IsLiveNumber}, Grades.{HasEdge, Reaches}}
use Rattle.fst_types.specs.Patches.{Patch, IsRising, IsOn, IsLive}
use Rattle.fst_types.proofs.Crash.{same_number}
use Rattle.fst_heads.specs.{Grading.{HasUnder, IsReturning, IsLeading, LeadsNowhere, IsHardNumber}, Indices.PassesAt}
use Rattle.fst_heads.proofs.{Graded.{on_from, on_to, off_from}}
use Rattle.fst_levels.specs.WayBack.{StepsBack, IsLiveOver}
use Rattle.fst_heads.specs.declared.test.Test.TheVariants as test
use Rattle.fst_types.proofs.Numbers.{one_block}

-- p is q, or depends on it
abbrev pub IsOver : List Patch → ℕ → ℕ → Type 0
IsOver heads p q = (p ≡ q) ⊎ DependsOn heads p q

over_on : (heads : List Patch) (p q r : ℕ) → DependsOn heads p q → IsOver heads q r → IsOver heads p r
over_on heads p q r d (inl e) = inr (subst (DependsOn heads p) e d)
over_on heads p q r d (inr e) = inr (join d e)

module _ (heads : List Patch) (rising : IsRising heads) (b : ℕ) where
  -- what passes as a live change of c is one, and the other way about
  pub live_on : (c n : ℕ) (x : PassesAt (test.LiveOn c) heads n) → IsLive x.patch × IsOn x.patch c
  live_on c n x = on_from c x.patch.number x.patch.kind x.patch.place x.passed

  pub on_live : (c n : ℕ) (p : Patch) → Contains heads p → p.number ≡ n → IsOn p c → IsLive p → PassesAt (test.LiveOn c) heads n
  on_live c n p head numbered on live = record { patch = p; head = head; numbered = numbered; passed = on_to c p.number p.kind p.place live on }

  pub live_number : (c n : ℕ) → PassesAt (test.LiveOn c) heads n → IsLiveNumber heads n
  live_number c n x = record { patch = x.patch; head = x.head; numbered = x.numbered; live = (live_on c n x).0 }

  -- a hard change of c in memory that depends on a live change of d makes an edge
  edge : (c d h n : ℕ) → IsHardNumber heads c h → DependsOn heads h n → PassesAt (test.LiveOn d) heads n → c ≢ d → HasEdge heads c d
  edge c d h n hard path need other = record {
    other = other;
    hard = hard.patch;
    need = need.patch;
    in_memory = record { head = hard.head; change = hard.hard.change; memory = hard.hard.memory };
    is_hard = hard.hard.hard;
    needs = record {
      head = need.head;
      change = (live_on d n need).1;
      depends = subst (λ k. DependsOn heads k need.patch.number) (sym hard.numbered) (subst (DependsOn heads h) (sym need.numbered) path);
    };
    live = (live_on d n need).0;
  }

  -- n is the number of a live change of another block, from which a way leads back to b: it depends on a live change of b, or its block reaches b
  record IsRoot (n : ℕ) : Type 0 where
    on : ℕ
    change : PassesAt (test.LiveOn on) heads n
    off : on ≢ b
    back : ((q : ℕ) × PassesAt (test.LiveOn b) heads q × DependsOn heads n q) ⊎ Reaches heads on b

  -- n is such, or depends on one
  pub record ComesBack (n : ℕ) : Type 0 where
    root : ℕ
    is_root : IsRoot root
    over : IsOver heads n root

  -- from the block of a hard change that is such, the block graph leads to b
  pub hard_reaches : (c h : ℕ) → IsHardNumber heads c h → c ≢ b → ComesBack h → Reaches heads c b
  hard_reaches c h hard other x = elim x.over [
    | inl e ↦
        let r = x.is_root in
        let same = same_number heads hard.patch r.change.patch rising hard.head r.change.head (hard.numbered ∙ (e ∙ sym r.change.numbered)) in
        let own : r.on ≡ c = one_block r.change.patch r.on c (live_on r.on x.root r.change).1 (subst (λ p. IsOn p c) same hard.hard.change) in
        elim r.back [
          | inl q ↦ one (edge c b h q.0 hard (subst (λ m. DependsOn heads m q.0) (sym e) q.2) q.1 other)
          | inr path ↦ subst (λ k. Reaches heads k b) own path
        ]
    | inr low ↦
        let r = x.is_root in
        elim r.back [
          | inl q ↦ one (edge c b h q.0 hard (join low q.2) q.1 other)
          | inr path ↦ elim (cases_eq c r.on) [
            | inl e ↦ subst (λ k. Reaches heads k b) (sym e) path
            | inr ne ↦ join (one (edge c r.on h x.root hard low r.change ne)) path
          ]
        ]
  ]

  -- steps from such a number lead to such numbers
  pub step_back : (m n : ℕ) → StepsBack heads b m n → ComesBack m → ComesBack n
  step_back m n (inl up) x = record { root = x.root; is_root = x.is_root; over = over_on heads n m x.root (one up.0) x.over }
  step_back m n (inr k) x = record { root = n; is_root = record { on = k.block; change = k.change; off = k.other; back = inr (hard_reaches k.block m k.hard k.other x) }; over = inl refl }

  -- a new change over such a number may not be hard
  module _ (row : List ℕ) where
    over_under : (P : ℕ → Type 0) (n q : ℕ) → Contains row n → IsOver heads n q → P q → HasUnder heads row P
    over_under P n q named (inl e) has = (n, named, inl (subst P (sym e) has))
    over_under P n q named (inr d) has = (n, named, inr (q, d, has))

    pub back_soft : (n : ℕ) → Contains row n → ComesBack n → LeadsNowhere heads b row → ⊥
    back_soft n named x may =
        let r = x.is_root in
        let p = r.change in
        let on = live_on r.on x.root p in
        elim r.back [
          | inl q ↦ may.straight (over_under (IsReturning heads b) n x.root named x.over (record {
            away = p.patch;
            back = q.1.patch;
            away_on = r.on;
            head = p.head;
            numbered = p.numbered;
            change = on.1;
            off = r.off;
            away_live = on.0;
            back_needed = record {
              head = q.1.head;
              change = (live_on b q.0 q.1).1;
              depends = subst (λ k. DependsOn heads k q.1.patch.number) (sym p.numbered) (subst (DependsOn heads x.root) (sym q.1.numbered) q.2);
            };
            back_live = (live_on b q.0 q.1).0;
          }))
          | inr path ↦ may.open_ended (over_under (IsLeading heads b) n x.root named x.over (record {
            patch = p.patch;
            block = r.on;
            head = p.head;
            numbered = p.numbered;
            change = on.1;
            live = on.0;
            other = r.off;
            reaches = path;
          }))
        ]

module _ (heads : List Patch) (rising : IsRising heads) (b : ℕ) where
  -- a change of another block that depends on a live change of b is none of b
  pub over_back : (n : ℕ) → IsLiveOver heads b n → PassesAt (test.LiveOff b) heads n → ComesBack heads rising b n
  over_back n q x =
      let p = x.patch in
      let off = off_from b p.number p.kind p.place x.passed in
      record {
        root = n;
        is_root = record {
          on = off.1;
          change = on_live heads rising b off.1 n p x.head x.numbered off.2 off.0;
          off = off.3;
          back = inl (
            q.base,
            q.change,
            elim q.over [
              | inl e ↦
                  let same = same_number heads p q.change.patch rising x.head q.change.head (x.numbered ∙ (e ∙ sym q.change.numbered)) in
                  absurd (off.3 (one_block q.change.patch off.1 b (subst (λ r. IsOn r off.1) same off.2) (live_on heads rising b b q.base q.change).1))
              | inr d ↦ d
            ],
          );
        };
        over = inl refl;
      }

-- no change of another block is one of b
pub off_not_on : (patches : List Patch) → IsRising patches → (b n : ℕ) → PassesAt (test.LiveOff b) patches n → PassesAt (test.LiveOn b) patches n → ⊥
off_not_on patches rising b n a x =
    let off = off_from b a.patch.number a.patch.kind a.patch.place a.passed in
    let same = same_number patches a.patch x.patch rising a.head x.head (a.numbered ∙ sym x.numbered) in
    off.3 (one_block x.patch off.1 b (subst (λ p. IsOn p off.1) same off.2) (live_on patches rising b b n x).1)
