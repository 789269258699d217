-- What levels tell of leveled patches: no way down rises and no way back falls, and a row whose live entries are at or below hard changes of b, or below the floor of b, leads nowhere.
use Rattle.std.proofs.Common.{◌≡◌, ◌≤◌, ◌<◌, ◌⊎◌, ℕ, Bool, List, Contains, refl, sym, ap, subst, ◌∙◌, inl, inr, arith}
use Rattle.fst_types.specs.{Closure.{Closure, one, join}, Dependencies.{DependsOn, IsLiveNumber}, Facts.{IsOnDiskWithAll, HardNeverHold}}
use Rattle.fst_types.specs.{Grades.{HasEdge, Reaches}, Patches.{Patch, IsRising, IsOn, IsLive}, Writable.IsInMemoryOn}
use Rattle.fst_types.proofs.Crash.{same_number}
use Rattle.fst_heads.specs.{Grading.{HasUnder, IsHardNumber, IsReturning, IsLeading, LeadsNowhere}, Indices.PassesAt}
use Rattle.fst_heads.proofs.{Graded.{on_from, on_to}}
use Rattle.fst_levels.specs.{Leveling.AreLeveled, WayBack.{IsUnderHard, StepsUp}}
use Rattle.fst_levels.proofs.Holding.{live_up}
use Rattle.fst_heads.specs.declared.test.Test.TheVariants as test
use Rattle.fst_types.proofs.Numbers.{one_block}

-- a live change of a block passes as such
pub live_passes : (heads : List Patch) (b : ℕ) (p : Patch) → Contains heads p → IsLive p → IsOn p b → PassesAt (test.LiveOn b) heads p.number
live_passes heads b p h live on = record { patch = p; head = h; numbered = refl; passed = on_to b p.number p.kind p.place live on }

-- what passes so is a live change of the block
pub passed_on : (heads : List Patch) (b n : ℕ) (x : PassesAt (test.LiveOn b) heads n) → (x.patch.number ≡ n) × IsLive x.patch × IsOn x.patch b
passed_on heads b n x = let k = on_from b x.patch.number x.patch.kind x.patch.place x.passed in (x.numbered, k.0, k.1)

module _ (heads : List Patch) (level floor : ℕ → ℕ) (L : AreLeveled heads level floor) where
  -- what a patch depends on is no higher
  pub level_path : (p q : ℕ) → DependsOn heads p q → level q ≤ level p
  level_path p q (one d) = L.direct p q d
  level_path p q (join {q = r} c d) = let a = level_path p r c in let b = level_path r q d in omega (arith, a, b)

  -- a live change is as high as the floor of its block at least
  pub level_needed : (b : ℕ) (p : Patch) → Contains heads p → IsLive p → IsOn p b → floor b ≤ level p.number
  level_needed b p h live on = L.change b p.number (live_passes heads b p h live on)

  -- no edge rises
  pub floor_edge : (c d : ℕ) → HasEdge heads c d → floor d ≤ floor c
  floor_edge c d e =
      let top = L.hard c e.hard.number (record { patch = e.hard; head = e.in_memory.head; numbered = refl; hard = record { change = e.in_memory.change; memory = e.in_memory.memory; hard = e.is_hard } }) in
      let low = level_needed d e.need e.needs.head e.live e.needs.change in
      let path = level_path e.hard.number e.need.number e.needs.depends in
      omega (arith, top, low, path)

  -- nor does a way over edges
  pub floor_reaches : (c d : ℕ) → Reaches heads c d → floor d ≤ floor c
  floor_reaches c d (one e) = floor_edge c d e
  floor_reaches c d (join {q = r} e f) = let a = floor_reaches c r e in let b = floor_reaches r d f in omega (arith, a, b)

  -- no step back falls
  pub level_step : (crossed : List Bool) (p q : ℕ) → StepsUp heads crossed p q → level p ≤ level q
  level_step crossed p q (inl up) = L.direct q p up.0
  level_step crossed p q (inr k) = let a = L.hard k.block p k.hard in let b = L.change k.block q k.change in omega (arith, a, b)

  -- nor do steps one after another
  pub level_steps : (crossed : List Bool) (p q : ℕ) → Closure (StepsUp heads crossed) p q → level p ≤ level q
  level_steps crossed p q (one s) = level_step crossed p q s
  level_steps crossed p q (join {q = r} s t) = let a = level_steps crossed p r s in let b = level_steps crossed r q t in omega (arith, a, b)

  -- what lies below the floor of b leads nowhere
  module _ (rising : IsRising heads) (disk : IsOnDiskWithAll heads) (never : HardNeverHold heads) (b : ℕ) (row : List ℕ)
      (each : (n : ℕ) → Contains row n → IsLiveNumber heads n → IsUnderHard heads b n ⊎ (level n < floor b)) where
    in_memory : (n : ℕ) (h : IsHardNumber heads b n) → IsInMemoryOn heads b h.patch
    in_memory n h = record { head = h.head; change = h.hard.change; memory = h.hard.memory }

    at_or_below : (n q : ℕ) → (n ≡ q) ⊎ DependsOn heads n q → level q ≤ level n
    at_or_below n q (inl e) = let k = ap level e in omega (arith, k)
    at_or_below n q (inr d) = level_path n q d

    live_over : (n q : ℕ) → (n ≡ q) ⊎ DependsOn heads n q → IsLiveNumber heads q → IsLiveNumber heads n
    live_over n q (inl e) l = subst (IsLiveNumber heads) (sym e) l
    live_over n q (inr d) l = live_up heads disk n q d l

    -- what is at or below a patch is so of what depends on that
    under_top : (top n q : ℕ) → (top ≡ n) ⊎ DependsOn heads top n → (n ≡ q) ⊎ DependsOn heads n q → (top ≡ q) ⊎ DependsOn heads top q
    under_top top n q (inl e) down = subst (λ m. (m ≡ q) ⊎ DependsOn heads m q) (sym e) down
    under_top top n q (inr d) (inl e) = inr (subst (DependsOn heads top) e d)
    under_top top n q (inr d) (inr f) = inr (join d f)

    under : (P : ℕ → Type 0) → HasUnder heads row P → (n q : ℕ) × Contains row n × P q × ((n ≡ q) ⊎ DependsOn heads n q)
    under P u = elim u.2 [ inl here ↦ (u.0, u.0, u.1, here, inl refl) | inr below ↦ (u.0, below.0, u.1, below.2, inr below.1) ]

    -- the patch is the hard change itself, or a need of it
    hard_same : (n : ℕ) (h : IsHardNumber heads b n) (p : Patch) (c : ℕ) → Contains heads p → IsOn p c → n ≡ p.number → c ≡ b
    hard_same n h p c head on e =
        let same = same_number heads p h.patch rising head h.head (sym e ∙ sym h.numbered) in
        one_block h.patch c b (subst (λ (x : Patch). IsOn x c) same on) h.hard.change

    hard_straight : (n q : ℕ) → IsHardNumber heads b n → (n ≡ q) ⊎ DependsOn heads n q → IsReturning heads b q → ⊥
    hard_straight n q h (inl e) r = r.off (hard_same n h r.away r.away_on r.head r.change (e ∙ sym r.numbered))
    hard_straight n q h (inr d) r = never.straight h.patch b (in_memory n h) h.hard.hard (record {
      away = r.away;
      back = r.back;
      away_on = r.away_on;
      off = r.off;
      away_needed = record { head = r.head; change = r.change; depends = subst (DependsOn heads h.patch.number) (sym r.numbered) (subst (λ m. DependsOn heads m q) (sym h.numbered) d) };
      away_live = r.away_live;
      back_needed = r.back_needed;
      back_live = r.back_live;
    })

    low_straight : (n q : ℕ) → level n < floor b → (n ≡ q) ⊎ DependsOn heads n q → IsReturning heads b q → ⊥
    low_straight n q low under r =
        let down = at_or_below n q under in
        let same = ap level r.numbered in
        let path = level_path r.away.number r.back.number r.back_needed.depends in
        let back = level_needed b r.back r.back_needed.head r.back_live r.back_needed.change in
        omega (arith, low, down, same, path, back)

    hard_open : (n q : ℕ) → IsHardNumber heads b n → (n ≡ q) ⊎ DependsOn heads n q → IsLeading heads b q → ⊥
    hard_open n q h (inl e) l = l.other (hard_same n h l.patch l.block l.head l.change (e ∙ sym l.numbered))
    hard_open n q h (inr d) l = never.acyclic b (join (one (record {
      other = λ e. l.other (sym e);
      hard = h.patch;
      need = l.patch;
      in_memory = in_memory n h;
      is_hard = h.hard.hard;
      needs = record { head = l.head; change = l.change; depends = subst (DependsOn heads h.patch.number) (sym l.numbered) (subst (λ m. DependsOn heads m q) (sym h.numbered) d) };
      live = l.live;
    })) l.reaches)

    low_open : (n q : ℕ) → level n < floor b → (n ≡ q) ⊎ DependsOn heads n q → IsLeading heads b q → ⊥
    low_open n q low under l =
        let down = at_or_below n q under in
        let same = ap level l.numbered in
        let own = level_needed l.block l.patch l.head l.live l.change in
        let back = floor_reaches l.block b l.reaches in
        omega (arith, low, down, same, own, back)

    -- so no way leads from the row back to b
    pub below_floor : LeadsNowhere heads b row
    below_floor = record {
      straight = λ u.
          let x = under (IsReturning heads b) u in
          let live : IsLiveNumber heads x.1 = record { patch = x.3.away; head = x.3.head; numbered = x.3.numbered; live = x.3.away_live } in
          elim (each x.0 x.2 (live_over x.0 x.1 x.4 live)) [ inl h ↦ hard_straight h.top x.1 h.hard (under_top h.top x.0 x.1 h.over x.4) x.3 | inr low ↦ low_straight x.0 x.1 low x.4 x.3 ];
      open_ended = λ u.
          let x = under (IsLeading heads b) u in
          let live : IsLiveNumber heads x.1 = record { patch = x.3.patch; head = x.3.head; numbered = x.3.numbered; live = x.3.live } in
          elim (each x.0 x.2 (live_over x.0 x.1 x.4 live)) [ inl h ↦ hard_open h.top x.1 h.hard (under_top h.top x.0 x.1 h.over x.4) x.3 | inr low ↦ low_open x.0 x.1 low x.4 x.3 ];
    }
