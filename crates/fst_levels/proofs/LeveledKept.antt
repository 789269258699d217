-- What keeps patches leveled: the same patches later or fewer of them, and one patch more.
use Rattle.std.proofs.Common.{◌≡◌, ◌≢◌, ◌≤◌, ◌+◌, ◌++◌, ◌∷◌, [], ℕ, List, map, Contains, refl, sym, ap, subst, ◌∙◌, inl, inr, arith}
use Rattle.std.proofs.lemmas.{Bool.{cases_eq}, List.{map-append}, List.Elements.{Contains-push_cases}}
use Rattle.fst_types.specs.{Dependencies.DirectlyOn, Facts.HasOnePlaceEach, Gates.IsOpenNumber, Patches.{Patch, IsOn, IsHard, IsOpenGate}}
use Rattle.fst_types.proofs.{Alike.{Alike, Like, like_self, back_alike, numbers_alike, direct_back, on_back, grade_same, open_back}, Finite.{In-from_Contains, Contains-from_In}, GateGains.In-unmap}
use Rattle.fst_heads.specs.{Grading.IsHardNumber, Indices.PassesAt}
use Rattle.fst_levels.specs.{Leveling.{AreLeveled, IsLeveled, Leveling, hard_over_of, jump_of, level_of, parent_of, floor_of, top_level}, Ancestors.{GoesUnder, MayStandUnder}, declared.levels.{Ancestry.Ancestry, Rank.Rank}}
use Rattle.fst_levels.proofs.{Leveled.{live_passes, passed_on}, Ranked.{kept_other, kept_new, number_of}, AncestorsKept.{fresh_over, fresh_under, over_alike, under_alike}}
use Rattle.fst_heads.specs.declared.test.Test.TheVariants as test

-- each new patch was one of the old ones, perhaps at another place, and has the level that it had
module _ (old new : List Patch) (back : (p : Patch) → Contains new p → (o : Patch) × Contains old o × Like o p)
    (level level' floor : ℕ → ℕ) (fewer : (n : ℕ) → level' n ≤ level n) (same : (p : Patch) → Contains new p → level' p.number ≡ level p.number) (L : AreLeveled old level floor) where
  same_at : (n : ℕ) (p : Patch) → Contains new p → p.number ≡ n → level' n ≡ level n
  same_at n p h e = subst (λ m. level' m ≡ level m) e (same p h)

  change_back : (b n : ℕ) → PassesAt (test.LiveOn b) new n → PassesAt (test.LiveOn b) old n
  change_back b n x =
      let k = passed_on new b n x in
      let r = back x.patch x.head in
      subst (PassesAt (test.LiveOn b) old) (sym r.2.number ∙ x.numbered) (live_passes old b r.0 r.1 (r.2.live b k.2 k.1) (on_back r.0 x.patch r.2 b k.2))

  hard_was : (b n : ℕ) → IsHardNumber new b n → IsHardNumber old b n
  hard_was b n h =
      let r = back h.patch h.head in
      record {
        patch = r.0;
        head = r.1;
        numbered = sym r.2.number ∙ h.numbered;
        hard = record { change = on_back r.0 h.patch r.2 b h.hard.change; memory = r.2.memory b h.hard.change h.hard.memory; hard = sym (grade_same r.0 h.patch r.2) ∙ h.hard.hard };
      }

  open_was : (n : ℕ) → IsOpenNumber new n → IsOpenNumber old n
  open_was n o =
      let r = back o.patch o.head in
      record { patch = r.0; head = r.1; numbered = sym r.2.number ∙ o.numbered; is_open = open_back r.0 o.patch r.2 o.is_open }

  -- they stay leveled
  pub leveled_back : AreLeveled new level' floor
  leveled_back = record {
    direct = λ p q d. let was = L.direct p q (direct_back old new back p q d) in let e = same_at p d.patch d.head d.numbered in let f = fewer q in omega (arith, was, e, f);
    change = λ b p x. let was = L.change b p (change_back b p x) in let e = same_at p x.patch x.head x.numbered in omega (arith, was, e);
    hard = λ b p h. let was = L.hard b p (hard_was b p h) in let e = same_at p h.patch h.head h.numbered in omega (arith, was, e);
    gates = λ p o. same_at p o.patch o.head o.numbered ∙ L.gates p (open_was p o);
    few = λ p. let was = L.few p in let f = fewer p in omega (arith, was, f);
  }

-- the same patches at other places, or sealed
pub alike_leveled : (old new : List Patch) → Alike old new → (level floor : ℕ → ℕ) → AreLeveled old level floor → AreLeveled new level floor
alike_leveled old new A level floor L = leveled_back old new (back_alike old new A) level level floor (λ n. omega arith) (λ p h. refl) L

-- and the levels that are kept of them stay as they are
pub alike_is_leveled : (old new : List Patch) → Alike old new → (blocks : ℕ) (levels : Leveling) → IsLeveled old blocks levels → IsLeveled new blocks levels
alike_is_leveled old new A blocks levels x = record {
  aligned = x.aligned ∙ sym (numbers_alike old new A);
  long = x.long;
  leveled = alike_leveled old new A (level_of levels.ranks) (floor_of levels.floors) x.leveled;
  parents = over_alike old new A (parent_of levels.ranks) x.parents;
  jumps = over_alike old new A (jump_of levels.ranks) x.jumps;
  overs = under_alike old new A (hard_over_of levels.ranks) x.overs;
}

-- some of the patches
pub fewer_leveled : (old new : List Patch) (level level' floor : ℕ → ℕ) → ((p : Patch) → Contains new p → Contains old p) → ((n : ℕ) → level' n ≤ level n)
    → ((p : Patch) → Contains new p → level' p.number ≡ level p.number) → AreLeveled old level floor → AreLeveled new level' floor
fewer_leveled old new level level' floor was fewer same L = leveled_back old new (λ p h. (p, was p h, like_self p)) level level' floor fewer same L

-- one patch more, which no old one names
module _ (old : List Patch) (p : Patch) (level level' floor : ℕ → ℕ)
    (unheaded : (q : Patch) → Contains old q → q.number ≢ p.number) (unnamed : (q : Patch) → Contains old q → Contains q.dependencies p.number → ⊥) (own : Contains p.dependencies p.number → ⊥)
    (same : (n : ℕ) → n ≢ p.number → level' n ≡ level n) (row : (q : ℕ) → Contains p.dependencies q → level q ≤ level' p.number)
    (above : (b : ℕ) → IsOn p b → floor b ≤ level' p.number) (below : (b : ℕ) → IsOn p b → IsHard p → level' p.number ≤ floor b)
    (gate : IsOpenGate p → level' p.number ≡ top_level) (few : level' p.number ≤ top_level) (L : AreLeveled old level floor) where
  abbrev with_one : List Patch
  with_one = old ++ p ∷ []

  same_old : (n : ℕ) (q : Patch) → Contains old q → q.number ≡ n → level' n ≡ level n
  same_old n q h e = same n (λ k. unheaded q h (e ∙ k))

  same_new : (n : ℕ) (q : Patch) → p ≡ q → q.number ≡ n → level' n ≡ level' p.number
  same_new n q e k = ap level' (sym (ap (λ (x : Patch). x.number) e ∙ k))

  direct_one : (m q : ℕ) → DirectlyOn with_one m q → level' q ≤ level' m
  direct_one m q d = elim (Contains-push_cases old p d.patch d.head) [
    | inl o ↦
        let to = same q (λ e. unnamed d.patch o (subst (Contains d.patch.dependencies) e d.named)) in
        let from = same_old m d.patch o d.numbered in
        let was = L.direct m q (record { patch = d.patch; head = o; numbered = d.numbered; named = d.named }) in
        omega (arith, to, from, was)
    | inr e ↦
        let named : Contains p.dependencies q = subst (λ (x : Patch). Contains x.dependencies q) (sym e) d.named in
        let to = same q (λ k. own (subst (Contains p.dependencies) k named)) in
        let from = same_new m d.patch e d.numbered in
        let under = row q named in
        omega (arith, to, from, under)
  ]

  change_one : (b m : ℕ) → PassesAt (test.LiveOn b) with_one m → floor b ≤ level' m
  change_one b m x = elim (Contains-push_cases old p x.patch x.head) [
    | inl o ↦
        let from = same_old m x.patch o x.numbered in
        let was = L.change b m (record { patch = x.patch; head = o; numbered = x.numbered; passed = x.passed }) in
        omega (arith, from, was)
    | inr e ↦
        let from = same_new m x.patch e x.numbered in
        let over = above b (subst (λ (y : Patch). IsOn y b) (sym e) (passed_on with_one b m x).2) in
        omega (arith, from, over)
  ]

  hard_one : (b m : ℕ) → IsHardNumber with_one b m → level' m ≤ floor b
  hard_one b m h = elim (Contains-push_cases old p h.patch h.head) [
    | inl o ↦
        let from = same_old m h.patch o h.numbered in
        let was = L.hard b m (record { patch = h.patch; head = o; numbered = h.numbered; hard = h.hard }) in
        omega (arith, from, was)
    | inr e ↦
        let from = same_new m h.patch e h.numbered in
        let under = below b (subst (λ (y : Patch). IsOn y b) (sym e) h.hard.change) (subst IsHard (sym e) h.hard.hard) in
        omega (arith, from, under)
  ]

  gate_one : (m : ℕ) → IsOpenNumber with_one m → level' m ≡ top_level
  gate_one m o = elim (Contains-push_cases old p o.patch o.head) [
    | inl h ↦ same_old m o.patch h o.numbered ∙ L.gates m (record { patch = o.patch; head = h; numbered = o.numbered; is_open = o.is_open })
    | inr e ↦ same_new m o.patch e o.numbered ∙ gate (subst IsOpenGate (sym e) o.is_open)
  ]

  few_one : (m : ℕ) → level' m ≤ top_level
  few_one m = elim (cases_eq m p.number) [
    | inl e ↦ let k = ap level' e in omega (arith, k, few)
    | inr other ↦ let k = same m other in let was = L.few m in omega (arith, k, was)
  ]

  -- it joins them, no lower than its row and the floor of its block
  pub fresh_leveled : AreLeveled (old ++ p ∷ []) level' floor
  fresh_leveled = record { direct = direct_one; change = change_one; hard = hard_one; gates = gate_one; few = few_one }

-- the next number is no head's yet, and no head names it; the new rank comes last
module _ (old : List Patch) (numbers blocks : ℕ) (p : Patch) (H : HasOnePlaceEach old numbers) (next : p.number ≡ numbers + 1)
    (given : (q : ℕ) → Contains p.dependencies q → q ≤ numbers) (levels : Leveling) (l : ℕ) (a : Ancestry)
    (row : (q : ℕ) → Contains p.dependencies q → level_of levels.ranks q ≤ l)
    (above : (b : ℕ) → IsOn p b → floor_of levels.floors b ≤ l) (below : (b : ℕ) → IsOn p b → IsHard p → l ≤ floor_of levels.floors b)
    (gate : IsOpenGate p → l ≡ top_level) (few : l ≤ top_level) (under : GoesUnder old p.number p.dependencies a) (x : IsLeveled old blocks levels) where
  abbrev rank : Rank
  rank = record { number = p.number; level = l; ancestry = a; hard_over = 0 }

  abbrev level' : ℕ → ℕ
  level' = level_of (levels.ranks ++ rank ∷ [])

  new_number : (q : Patch) → Contains old q → q.number ≢ p.number
  new_number q h e = let k = (H.numbered q h).1 in omega (arith, k, e, next)

  unranked : Contains (map (λ r. r.number) levels.ranks) p.number → ⊥
  unranked c =
      let o = In-unmap (λ (q : Patch). q.number) old p.number (In-from_Contains (map (λ q. q.number) old) p.number (subst (λ (ns : List ℕ). Contains ns p.number) x.aligned c)) in
      new_number o.0 (Contains-from_In old o.0 o.1) o.2

  here : level' p.number ≡ l
  here = kept_new (λ r. r.level) levels.ranks rank unranked

  parent_here : parent_of (levels.ranks ++ rank ∷ []) p.number ≡ a.parent
  parent_here = kept_new (λ r. r.ancestry.parent) levels.ranks rank unranked

  jump_here : jump_of (levels.ranks ++ rank ∷ []) p.number ≡ a.jump
  jump_here = kept_new (λ r. r.ancestry.jump) levels.ranks rank unranked

  -- the levels that are kept go on so
  pub fresh_is_leveled : IsLeveled (old ++ p ∷ []) blocks (record levels { ranks = levels.ranks ++ rank ∷ [] })
  fresh_is_leveled = record {
    aligned = map-append number_of levels.ranks (rank ∷ []) ∙ (ap (λ ns. ns ++ p.number ∷ []) x.aligned ∙ sym (map-append (λ (q : Patch). q.number) old (p ∷ [])));
    long = x.long;
    leveled = fresh_leveled old p (level_of levels.ranks) level' (floor_of levels.floors) new_number
        (λ q h c. let k = H.named q p.number h c in omega (arith, k, next))
        (λ c. let k = given p.number c in omega (arith, k, next))
        (λ n other. kept_other (λ r. r.level) levels.ranks rank n other)
        (λ q c. let k = row q c in omega (arith, here, k))
        (λ b on. let k = above b on in omega (arith, here, k))
        (λ b on hard. let k = below b on hard in omega (arith, here, k))
        (λ o. here ∙ gate o) (omega (arith, here, few)) x.leveled;
    parents = fresh_over old numbers p H next (parent_of levels.ranks) (parent_of (levels.ranks ++ rank ∷ []))
        (λ n other. kept_other (λ r. r.ancestry.parent) levels.ranks rank n other)
        (subst (MayStandUnder old p.number p.dependencies) (sym parent_here) under.parent) x.parents;
    jumps = fresh_over old numbers p H next (jump_of levels.ranks) (jump_of (levels.ranks ++ rank ∷ []))
        (λ n other. kept_other (λ r. r.ancestry.jump) levels.ranks rank n other)
        (subst (MayStandUnder old p.number p.dependencies) (sym jump_here) under.jump) x.jumps;
    overs = fresh_under old numbers p H next (hard_over_of levels.ranks) (hard_over_of (levels.ranks ++ rank ∷ []))
        (λ n other. kept_other (λ r. r.hard_over) levels.ranks rank n other)
        (kept_new (λ r. r.hard_over) levels.ranks rank unranked) x.overs;
  }
