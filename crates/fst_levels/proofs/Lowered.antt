-- Levels where a patch comes down to a level that is no lower than what it directly depends on, nor than the floor of its block. The patches stay leveled.
use Rattle.std.proofs.Common.{◌≡◌, ◌≢◌, ◌≤◌, ◌<◌, ◌∙◌, ℕ, List, length, map, get_or, Contains, sym, ap, subst, inl, inr, arith}
use Rattle.std.proofs.lemmas.Bool.{cases_eq}
use Rattle.fst_types.specs.{Dependencies.DirectlyOn, Gates.IsOpenNumber, Patches.{IsOn, OpenGate, Patch}}
use Rattle.fst_heads.specs.{Heads.{IsRising, patch_of, patches_of}, Indices.{HasIndex, PassesAt}, declared.head.Head.Head}
use Rattle.fst_heads.proofs.Indices.{named_at, patch_is}
use Rattle.fst_levels.specs.{Leveling.{AreLeveled, IsLeveled, Leveling, floor_of, hard_over_of, jump_of, level_of, parent_of, top_level, unleveled}, Walks.number_at, declared.levels.Rank.Rank}
use Rattle.fst_levels.proofs.{AncestorsKept.{over_as, under_as}, Leveled.passed_on, Raised.kept_as, Ranked.{no_rank, rank_level, rank_number}, MetNumbers.index_at}
use Rattle.fst_heads.specs.declared.test.Test.TheVariants as test

module _ (heads : List Head) (rising : IsRising heads) (s : ℕ) (lt : s < length heads) (here : Head) (is_here : here ≡ get_or heads s here) where
  abbrev n : ℕ
  n = number_at heads s

  -- the patch with its number is the one there
  same : (x : Patch) → Contains (patches_of heads) x → x.number ≡ n → x ≡ patch_of here
  same x h e = sym (patch_is heads x s here rising h (subst (λ k. HasIndex heads k s) (sym e) (index_at heads s lt))) ∙ ap patch_of (sym is_here)

  module _ (level level' floor : ℕ → ℕ) (L : AreLeveled (patches_of heads) level floor) (to : ℕ) (row : (q : ℕ) → Contains here.dependencies.items q → level q ≤ to) (lower : to < level n)
      (change : (b : ℕ) → IsOn (patch_of here) b → floor b ≤ to) (gate : (patch_of here).kind ≡ OpenGate → top_level ≤ to) (own : level' n ≡ to) (rest : (m : ℕ) → m ≢ n → level' m ≡ level m) where
    not_open : IsOpenNumber (patches_of heads) n → ⊥
    not_open o =
        let top = gate (ap (λ (p : Patch). p.kind) (sym (same o.patch o.head o.numbered)) ∙ o.is_open) in
        let few = L.few n in
        omega (arith, top, few, lower)

    change_lowered : (b : ℕ) → PassesAt (test.LiveOn b) (patches_of heads) n → floor b ≤ level' n
    change_lowered b x =
        let on = (passed_on (patches_of heads) b n x).2 in
        let over = change b (subst (λ p. IsOn p b) (same x.patch x.head x.numbered) on) in
        omega (arith, over, own)

    -- no level rises
    fallen : (m : ℕ) → level' m ≤ level m
    fallen m = elim (cases_eq m n) [
      | inl e ↦ let k = ap level' e in let was = ap level e in omega (arith, k, was, own, lower)
      | inr other ↦ let k = rest m other in omega (arith, k)
    ]

    direct_lowered : (p q : ℕ) → DirectlyOn (patches_of heads) p q → level' q ≤ level' p
    direct_lowered p q d = elim (cases_eq p n) [
      | inl e ↦
          let named = named_at heads n q s here rising (index_at heads s lt) (subst (λ m. DirectlyOn (patches_of heads) m q) e d) in
          let under = row q (subst (λ (y : Head). Contains y.dependencies.items q) (sym is_here) named) in
          let k = ap level' e in
          let f = fallen q in
          omega (arith, under, k, f, own)
      | inr other ↦ let k = rest p other in let f = fallen q in let was = L.direct p q d in omega (arith, k, f, was)
    ]

    lowered : AreLeveled (patches_of heads) level' floor
    lowered = record {
      direct = direct_lowered;
      change = λ b p x. elim (cases_eq p n) [
        | inl e ↦ let k = change_lowered b (subst (PassesAt (test.LiveOn b) (patches_of heads)) e x) in let same_level = ap level' e in omega (arith, k, same_level)
        | inr other ↦ let k = rest p other in let was = L.change b p x in omega (arith, k, was)
      ];
      hard = λ b p h. let f = fallen p in let was = L.hard b p h in omega (arith, f, was);
      gates = λ p o. elim (cases_eq p n) [
        | inl e ↦ absurd (not_open (subst (IsOpenNumber (patches_of heads)) e o))
        | inr other ↦ rest p other ∙ L.gates p o
      ];
      few = λ p. let f = fallen p in let was = L.few p in omega (arith, f, was);
    }

  -- and so what is kept of them is as it should be
  pub lowered_is_leveled : (blocks to : ℕ) (old new : Leveling) → ((q : ℕ) → Contains here.dependencies.items q → level_of old.ranks q ≤ to) → ((d : Rank) → to < (get_or old.ranks s d).level)
      → ((b : ℕ) → IsOn (patch_of here) b → floor_of old.floors b ≤ to) → ((patch_of here).kind ≡ OpenGate → top_level ≤ to)
      → map (λ r. r.number) new.ranks ≡ map (λ r. r.number) old.ranks → ((d : Rank) → level_of new.ranks (get_or old.ranks s d).number ≡ to)
      → ((d : Rank) (m : ℕ) → m ≢ (get_or old.ranks s d).number → level_of new.ranks m ≡ level_of old.ranks m) → map unleveled new.ranks ≡ map unleveled old.ranks
      → new.floors ≡ old.floors → IsLeveled (patches_of heads) blocks old → IsLeveled (patches_of heads) blocks new
  lowered_is_leveled blocks to old new row lower change gate numbers raised rest beside floors x =
      let index = index_at heads s lt in
      let number = rank_number heads old.ranks rising x.aligned n s index no_rank in
      let level = rank_level heads old.ranks rising x.aligned n s index no_rank in
      let less = lower no_rank in
      record {
        aligned = numbers ∙ x.aligned;
        long = rw floors x.long;
        leveled = rw floors (lowered (level_of old.ranks) (level_of new.ranks) (floor_of old.floors) x.leveled to row (omega (arith, less, level)) change gate (ap (level_of new.ranks) (sym number) ∙ raised no_rank) (λ m other. rest no_rank m (λ e. other (e ∙ number))));
        parents = over_as (patches_of heads) (parent_of old.ranks) (parent_of new.ranks) (kept_as unleveled (λ r. r.ancestry.parent) old.ranks new.ranks numbers beside) x.parents;
        jumps = over_as (patches_of heads) (jump_of old.ranks) (jump_of new.ranks) (kept_as unleveled (λ r. r.ancestry.jump) old.ranks new.ranks numbers beside) x.jumps;
        overs = under_as (patches_of heads) (hard_over_of old.ranks) (hard_over_of new.ranks) (kept_as unleveled (λ r. r.hard_over) old.ranks new.ranks numbers beside) x.overs;
      }
