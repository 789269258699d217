-- Levels stay right where a patch has other ancestors, in its row or below.
use Rattle.std.proofs.Common.{◌≡◌, ◌≢◌, ◌∙◌, ℕ, List, length, map, get_or, sym, ap, subst, arith}
use Rattle.fst_heads.specs.{Heads.{IsRising, patch_of, patches_of}, Indices.HasIndex, declared.head.Head.Head}
use Rattle.fst_heads.proofs.Indices.{patch_at}
use Rattle.fst_types.specs.Patches.{Patch}
use Rattle.fst_levels.specs.{Ancestors.{GoesUnder, MayStandUnder}, Leveling.{IsLeveled, Leveling, floor_of, hard_over_of, jump_of, level_of, parent_of}, declared.levels.{Ancestry.Ancestry, Rank.Rank}}
use Rattle.fst_levels.proofs.{AncestorsKept.{over_renewed, under_as}, LeveledKept.fewer_leveled, Raised.kept_as, Ranked.{no_rank, rank_number}}

module _ (heads : List Head) (rising : IsRising heads) (blocks : ℕ) (old new : Leveling) (x : IsLeveled (patches_of heads) blocks old) (n index : ℕ) (at : HasIndex heads n index) (ancestry : Ancestry)
    (row : List ℕ) (here : Head) (is : row ≡ (get_or heads index here).dependencies.items) (under : GoesUnder (patches_of heads) n row ancestry)
    (numbers : map (λ r. r.number) new.ranks ≡ map (λ r. r.number) old.ranks) (levels : map (λ r. r.level) new.ranks ≡ map (λ r. r.level) old.ranks) (overs : map (λ r. r.hard_over) new.ranks ≡ map (λ r. r.hard_over) old.ranks)
    (parent : (d : Rank) → parent_of new.ranks (get_or old.ranks index d).number ≡ ancestry.parent) (jump : (d : Rank) → jump_of new.ranks (get_or old.ranks index d).number ≡ ancestry.jump)
    (rest : (d : Rank) (m : ℕ) → m ≢ (get_or old.ranks index d).number → (parent_of new.ranks m ≡ parent_of old.ranks m) × (jump_of new.ranks m ≡ jump_of old.ranks m)) (floors : new.floors ≡ old.floors) where
  abbrev patches : List Patch
  patches = patches_of heads

  abbrev own : Patch
  own = patch_of (get_or heads index here)

  ranked : (get_or old.ranks index no_rank).number ≡ own.number
  ranked = rank_number heads old.ranks rising x.aligned n index at no_rank ∙ sym (at.1 here)

  -- what may be an ancestor of the number over the row may be one of its patch
  of_own : (a b : ℕ) → b ≡ a → MayStandUnder patches n row a → MayStandUnder patches own.number own.dependencies b
  of_own a b same may = subst (λ m. MayStandUnder patches m own.dependencies b) (sym (at.1 here)) (subst (λ r. MayStandUnder patches n r b) is (subst (MayStandUnder patches n row) (sym same) may))

  level_same : (m : ℕ) → level_of new.ranks m ≡ level_of old.ranks m
  level_same = kept_as (λ r. r.level) (λ l. l) old.ranks new.ranks numbers levels

  pub renewed_is_leveled : IsLeveled (patches_of heads) blocks new
  renewed_is_leveled = record {
    aligned = numbers ∙ x.aligned;
    long = ap length floors ∙ x.long;
    leveled = rw floors (fewer_leveled patches patches (level_of old.ranks) (level_of new.ranks) (floor_of old.floors) (λ p h. h) (λ m. omega (arith, level_same m)) (λ p h. level_same p.number) x.leveled);
    parents = over_renewed patches own (patch_at heads index here at.0) (parent_of old.ranks) (parent_of new.ranks) (λ m other. (rest no_rank m (λ e. other (e ∙ ranked))).0)
        (of_own ancestry.parent (parent_of new.ranks own.number) (ap (parent_of new.ranks) (sym ranked) ∙ parent no_rank) under.parent) x.parents;
    jumps = over_renewed patches own (patch_at heads index here at.0) (jump_of old.ranks) (jump_of new.ranks) (λ m other. (rest no_rank m (λ e. other (e ∙ ranked))).1)
        (of_own ancestry.jump (jump_of new.ranks own.number) (ap (jump_of new.ranks) (sym ranked) ∙ jump no_rank) under.jump) x.jumps;
    overs = under_as patches (hard_over_of old.ranks) (hard_over_of new.ranks) (kept_as (λ r. r.hard_over) (λ n. n) old.ranks new.ranks numbers overs) x.overs;
  }
