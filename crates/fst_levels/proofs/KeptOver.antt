-- Levels stay right where another hard change is kept over a patch; and what is kept so lies below one.
use Rattle.std.proofs.Common.{◌≡◌, ◌≢◌, ◌∙◌, ℕ, List, map, get_or, set, Contains, sym, ap, subst, refl, inl, inr, arith}
use Rattle.std.proofs.Math.Seq.{map-set_same}
use Rattle.fst_types.specs.{Dependencies.DependsOn, Patches.Patch}
use Rattle.fst_heads.specs.{Heads.{IsRising, patches_of}, Indices.HasIndex, declared.head.Head.Head}
use Rattle.fst_heads.proofs.Indices.{any_default}
use Rattle.fst_levels.specs.{Ancestors.AreUnder, Leveling.{IsLeveled, Leveling, floor_of, hard_over_of, jump_of, level_of, parent_of}, WayBack.{IsKeptUnder, IsUnderHard}, declared.levels.Rank.Rank}
use Rattle.fst_levels.proofs.{AncestorsKept.{over_as, under_put}, LeveledKept.fewer_leveled, Raised.{kept_as, kept_beside, kept_here}, Ranked.{index_ranked, no_rank, rank_number, ranks_rise}}

module _ (heads : List Head) (rising : IsRising heads) (blocks : ℕ) (old : Leveling) (x : IsLeveled (patches_of heads) blocks old) (n index over : ℕ) (at : HasIndex heads n index) (below : DependsOn (patches_of heads) over n)
    (was : Rank) (here : was ≡ get_or old.ranks index was) where
  abbrev told : Rank
  told = record was { hard_over = over }

  abbrev ranks : List Rank
  ranks = set old.ranks index told

  -- what else is kept of the ranks stays
  same : {X : Type 0} (part : Rank → X) → part told ≡ part was → map part ranks ≡ map part old.ranks
  same part e = map-set_same part old.ranks index told was (e ∙ ap part here)

  numbers : map (λ r. r.number) ranks ≡ map (λ r. r.number) old.ranks
  numbers = same (λ r. r.number) (cc)

  level_same : (m : ℕ) → level_of ranks m ≡ level_of old.ranks m
  level_same = kept_as (λ r. r.level) (λ l. l) old.ranks ranks numbers (same (λ r. r.level) (cc))

  own : (get_or old.ranks index no_rank).number ≡ n
  own = rank_number heads old.ranks rising x.aligned n index at no_rank

  as_told : (get_or old.ranks index no_rank).number ≡ told.number
  as_told = ap (λ (r : Rank). r.number) (any_default old.ranks index no_rank was (index_ranked heads old.ranks rising x.aligned n index at) ∙ sym here)

  over_here : hard_over_of ranks n ≡ over
  over_here = ap (hard_over_of ranks) (sym own) ∙ kept_here (λ r. r.hard_over) told old.ranks index no_rank (ranks_rise heads old.ranks rising x.aligned) (index_ranked heads old.ranks rising x.aligned n index at) as_told

  over_beside : (m : ℕ) → m ≢ n → hard_over_of ranks m ≡ hard_over_of old.ranks m
  over_beside m other = kept_beside (λ r. r.hard_over) told old.ranks index no_rank m as_told (λ e. other (e ∙ own))

  pub told_is_leveled : IsLeveled (patches_of heads) blocks (record old { ranks = set old.ranks index (record was { hard_over = over }) })
  told_is_leveled = record {
    aligned = numbers ∙ x.aligned;
    long = x.long;
    leveled = fewer_leveled (patches_of heads) (patches_of heads) (level_of old.ranks) (level_of ranks) (floor_of old.floors) (λ p h. h) (λ m. omega (arith, level_same m)) (λ p h. level_same p.number) x.leveled;
    parents = over_as (patches_of heads) (parent_of old.ranks) (parent_of ranks) (kept_as (λ r. r.ancestry) (λ a. a.parent) old.ranks ranks numbers (same (λ r. r.ancestry) (cc))) x.parents;
    jumps = over_as (patches_of heads) (jump_of old.ranks) (jump_of ranks) (kept_as (λ r. r.ancestry) (λ a. a.jump) old.ranks ranks numbers (same (λ r. r.ancestry) (cc))) x.jumps;
    overs = under_put (patches_of heads) n (hard_over_of old.ranks) (hard_over_of ranks) over_beside (subst (λ m. DependsOn (patches_of heads) m n) (sym over_here) below) x.overs;
  }

-- what is kept as below a hard change is below one
pub kept_is_under : (patches : List Patch) (over : ℕ → ℕ) → AreUnder patches over → (b : ℕ) (p : Patch) → Contains patches p → IsKeptUnder patches over b p.number → IsUnderHard patches b p.number
kept_is_under patches over under b p there kept = elim kept [
  | inl hard ↦ record { top = p.number; hard = hard; over = inl refl }
  | inr k ↦ record { top = over p.number; hard = k.1; over = inr (under p there k.0) }
]
