-- The floor of a block of which no change is off the disk may be at the bottom.
use Rattle.std.proofs.Common.{◌≡◌, ◌≢◌, ◌∙◌, ℕ, List, set, subst, inl, inr, length-set, get_or-set_other}
use Rattle.std.proofs.lemmas.Bool.{cases_eq}
use Rattle.fst_types.specs.Patches.{Patch}
use Rattle.fst_heads.specs.Indices.{PassesAt}
use Rattle.fst_heads.specs.declared.test.Test.TheVariants as test
use Rattle.fst_levels.specs.Leveling.{IsLeveled, Leveling, floor_of}
use Rattle.fst_levels.proofs.Lifted.{hard_passes}

module _ (patches : List Patch) (blocks b to : ℕ) (none : (n : ℕ) → PassesAt (test.LiveOn b) patches n → ⊥) (levels : Leveling) (L : IsLeveled patches blocks levels) where
  other_floor : (c : ℕ) → c ≢ b → floor_of (set levels.floors b to) c ≡ floor_of levels.floors c
  other_floor c other = get_or-set_other levels.floors b c to 0 other

  pub dropped_is_leveled : IsLeveled patches blocks (record levels { floors = set levels.floors b to })
  dropped_is_leveled = record {
    aligned = L.aligned;
    long = length-set levels.floors b to ∙ L.long;
    leveled = record {
      direct = L.leveled.direct;
      change = λ c p x. elim (cases_eq c b) [
        | inl same ↦ absurd (none p (subst (λ d. PassesAt (test.LiveOn d) patches p) same x))
        | inr other ↦ rw (other_floor c other) (L.leveled.change c p x)
      ];
      hard = λ c p h. elim (cases_eq c b) [
        | inl same ↦ absurd (none p (subst (λ d. PassesAt (test.LiveOn d) patches p) same (hard_passes patches c p h)))
        | inr other ↦ rw (other_floor c other) (L.leveled.hard c p h)
      ];
      gates = L.leveled.gates;
      few = L.leveled.few;
    };
    parents = L.parents;
    jumps = L.jumps;
    overs = L.overs;
  }
