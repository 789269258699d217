-- A way straight down, from a change of another block at or below the row to a change of the block that it depends on, leads back to the block.
use Rattle.std.proofs.Common.{◌≡◌, ℕ, List}
use Rattle.fst_types.specs.{Dependencies.DependsOn, Facts.IsOnDiskWithAll, Patches.{Patch, IsRising}}
use Rattle.fst_heads.specs.{Grading.HasUnder, Indices.PassesAt}
use Rattle.fst_levels.specs.WayBack.{LeadsBack}
use Rattle.fst_levels.proofs.{NoWayBack.goes_up, ComesBack.live_number}
use Rattle.fst_heads.specs.declared.test.Test.TheVariants as test

pub straight_back : (patches : List Patch) → IsRising patches → IsOnDiskWithAll patches → (b : ℕ) (row : List ℕ) (away end : ℕ) → PassesAt (test.LiveOff b) patches away → PassesAt (test.LiveOn b) patches end → DependsOn patches away end → HasUnder patches row (λ m. m ≡ away)
    → LeadsBack patches b row end
straight_back patches rising disk b row away end off change depends under = record {
  away = away;
  change = change;
  off = off;
  under = under;
  path = goes_up patches disk b away end depends (live_number patches rising b b end change);
}
