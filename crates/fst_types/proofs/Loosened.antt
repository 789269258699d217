-- What holds of the patches but for their overlaps, and with them.
use Rattle.std.proofs.Common.{ℕ, List}
use Rattle.fst_types.specs.Patches.{Patch}
use Rattle.fst_types.specs.Facts.{HeadsAreLawful, OverlapsAreOrdered, SparseAreLawful}

pub loosened : {heads : List Patch} {numbers : ℕ} → HeadsAreLawful heads numbers → SparseAreLawful heads numbers
loosened H = record {
  one_place_each = H.one_place_each;
  no_cycle = H.no_cycle;
  on_disk_with_all = H.on_disk_with_all;
  flights_stand_alone = H.flights_stand_alone;
  hard_never_hold = H.hard_never_hold;
}

pub tightened : {heads : List Patch} {numbers : ℕ} → SparseAreLawful heads numbers → OverlapsAreOrdered heads → HeadsAreLawful heads numbers
tightened S ordered = record {
  one_place_each = S.one_place_each;
  no_cycle = S.no_cycle;
  on_disk_with_all = S.on_disk_with_all;
  flights_stand_alone = S.flights_stand_alone;
  overlaps_are_ordered = ordered;
  hard_never_hold = S.hard_never_hold;
}
