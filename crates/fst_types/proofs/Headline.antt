-- A lawful state has the headline.
use Rattle.std.proofs.Common.{◌≡◌, ◌≢◌, ℕ, List, Contains, refl, sym, ap, ◌∙◌, inl, inr}
use Rattle.fst_types.specs.declared.place.Place.{Place}
use Rattle.fst_types.specs.declared.place.Place.TheVariants as place
use Rattle.fst_types.specs.Patches.{Patch, IsRising}
use Rattle.fst_types.specs.Headline.{HasPlace, stands, forgotten, OnePlaceEach, HeadlineHolds}
use Rattle.fst_types.proofs.Crash.{disk_below, same_number, closed_lem, crash_lem}
use Rattle.fst_types.proofs.Numbers.{head_cases}
use Rattle.fst_types.proofs.Tickets.{settled_once}

one_place : (heads : List Patch) (numbers : ℕ) → IsRising heads → OnePlaceEach heads numbers
one_place heads numbers rising n given =
    elim (head_cases heads n) [
      | inl r ↦ (r.0.place, stands r.1 r.2, λ other h. of_head r.0 r.1 r.2 other h)
      | inr m ↦ (place.Disk, forgotten m, λ other h. of_none m other h)
    ]
  where
    of_head : (p : Patch) → Contains heads p → p.number ≡ n → (other : Place) → HasPlace heads n other → other ≡ p.place
    of_head p h e other (stands {p = q} k f) = ap (λ x. x.place) (same_number heads q p rising k h (f ∙ sym e))
    of_head p h e other (forgotten none) = absurd (none p h e)

    of_none : ((p : Patch) → Contains heads p → p.number ≢ n) → (other : Place) → HasPlace heads n other → other ≡ place.Disk
    of_none none other (stands {p = q} k f) = absurd (none q k f)
    of_none none other (forgotten m) = refl

pub headline_lem : HeadlineHolds
headline_lem s L = record {
  one_head_each = λ p q a b e. same_number s.heads p q L.heads.one_place_each.rising a b e;
  one_place_each = one_place s.heads s.numbers L.heads.one_place_each.rising;
  open_gates_wait = L.heads.on_disk_with_all.open_gates;
  no_cycle = L.heads.no_cycle;
  disk_has_all = λ n m disk depends. disk_below s.heads L.heads.on_disk_with_all n m depends disk;
  writes_stand_alone = L.heads.flights_stand_alone.needs;
  writes_are_free = L.heads.flights_stand_alone.free;
  crash_is_closed = λ finished. closed_lem s finished L;
  blocks_hold_base = λ finished. crash_lem s finished L;
  completes_once = λ later calls run. settled_once s later calls L.tickets run;
}
