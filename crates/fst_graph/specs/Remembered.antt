-- The patches that are not forgotten, out of those whose heads are kept.
use Rattle.std.specs.Prelude.{◌≡◌, ℕ, Bool, true, not, List, filter, Contains}
use Rattle.fst_types.specs.Patches.{Patch}
use Rattle.fst_graph.specs.Known.{Known}
use Rattle.fst_types.specs.declared.place.Place.TheVariants as place

-- those of the heads that are not gone
abbrev pub remembered : (ℕ → Bool) → List Patch → List Patch
remembered gone heads = filter (λ p. not (gone p.number)) heads

-- what is forgotten is on disk
abbrev pub AreGone : (ℕ → Bool) → List Patch → Type 0
AreGone gone heads = (p : Patch) → Contains heads p → gone p.number ≡ true → p.place ≡ place.Disk

-- the same known, without what is forgotten
abbrev pub remembered_known : (ℕ → Bool) → Known → Known
remembered_known gone known = record known { heads = remembered gone known.heads }
