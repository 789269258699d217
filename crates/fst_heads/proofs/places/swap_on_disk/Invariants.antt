use Rattle.std.proofs.lemmas.List.Filters.{FiltersInPlace}
use Rattle.fst_heads.proofs.FirstOnDisk.{live_head}
use Rattle.fst_heads.proofs.places.swap_on_disk.Given as goal

-- of those before the index the live heads stand in front
abbrev pub invariant-loop-index : goal.invariant-loop-index
invariant-loop-index l = FiltersInPlace live_head l.initial.heads.items l.heads.items l.kept l.index
