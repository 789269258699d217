-- Patches, as calls name them.
use Rattle.std.specs.Prelude.{ℕ, List, map}
use Rattle.fst_types.specs.declared.number.PatchNo.{PatchNo}

-- the numbers of a list of names
abbrev pub numbers_of : List PatchNo → List ℕ
numbers_of names = map (λ n. n.0) names
