-- Marks of blocks.
use Rattle.std.specs.Prelude.{◌≡◌, ◌<◌, ℕ, Bool, false, List, slice_index_or}
use Rattle.fst_types.specs.Tests.{is_among}

-- of all blocks that there may be those are marked that are among these
abbrev pub AreMarks : List Bool → List ℕ → Type 0
AreMarks marks blocks = (b : ℕ) → b < 4096 → slice_index_or marks b false ≡ is_among blocks b
