-- What contracts see of a block.
use Rattle.std.specs.Prelude.{ℕ, List, map, sum_by}
use Rattle.fst_types.specs.declared.span.Span.{Span}
use Rattle.fst_types.specs.declared.grade.Grade.{Grade}
use Rattle.fst_types.specs.declared.grade.Grade.TheVariants as grade
use Rattle.fst_types.specs.Fold.{Write, fold}

-- a change of the block's bytes: it puts `bytes` at `span`
pub record BlockPatch : Type 0 where
  pub number : ℕ
  pub span : Span
  pub grade : Grade
  pub bytes : List ℕ

-- bytes, and the changes over them that are not launched, in order of number
pub record BlockView : Type 0 where
  pub base : List ℕ
  pub patches : List BlockPatch

abbrev pub write_of : BlockPatch → Write
write_of p = record { at = p.span.at; bytes = p.bytes }

-- base with the bytes of the patches over it, in order
abbrev pub fold_of : List ℕ → List BlockPatch → List ℕ
fold_of base patches = fold base (map write_of patches)

abbrev pub len_if_soft : Grade → ℕ → ℕ
len_if_soft grade.Soft len = len
len_if_soft grade.Hard len = 0

-- the lengths of the soft patches, all together
abbrev pub soft_lengths : List BlockPatch → ℕ
soft_lengths patches = sum_by (λ p. len_if_soft p.grade p.span.len) patches
