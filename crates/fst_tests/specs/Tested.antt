-- What the tests test of a choice.
use Rattle.std.specs.Prelude.{◌≡◌, ◌<◌, ℕ, List, All, Any}
use Rattle.fst_types.specs.declared.number.PatchNo.{PatchNo}
use Rattle.fst_block.specs.BlockView.{BlockPatch}
use Rattle.fst_block.specs.Choices.{ShareByte}

-- the number is one of a patch
pub record IsKnown (patches : List BlockPatch) (n : ℕ) : Type 0 where
  pub found : Any (λ p. p.number ≡ n) patches

-- the number is one of the chosen
abbrev pub IsNamed : List PatchNo → ℕ → Type 0
IsNamed chosen n = Any (λ m. m.0 ≡ n) chosen

-- every earlier patch that shares a byte with q is chosen
abbrev pub HasEarlier : List BlockPatch → List PatchNo → BlockPatch → Type 0
HasEarlier patches chosen q = All (λ p. p.number < q.number → ShareByte p.span q.span → IsNamed chosen p.number) patches
