-- Patches with what they keep, and what putting it back does to a block's bytes. Only the crate's own functions speak of it.
use Rattle.std.specs.Prelude.{◌≡◌, ◌+◌, ◌≤◌, ℕ, Bool, true, false, not, List, [], ◌∷◌, ◌++◌, length, take, drop, map, filter}
use Rattle.fst_types.specs.declared.number.PatchNo.{PatchNo}
use Rattle.fst_block.specs.BlockView.{BlockPatch}
use Rattle.fst_block.specs.Choices.{numbers_of, is_chosen, chosen_of}

-- a patch, and the bytes that it keeps
abbrev pub Entry : Type 0
Entry = BlockPatch × List ℕ

abbrev pub patches_of : List Entry → List BlockPatch
patches_of es = map (λ e. e.0) es

-- the patches that are not chosen, with what they keep
abbrev pub entries_left : List PatchNo → List Entry → List Entry
entries_left chosen es = filter (λ e. not (is_chosen chosen e.0)) es

-- the bytes after what one patch keeps is put back at its place, where it is not chosen
abbrev pub bytes_after : Bool → List ℕ → Entry → List ℕ
bytes_after true bytes e = bytes
bytes_after false bytes e = take e.0.span.at bytes ++ e.1 ++ drop (e.0.span.at + length e.1) bytes

-- the bytes after what is not chosen is put back, the newest first
abbrev pub reverted : (BlockPatch → Bool) → List ℕ → List Entry → List ℕ
reverted chosen bytes [] = bytes
reverted chosen bytes (e ∷ es) = bytes_after (chosen e.0) (reverted chosen bytes es) e

-- what each patch keeps has room at its place in n bytes
abbrev pub FitsIn : ℕ → List Entry → Type 0
FitsIn n [] = Unit {0}
FitsIn n (e ∷ es) = (e.0.span.at + length e.1 ≤ n) × FitsIn n es

-- the chosen numbers are those of the chosen patches, in their order
abbrev pub MeetsInOrder : List PatchNo → List Entry → Type 0
MeetsInOrder chosen es = numbers_of chosen ≡ map (λ p. p.number) (chosen_of chosen (patches_of es))
