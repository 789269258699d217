-- What a block keeps of its patches. Only the crate's own functions speak of it.
use Rattle.std.specs.Prelude.{◌≡◌, ◌+◌, ◌≤◌, ◌<◌, ◌^◌, ℕ, suc, List, [], ◌∷◌, length, take, drop}
use Rattle.fst_types.specs.Fold.{written}
use Rattle.fst_block.specs.BlockView.{BlockPatch, write_of, fold_of, len_if_soft, soft_lengths}
use Rattle.fst_block.specs.Reverts.{Entry, patches_of}

-- what a soft patch's span held before it; a hard one keeps nothing
abbrev pub undo_of : List ℕ → BlockPatch → List ℕ
undo_of base p = take (len_if_soft p.grade p.span.len) (drop p.span.at base)

-- each patch keeps what its span held before it
abbrev pub KeepsUndo : List ℕ → List Entry → Type 0
KeepsUndo base [] = Unit {0}
KeepsUndo base (e ∷ es) = (e.1 ≡ undo_of base e.0) × KeepsUndo (written base (write_of e.0)) es

-- the patch lies in n bytes, and its number is least or more
pub record IsPlaced (n least : ℕ) (p : BlockPatch) : Type 0 where
  pub inside : p.span.at + p.span.len ≤ n
  pub same_length : length p.bytes ≡ p.span.len
  pub short : p.span.len < 2 ^ 32
  pub in_order : least ≤ p.number

-- the patches lie in n bytes, and their numbers rise
abbrev pub ArePlaced : ℕ → ℕ → List BlockPatch → Type 0
ArePlaced n least [] = Unit {0}
ArePlaced n least (p ∷ ps) = IsPlaced n least p × ArePlaced n (suc p.number) ps

-- what a block keeps is as its patches say
pub record IsKept (base bytes : List ℕ) (entries : List Entry) (undo : ℕ) : Type 0 where
  pub stands : bytes ≡ fold_of base (patches_of entries)
  pub undoes : KeepsUndo base entries
  pub placed : ArePlaced (length base) 0 (patches_of entries)
  pub counted : undo ≡ soft_lengths (patches_of entries)
