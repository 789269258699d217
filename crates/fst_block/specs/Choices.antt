-- Which patches of a block may be launched by themselves.
use Rattle.std.specs.Prelude.{◌≡◌, ◌<◌, ◌≤◌, ◌+◌, ℕ, Bool, not, List, map, filter, All, Contains}
use Rattle.std.specs.List.Sorted.{IsStrictlyIncreasing}
use Rattle.fst_types.specs.declared.span.Span.{Span}
use Rattle.fst_types.specs.declared.grade.Grade.TheVariants as grade
use Rattle.fst_types.specs.declared.number.PatchNo.{PatchNo}
use Rattle.fst_types.specs.Tests.{is_among}
use Rattle.fst_block.specs.BlockView.{BlockPatch}

abbrev pub numbers_of : List PatchNo → List ℕ
numbers_of numbers = map (λ n. n.0) numbers

abbrev pub is_chosen : List PatchNo → BlockPatch → Bool
is_chosen chosen p = is_among (numbers_of chosen) p.number

-- the patches with these numbers, and all others
abbrev pub chosen_of : List PatchNo → List BlockPatch → List BlockPatch
chosen_of chosen patches = filter (is_chosen chosen) patches

abbrev pub others_of : List PatchNo → List BlockPatch → List BlockPatch
others_of chosen patches = filter (λ p. not (is_chosen chosen p)) patches

-- some byte lies in both spans
pub record ShareByte (s t : Span) : Type 0 where
  pub byte : ℕ
  pub first_begins : s.at ≤ byte
  pub first_ends : byte < s.at + s.len
  pub second_begins : t.at ≤ byte
  pub second_ends : byte < t.at + t.len

-- the numbers rise, each is one of a patch, every hard patch has one, and with each patch every earlier one that shares a byte
pub record IsChoice (patches : List BlockPatch) (chosen : List PatchNo) : Type 0 where
  pub rising : IsStrictlyIncreasing (numbers_of chosen)
  pub known : All (λ n. Contains (map (λ p. p.number) patches) n) (numbers_of chosen)
  pub hard : (p : BlockPatch) → Contains patches p → p.grade ≡ grade.Hard → Contains (numbers_of chosen) p.number
  pub earlier : (p q : BlockPatch) → Contains patches p → Contains patches q → Contains (numbers_of chosen) q.number → p.number < q.number → ShareByte p.span q.span → Contains (numbers_of chosen) p.number
