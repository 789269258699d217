-- A crew's plan, and what it prints.
use Rattle.std.specs.Prelude.{◌≤◌, ◌+◌, ℕ, List, [], ◌∷◌, ◌++◌, codes, decimal}
use Rattle.hex.specs.Hex.{encode_lower}
use Rattle.fst_types.specs.declared.fault.Fault.{Fault}
use Rattle.fst_types.specs.Order.{open_order}
use Rattle.fst_types.specs.Refusals.{IsFirst}

-- 1 to 8 threads of each kind, and 1 to 1,000 rounds
pub record IsCrew (files workers rounds : ℕ) : Type 0 where
  pub some_files : 1 ≤ files
  pub few_files : files ≤ 8
  pub some_workers : 1 ≤ workers
  pub few_workers : workers ≤ 8
  pub some_rounds : 1 ≤ rounds
  pub few_rounds : rounds ≤ 1000

-- slots with these places and sizes are not the eight of eight bytes that a crew works over; the fault says why
abbrev pub AreMisfits : (indices sizes : List ℕ) → Fault → Type 0
AreMisfits indices sizes fault = IsFirst (open_order 8 8 indices sizes) fault

abbrev pub made_line : ℕ → List ℕ
made_line n = codes "made " ++ decimal n ++ 10 ∷ []

abbrev pub block_line : ℕ → List ℕ → List ℕ
block_line b bytes = codes "block " ++ decimal b ++ codes " " ++ encode_lower bytes ++ 10 ∷ []

-- a line for each block, the first of number b
unfoldable pub block_lines : ℕ → List (List ℕ) → List ℕ
block_lines b [] = []
block_lines b (bytes ∷ more) = block_line b bytes ++ block_lines (b + 1) more

-- how many changes were made, and what each block holds
unfoldable pub told : ℕ → List (List ℕ) → List ℕ
told made blocks = made_line made ++ block_lines 0 blocks
