-- The changes that are not on disk, block by block.
use Rattle.std.specs.Prelude.{◌≡◌, ◌<◌, ◌&&◌, ℕ, Bool, List, map, filter, length, slice_index_or}
use Rattle.fst_types.specs.declared.place.Place.TheVariants as place
use Rattle.fst_types.specs.{Patches.{Patch, at_of, len_of}, Tests.{is_live, is_on, is_change_at}}
use Rattle.fst_heads.specs.declared.lists.Listed.{Listed}

pub record Entry : Type 0 where
  pub number : ℕ
  pub at : ℕ
  pub len : ℕ

abbrev pub entry_of : Listed → Entry
entry_of l = record { number = l.number; at = l.span.at; len = l.span.len }

abbrev pub entries_of : List Listed → List Entry
entries_of list = map entry_of list

-- as the list has it
abbrev pub entry : Patch → Entry
entry p = record { number = p.number; at = at_of p.kind; len = len_of p.kind }

-- p is a change of block b that is not on disk
abbrev pub is_live_on : ℕ → Patch → Bool
is_live_on b p = is_live p && is_on b p.kind

abbrev pub entries_on : ℕ → List Patch → List Entry
entries_on b patches = map entry (filter (is_live_on b) patches)

-- the numbers of the changes of b in flight
abbrev pub flying_on : ℕ → List Patch → List ℕ
flying_on b patches = map (λ p. p.number) (filter (is_change_at place.Flight b) patches)

-- the list of each block has its changes that are not on disk, in order of number
pub record AreListed (patches : List Patch) (blocks : ℕ) (lists : List (List Entry)) : Type 0 where
  pub long : length lists ≡ blocks
  pub each : (b : ℕ) (d : List Entry) → b < blocks → slice_index_or lists b d ≡ entries_on b patches

-- the list of block b has a free place
abbrev pub HasRoomInList : (lens capacities : List ℕ) → ℕ → Type 0
HasRoomInList lens capacities b = slice_index_or lens b 0 < slice_index_or capacities b 0
