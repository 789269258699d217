-- Where a search for a cycle starts below.
use Rattle.std.specs.Prelude.{◌≡◌, ◌⊎◌, ℕ, true, List, map, Contains}
use Rattle.fst_types.specs.{Dependencies.DependsOn, Patches.Patch}
use Rattle.fst_heads.specs.{Lists.{Entry, entries_of}, Names.numbers_of, Rows.{shares, IsTouched}, declared.cover.Run.Run}
use Rattle.fst_walks.specs.declared.starts.Starts.{Starts}
use Rattle.fst_walks.specs.declared.starts.Starts.TheVariants.{Names, Newest, Overlapped}

-- n is the number of an entry that shares a byte with len bytes from at on
pub record IsSharing (at len : ℕ) (entries : List Entry) (n : ℕ) : Type 0 where
  pub entry : Entry
  pub listed : Contains entries entry
  pub numbered : entry.number ≡ n
  pub shared : shares at len entry.at entry.len ≡ true

-- the numbers that the runs tell
abbrev pub numbers_told : List Run → List ℕ
numbers_told runs = map (λ r. r.number) runs

-- n is the number of a patch where the search starts
abbrev pub IsStart : List Patch → Starts → ℕ → Type 0
IsStart patches (Names names) n = Contains (numbers_of names.now) n
IsStart patches (Newest runs block span) n = Contains (numbers_told runs.now) n × IsTouched patches block span.at span.len n
IsStart patches (Overlapped list span) n = IsSharing span.at span.len (entries_of list.now) n

-- one of them is the gate, or depends on it
abbrev pub StartsAbove : List Patch → ℕ → Starts → Type 0
StartsAbove patches gate starts = (n : ℕ) × IsStart patches starts n × ((n ≡ gate) ⊎ DependsOn patches n gate)
