-- The groups that are kept.
use Rattle.std.specs.Prelude.{◌≡◌, ◌≢◌, ◌<◌, ◌+◌, ◌↔◌, ℕ, true, List, map, length, All, AllPairs, Contains, slice_index_or}
use Rattle.fst_types.specs.Groups.{Group}
use Rattle.fst_graph.specs.declared.group.Group.{Group as Kept}

-- the groups, and for how many more there is a place
pub record Gathered : Type 0 where
  pub items : List Group
  pub room : ℕ

-- a group as contracts see it
abbrev pub group_of : Kept → Group
group_of g = record { head = g.head; tail = g.head + 1; members = g.members.items; closed = g.closed; after = g.after.items }

abbrev pub groups_of : List Kept → List Group
groups_of groups = map group_of groups

-- a group has begun exactly if a change was made for it
abbrev pub IsToldBegun : Kept → Type 0
IsToldBegun g = (g.begun ≡ true) ↔ ((m : ℕ) × Contains g.members.items m)

-- they stand in order of their numbers, apart from one another, and the number of each tail is one of 32 bits
pub record AreKept (groups : List Kept) : Type 0 where
  pub apart : AllPairs (λ g h. g.head + 1 < h.head) groups
  pub begun : All IsToldBegun groups
  pub narrow : All (λ g. g.head < 4294967295) groups

-- the group at the index has this number
abbrev pub HasGroupIndex : List Kept → ℕ → ℕ → Type 0
HasGroupIndex groups number index = (index < length groups) × ((d : Kept) → (slice_index_or groups index d).head ≡ number)

-- no group has this number
abbrev pub HasNoGroup : List Kept → ℕ → Type 0
HasNoGroup groups number = All (λ g. g.head ≢ number) groups
