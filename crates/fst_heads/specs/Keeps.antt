-- What a graph's fields keep.
use Rattle.std.specs.Prelude.{◌≡◌, ◌≤◌, ◌<◌, ℕ, Bool, List, [], length, count_by, Contains}
use Rattle.fst_types.specs.{Limits.max_heads, Patches.{Patch, IsOn}, Facts.SparseAreLawful, Tests.is_live}
use Rattle.fst_heads.specs.{Nodes.{Node, patches_in, AreLinked, AreGiven, AreDistinct, AreSettled, AreCounted}, Lists.{Entry, AreListed}}
use Rattle.fst_heads.specs.Standings.{AllStand, AreMarked}
use Rattle.fst_heads.specs.declared.standing.Standing.{Standing}

-- each change lies in one of the blocks
abbrev pub IsInside : List Patch → ℕ → Type 0
IsInside heads blocks = (p : Patch) (b : ℕ) → Contains heads p → IsOn p b → b < blocks

pub record Keeps (heads : List Patch) (numbers blocks : ℕ) (marks : List Bool) : Type 0 where
  pub lawful : SparseAreLawful heads numbers
  pub inside : IsInside heads blocks
  pub marked : length marks ≡ length heads

-- how many patches are not on disk, which are no more than may be kept, and a place for each block for the walks
pub record Beside (heads : List Patch) (blocks live : ℕ) (reached : List Bool) : Type 0 where
  pub places : length reached ≡ blocks
  pub counted : live ≡ count_by is_live heads
  pub few : live ≤ max_heads

-- what stands beside the patches tells of them, and nothing waits in the queue, which has a place for each
pub record Tallies (nodes : List Node) (numbers blocks : ℕ) (lists : List (List Entry)) (standings : List Standing) (queue : List ℕ) (queue_capacity : ℕ) : Type 0 where
  pub linked : AreLinked nodes
  pub given : AreGiven nodes numbers
  pub distinct : AreDistinct nodes
  pub settled : AreSettled nodes blocks
  pub counted : AreCounted nodes
  pub listed : AreListed (patches_in nodes) blocks lists
  pub standing : AllStand nodes blocks standings
  pub marked : AreMarked (patches_in nodes) blocks standings
  pub idle : queue ≡ []
  pub room : length nodes ≤ queue_capacity
