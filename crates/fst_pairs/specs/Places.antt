-- Free places on the rings of jobs, as the desk knows them, and the ring that a job goes to.
use Rattle.std.specs.Prelude.{◌≡◌, ◌≤◌, ◌<◌, ◌-◌, ℕ, List, length, map, slice_index_or, slice_set}
use Rattle.fst_pairs.specs.DeskView.{DeskView}
use Rattle.fst_pairs.specs.Ends.{Ends}

-- how many jobs are out with each worker
abbrev pub outs : {S : Type 0} → List (Ends S) → List ℕ
outs lanes = map (λ ends. length ends.out) lanes

-- the desk knows of a free place on this worker's ring, and fewer than 64 jobs are out there
abbrev pub HasPlace : (out free : List ℕ) → ℕ → Type 0
HasPlace out free i = (i < length out) × (slice_index_or out i 0 < 64) × (0 < slice_index_or free i 0)

-- of the rings with a free place, this one has the fewest jobs out, and of such ones it is the first
pub record IsRoomiest (out free : List ℕ) (i : ℕ) : Type 0 where
  pub place : HasPlace out free i
  pub fewest : (j : ℕ) → HasPlace out free j → slice_index_or out i 0 ≤ slice_index_or out j 0
  pub lowest : (j : ℕ) → HasPlace out free j → slice_index_or out j 0 ≡ slice_index_or out i 0 → i ≤ j

-- no ring has a free place
abbrev pub IsFull : (out free : List ℕ) → Type 0
IsFull out free = (i : ℕ) → HasPlace out free i → ⊥

-- the desk looked at its rings: places that it knew of are still free, and it may know of more
pub record Looks (old new : List ℕ) : Type 0 where
  pub many : length new ≡ length old
  pub kept : (i : ℕ) → slice_index_or old i 0 ≤ slice_index_or new i 0

-- nothing was sent, and nothing else changed than what is known of free places
pub record SendsNothing {S : Type 0} (old new : DeskView S) : Type 0 where
  pub same : new ≡ record old { free = new.free }
  pub looked : Looks old.free new.free

-- a job took one of the free places that the desk found on the roomiest ring
pub record TakesPlace {S : Type 0} (old : DeskView S) (i : ℕ) (new : DeskView S) : Type 0 where
  pub found : List ℕ
  pub looked : Looks old.free found
  pub roomiest : IsRoomiest (outs old.lanes) found i
  pub taken : new.free ≡ slice_set found i (slice_index_or found i 0 - 1)
