-- What the program keeps of a player, in the script's words.
use Rattle.std.specs.Prelude.{◌≡◌, ◌≢◌, ◌<◌, ℕ, List, Some, All, AllPairs, map, length, slice_index_or}
use Rattle.std.specs.List.{remove}
use Rattle.fst_types.specs.declared.shape.Shape.{Shape}
use Rattle.fst_types.specs.State.{State}
use Rattle.fst_types.specs.Flights.{IsOut}
use Rattle.fst_types.specs.Run.{ChangeMade, Call, Run, changes_in}
use Rattle.fst_device.specs.JobView.{JobView}
use Rattle.fst_device.specs.MemoryView.{MemoryView}
use Rattle.fst_player.specs.Script.{JobKept, opened, job_of, without}

abbrev pub job_kept : JobView MemoryView → JobKept
job_kept j = record { ticket = j.ticket; block = j.block; image = j.image }

abbrev pub jobs_kept : List (JobView MemoryView) → List JobKept
jobs_kept jobs = map job_kept jobs

-- the cache came from its first state by calls that made these changes
abbrev pub Came : State → State → List ChangeMade → Type 0
Came first cache made = (calls : List Call) × Run first calls cache × (made ≡ changes_in calls)

-- what is committed of each block
abbrev pub committed_of_each : State → List (List ℕ)
committed_of_each cache = map (λ b. b.committed) cache.blocks

-- the share counts all that was made, each kept job is out, one of a block, the cache came from its opening by calls that made these changes, and what is committed of each block is kept
pub record IsKept (shape : Shape) (share : ℕ) (cache : State) (jobs : List (JobView MemoryView)) (made : List ChangeMade) (kept : List (List ℕ)) : Type 0 where
  pub counted : share ≡ cache.made
  pub blocks : shape.blocks ≡ length cache.blocks
  pub out : All (λ j. IsOut cache j.ticket j.block j.image) jobs
  pub apart : AllPairs (λ i j. i.block ≢ j.block) jobs
  pub came : Came (opened shape).cache cache made
  pub committed : kept ≡ committed_of_each cache

-- the job of a ticket is the one at i
pub record IsJobAt (jobs : List (JobView MemoryView)) (ticket i : ℕ) : Type 0 where
  pub within : i < length jobs
  pub ticketed : (d : JobView MemoryView) → (slice_index_or jobs i d).ticket ≡ ticket
  pub found : (d : JobView MemoryView) → job_of (jobs_kept jobs) ticket ≡ Some (job_kept (slice_index_or jobs i d))
  pub others : without ticket (jobs_kept jobs) ≡ jobs_kept (remove jobs i)
