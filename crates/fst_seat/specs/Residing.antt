-- Which blocks are in memory.
use Rattle.std.specs.Prelude.{◌≡◌, ◌<◌, ◌≤◌, ◌⊎◌, ◌++◌, ◌∷◌, ℕ, Bool, false, List, [], Option, Some, None, IsSome, is_some, slice_get, slice_set, map, count_by}
use Rattle.fst_block.specs.BlockView.{BlockPatch, BlockView}
use Rattle.fst_seat.specs.Seats.{SeatView, is_dirty_seat, count_flying}
use Rattle.fst_seat.specs.Places.{ResidentsView}

-- of each block, whether it is in memory
abbrev pub are_loaded : List SeatView → List Bool
are_loaded seats = map (λ seat. is_some seat.loaded) seats

-- of each block, whether it is dirty
abbrev pub are_dirty : List SeatView → List Bool
are_dirty seats = map is_dirty_seat seats

-- what is kept beside these seats: how many blocks may be in memory, which are, and which are dirty
abbrev pub residents_of : ℕ → List SeatView → ResidentsView
residents_of most seats = record { most = most; loaded = are_loaded seats; dirty = are_dirty seats }

-- how many blocks are in memory
abbrev pub count_loaded : List SeatView → ℕ
count_loaded seats = count_by (λ seat. is_some seat.loaded) seats

-- the block is in memory and has no change that is not on disk
pub record IsCleanLoaded (seat : SeatView) : Type 0 where
  pub there : IsSome seat.loaded
  pub clean : is_dirty_seat seat ≡ false

-- the seat of block c is such a one
pub record IsCleanAt (seats : List SeatView) (c : ℕ) (seat : SeatView) : Type 0 where
  pub at : slice_get seats c ≡ Some seat
  pub block : IsCleanLoaded seat

-- a place is free, or a clean block in memory gives up its own
abbrev pub MakesPlace : ℕ → List SeatView → List SeatView → Type 0
MakesPlace resident old new =
    ((count_loaded old < resident) × (new ≡ old))
    ⊎ ((resident ≤ count_loaded old) × ((c : ℕ) × (seat : SeatView) × IsCleanAt old c seat × (new ≡ slice_set old c (record seat { loaded = None }))))

-- a block that was not in memory is not, or is as it is committed
abbrev pub IsReadOf : SeatView → Option BlockView → Type 0
IsReadOf seat loaded = (loaded ≡ None) ⊎ (loaded ≡ Some (record { base = seat.block.committed; patches = [] }))

-- block b is not in memory
abbrev pub IsAwayAt : List SeatView → ℕ → Type 0
IsAwayAt seats b = (seat : SeatView) → slice_get seats b ≡ Some seat → seat.loaded ≡ None

-- block b was not in memory; a place is made for it, and its slot is read
pub record Loads (resident : ℕ) (old : List SeatView) (b : ℕ) (new : List SeatView) : Type 0 where
  pub away : IsAwayAt old b
  pub placed : List SeatView
  pub place : MakesPlace resident old placed
  pub seat : SeatView
  pub at : slice_get placed b ≡ Some seat
  pub loaded : Option BlockView
  pub faults : ℕ
  pub read : IsReadOf seat loaded
  pub seats : new ≡ slice_set placed b (record seat { loaded = loaded; faults = faults })

-- the seat of block b, and that it is in memory
pub record IsLoadedAt (seats : List SeatView) (b : ℕ) : Type 0 where
  pub seat : SeatView
  pub at : slice_get seats b ≡ Some seat
  pub there : IsSome seat.loaded

-- a block that is not in memory has no flight
abbrev pub IsAtRestWhereAway : List SeatView → Type 0
IsAtRestWhereAway seats = (b : ℕ) (seat : SeatView) → slice_get seats b ≡ Some seat → seat.loaded ≡ None → seat.block.flight ≡ None

-- block b was in memory, or was read
abbrev pub MayLoad : (resident : ℕ) (old : List SeatView) (b : ℕ) (new : List SeatView) → Type 0
MayLoad resident old b new = (IsLoadedAt old b × (new ≡ old)) ⊎ Loads resident old b new

-- then block b has one patch more, its newest
pub record Puts (resident : ℕ) (old : List SeatView) (b : ℕ) (patch : BlockPatch) (new : List SeatView) : Type 0 where
  pub read : List SeatView
  pub load : MayLoad resident old b read
  pub seat : SeatView
  pub at : slice_get read b ≡ Some seat
  pub view : BlockView
  pub there : seat.loaded ≡ Some view
  pub seats : new ≡ slice_set read b (record seat { loaded = Some (record view { patches = view.patches ++ patch ∷ [] }) })

-- what is kept beside the seats is right: which blocks are in memory and which are dirty, and how many are in flight; a block with a flight is in memory, and each block's seat stands at its place
pub record AreInStep (flights : ℕ) (residents : ResidentsView) (seats : List SeatView) : Type 0 where
  pub listed : residents ≡ residents_of residents.most seats
  pub flying : flights ≡ count_flying seats
  pub rest : IsAtRestWhereAway seats
  pub placed : (b : ℕ) (seat : SeatView) → slice_get seats b ≡ Some seat → seat.place ≡ b
