-- What a cache is to its callers.
use Rattle.std.specs.Prelude.{◌≡◌, ◌+◌, ℕ, Bool, List, Option, Some, None, Result, IfErr, IsErrOf, OnOk, map, slice_index, slice_set}
use Rattle.fst_types.specs.declared.fault.Fault.{Fault}
use Rattle.fst_types.specs.declared.fault.Fault.TheVariants as fault
use Rattle.fst_types.specs.Residence.{MakesRoomFor, Brings, FailsToBring}
use Rattle.fst_types.specs.State.{Flight, BlockState, State}
use Rattle.fst_seat.specs.Seats.{Back}

-- the state; what each slot at home holds; each slot's count of faults, 0 while the slot is away; which blocks are in memory; and of each write that failed, what came back
pub record CacheView : Type 0 where
  pub state : State
  pub homes : List (Option (List ℕ))
  pub faults : List ℕ
  pub resident : List Bool
  pub back : List (Option Back)

-- what stands beside the state is as it was
pub record IsSameBeside (old new : CacheView) : Type 0 where
  pub homes : new.homes ≡ old.homes
  pub faults : new.faults ≡ old.faults
  pub resident : new.resident ≡ old.resident
  pub back : new.back ≡ old.back

-- what a call that needs block b in memory leaves beside the state: a failed read is counted once, and the block is away then, a place having been made for it; nothing else is counted; where the call is accepted
-- the block is there; and what the slots hold, and what came back, is as it was
pub record NeedsBlock {T : Type 0} (old : CacheView) (b : ℕ) (result : Result T Fault) (new : CacheView) : Type 0 where
  pub counted : IsErrOf result fault.Device → new.faults ≡ slice_set old.faults b (slice_index old.faults b + 1)
  pub uncounted : (IsErrOf result fault.Device → ⊥) → new.faults ≡ old.faults
  pub away : IsErrOf result fault.Device → MakesRoomFor old.state old.resident b new.resident
  pub brought : OnOk result (Brings old.state old.resident b new.resident)
  pub left : IfErr result (λ why. FailsToBring old.state old.resident b why new.resident)
  pub homes : new.homes ≡ old.homes
  pub back : new.back ≡ old.back

-- what the slot of a block holds, where it is at home: what is committed, and it is at home where nothing of the block is in flight
abbrev pub home_of : BlockState → Option (List ℕ)
home_of block = held_at block.flight
  where
    held_at : Option Flight → Option (List ℕ)
    held_at None = Some block.committed
    held_at (Some flight) = None

-- each slot at home holds what is committed of its block
abbrev pub SlotsHoldCommitted : CacheView → Type 0
SlotsHoldCommitted cache = cache.homes ≡ map home_of cache.state.blocks
