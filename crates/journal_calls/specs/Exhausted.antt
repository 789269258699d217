-- How writing until a patch is on disk can end.
use Rattle.std.specs.Prelude.{◌≡◌, ◌≤◌, ℕ, Some}
use Rattle.fst_types.specs.declared.place.Place.TheVariants as place
use Rattle.fst_types.specs.declared.fault.What.TheVariants as what
use Rattle.fst_types.specs.declared.fault.Fault.{Fault}
use Rattle.fst_types.specs.declared.fault.Fault.TheVariants as fault
use Rattle.fst_types.specs.Limits.{max_flights, max_ticket}
use Rattle.fst_types.specs.State.{State}
use Rattle.fst_types.specs.Counts.{flights}
use Rattle.fst_types.specs.Writable.{IsWritable}
use Rattle.fst_types.specs.Flights.{IsStalled}
use Rattle.fst_types.specs.Looks.{place_of}
use Rattle.fst_types.specs.Dead.{OnlyLostFly, AllHeldUp}

-- patch n is on disk
abbrev pub IsDurable : State → ℕ → Type 0
IsDurable s n = place_of s.heads s.numbers n ≡ Some place.Disk

-- no block may be written, and no failed write waits for another try; so, where only lost blocks are in flight, each change
-- in memory waits for an open gate or for a lost or dead block
pub record IsExhausted (s : State) : Type 0 where
  pub unwritable : (b : ℕ) → IsWritable s.heads b → ⊥
  pub unstalled : (b : ℕ) → IsStalled s b → ⊥
  pub held_up : OnlyLostFly s → AllHeldUp s

-- why the next write can not be sent out: 64 blocks are in flight, the last ticket was given, or memory was refused
pub data IsWriteRefused (s : State) : Fault → Type 0 where
  no_flight_left : max_flights ≤ flights s → IsWriteRefused s (fault.Full what.Flights)
  no_ticket_left : max_ticket ≤ s.tickets → IsWriteRefused s (fault.Full what.Tickets)
  no_memory : IsWriteRefused s fault.Memory
