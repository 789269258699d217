-- What keeps a block with something to write from going out.
use Rattle.std.specs.Prelude.{◌≤◌, ℕ, List, [], ◌∷◌}
use Rattle.fst_types.specs.declared.fault.Fault.TheVariants as fault
use Rattle.fst_types.specs.declared.fault.What.TheVariants as what
use Rattle.fst_types.specs.Limits.{max_ticket, max_flights}
use Rattle.fst_types.specs.State.{State}
use Rattle.fst_types.specs.Counts.{flights}
use Rattle.fst_types.specs.Refusals.{Rule, ◌when◌}
use Rattle.fst_types.specs.Order.{held_rule}

-- a hard patch of block b is held, or no place or no ticket is left for a flight
abbrev pub sending_order : State → ℕ → List Rule
sending_order s b = held_rule s.heads b ∷ fault.Full what.Flights when (max_flights ≤ flights s) ∷ fault.Full what.Tickets when (max_ticket ≤ s.tickets) ∷ []
