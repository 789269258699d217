-- The way of a change: from memory to flight, and from flight to disk.
use Rattle.std.specs.Prelude.{◌≡◌, ℕ, true, List, Contains}
use Rattle.fst_types.specs.declared.place.Place.{Place}
use Rattle.fst_types.specs.declared.place.Place.TheVariants as place
use Rattle.fst_types.specs.Patches.{Patch, IsOn}
use Rattle.fst_types.specs.Events.{Event, Issue, Settle}

-- how one call may change the place of a change of block b: not at all, to flight where a write of b is issued, and to disk where that write was made
pub data MovesOn (b : ℕ) : Event → Place → Place → Type 0 where
  stays : {event : Event} {at : Place} → MovesOn b event at at
  flies : MovesOn b (Issue b) place.Memory place.Flight
  lands : {ticket : ℕ} {image : List ℕ} → MovesOn b (Settle ticket b image true) place.Flight place.Disk

-- p, a change of block b, was a head before the call, which moved it on at most
pub record WasMovedOn (old : List Patch) (event : Event) (b : ℕ) (p : Patch) : Type 0 where
  pub before : Patch
  pub head : Contains old before
  pub same_number : before.number ≡ p.number
  pub same_block : IsOn before b
  pub moved : MovesOn b event before.place p.place
