-- What a caller sees of a flight.
use Rattle.fst_types.specs.Events.{FlightSeen}
use Rattle.fst_seat.specs.declared.flight.Flight.{Flight}
use Rattle.fst_seat.specs.Names.{numbers_of}

abbrev pub seen_flight : Flight → FlightSeen
seen_flight f = record { ticket = f.ticket.0; patches = numbers_of f.patches.now; image = f.image.now; stalled = f.stalled; lost = f.lost }
