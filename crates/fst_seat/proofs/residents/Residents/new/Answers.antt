use Rattle.std.proofs.Common.{List, Bool, ap, arith}
use Rattle.fst_seat.proofs.Listing.{none_first, none_counted}
use Rattle.fst_seat.proofs.residents.Residents.new.Goals as goal

pub invariant_of-result : goal.invariant_of-result
invariant_of-result c = record {
  before_hand = omega arith;
  hand_within = omega arith;
  all_dirty = none_counted c.in-Ok.places;
  all_there = none_counted c.in-Ok.places;
  few = omega (arith, c.in-Ok.ensures, c.ranges.blocks.fits);
}

pub returns-clause-none : goal.returns-clause-none
returns-clause-none c = ap (λ (flags : List Bool). record { most = c.args.most; loaded = flags; dirty = flags }) (none_first c.in-Ok.places c.args.blocks c.in-Ok.ensures)
