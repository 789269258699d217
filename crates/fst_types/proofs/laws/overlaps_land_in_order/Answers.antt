use Rattle.fst_types.proofs.LandsInOrder.{overlaps_land_in_order, no_step_lands_later_alone}
use Rattle.fst_types.proofs.LandingOrder.{run_lands_in_order}
use Rattle.fst_types.proofs.laws.overlaps_land_in_order.Goals as goal

pub returns : goal.returns
returns c = record { state = overlaps_land_in_order; step = no_step_lands_later_alone; run = run_lands_in_order }
