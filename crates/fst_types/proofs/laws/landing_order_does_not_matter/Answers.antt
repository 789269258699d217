use Rattle.fst_types.proofs.Opened.{opening_is_committed}
use Rattle.fst_types.proofs.LandingOrder.{committed_is_fold, image_is_fold, crash_is_fold, places_tell}
use Rattle.fst_types.proofs.laws.landing_order_does_not_matter.Goals as goal

pub returns : goal.returns
returns c = record { opening = opening_is_committed; committed = committed_is_fold; images = image_is_fold; crash = crash_is_fold; places = places_tell }
