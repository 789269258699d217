use Rattle.fst_types.proofs.LandingOrder.{run_keeps_lawful, runs_stay_lawful, made_in_order}
use Rattle.fst_types.proofs.laws.runs_stay_lawful.Goals as goal

pub returns : goal.returns
returns c = record { lawful = run_keeps_lawful; from_opening = runs_stay_lawful; in_order = made_in_order }
