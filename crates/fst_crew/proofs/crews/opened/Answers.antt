use Rattle.fst_crew.proofs.Misfits.{fitting}
use Rattle.fst_crew.proofs.crews.opened.Goals as goal

pub returns-in-Ok-open-2 : goal.returns-in-Ok-open-2
returns-in-Ok-open-2 g c = record { misfits = λ f misfits. absurd (fitting _ _ _ _ f c.in-Ok.ensures.1 c.in-Ok.ensures.2 c.in-Ok-open.ensures.fits misfits) }

pub returns : goal.returns
returns g c = record { misfits = λ f misfits. absurd (fitting _ _ _ _ f c.in-Ok.ensures.1 c.in-Ok.ensures.2 c.in-Ok-open.ensures.fits misfits) }
