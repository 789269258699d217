use Rattle.fst_types.proofs.Headline.{headline_lem}
use Rattle.fst_types.proofs.laws.headline_holds.Goals as goal

pub returns : goal.returns
returns c = headline_lem
