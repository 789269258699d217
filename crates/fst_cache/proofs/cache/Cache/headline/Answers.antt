use Rattle.fst_cache.proofs.ResideLooking.{residence, homes_are}
use Rattle.fst_cache.proofs.cache.Cache.headline.Goals as goal

pub returns-clause-residence : goal.returns-clause-residence
returns-clause-residence g c = rw (← c.self.view_is) (residence c.self.inside c.self.invariant)

pub returns-clause-homes : goal.returns-clause-homes
returns-clause-homes g c = rw (← c.self.view_is) (homes_are c.self.inside c.self.invariant)
