use Rattle.std.proofs.Common.{refl}
use Rattle.fst_cache.proofs.ResideUndo.{undo_is}
use Rattle.fst_cache.proofs.cache.Cache.stat.Goals as goal

pub returns : goal.returns
returns g c = rw (← c.self.view_is, c.live.ensures, c.self.invariant.undoing, undo_is c.self.inside c.self.invariant, c.flights.ensures) refl
