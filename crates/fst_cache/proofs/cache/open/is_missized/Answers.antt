use Rattle.std.proofs.Common.{arith}
use Rattle.std.proofs.lemmas.Bool.{false≢true}
use Rattle.fst_cache.proofs.OpenPlaced.{not_missized}
use Rattle.fst_cache.proofs.cache.open.is_missized.Goals as goal

pub returns : goal.returns
returns g c = ((λ t. absurd (false≢true t)), (λ h. absurd (not_missized g.S.BlockSlot.size c.args.size c.args.slots.now (λ k d lt. c.loop-slot.invariant k d (omega arith)) h)))
