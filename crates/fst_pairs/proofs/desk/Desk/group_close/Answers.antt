use Rattle.std.proofs.Common.{refl}
use Rattle.fst_types.specs.Events.{GroupClose, Accepted}
use Rattle.fst_pairs.proofs.Calls.{lanes_either}
use Rattle.fst_pairs.proofs.desk.Desk.group_close.Goals as goal

pub invariant_of-self : goal.invariant_of-self
invariant_of-self g c =
    let i = c.self.inside in
    (c.self.invariant.0, lanes_either c.group_close.result i.cache.state c.group_close.new.self.state (GroupClose c.args.group.0) (λ u. Accepted) _ i.landed i.stalled refl c.group_close.ensures.step c.self.invariant.1)
