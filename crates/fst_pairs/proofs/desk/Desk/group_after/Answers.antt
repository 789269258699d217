use Rattle.std.proofs.Common.{refl}
use Rattle.fst_types.specs.Events.{GroupAfter, Accepted}
use Rattle.fst_pairs.proofs.Calls.{lanes_either}
use Rattle.fst_pairs.proofs.desk.Desk.group_after.Goals as goal

pub invariant_of-self : goal.invariant_of-self
invariant_of-self g c =
    let i = c.self.inside in
    (c.self.invariant.0, lanes_either c.group_after.result i.cache.state c.group_after.new.self.state (GroupAfter c.args.group.0 c.args.on.0) (λ u. Accepted) _ i.landed i.stalled refl c.group_after.ensures.step c.self.invariant.1)
