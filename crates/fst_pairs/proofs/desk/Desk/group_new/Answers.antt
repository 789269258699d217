use Rattle.std.proofs.Common.{refl}
use Rattle.fst_types.specs.Events.{GroupNew, Made}
use Rattle.fst_pairs.proofs.Calls.{lanes_either}
use Rattle.fst_pairs.proofs.desk.Desk.group_new.Goals as goal

pub invariant_of-self : goal.invariant_of-self
invariant_of-self g c =
    let i = c.self.inside in
    (c.self.invariant.0, lanes_either c.group_new.result i.cache.state c.group_new.new.self.state (GroupNew c.args.share.now) (λ group. Made group.0) _ i.landed i.stalled refl c.group_new.ensures.step c.self.invariant.1)
