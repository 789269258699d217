use Rattle.std.proofs.Common.{refl}
use Rattle.fst_types.specs.Residence.{faults_rose}
use Rattle.fst_types.specs.Events.{GroupPatch, MadeChange}
use Rattle.fst_pairs.proofs.Calls.{lanes_either}
use Rattle.fst_pairs.proofs.desk.Desk.group_patch.Goals as goal

pub invariant_of-self : goal.invariant_of-self
invariant_of-self g c =
    let i = c.self.inside in
    (c.self.invariant.0, lanes_either c.group_patch.result i.cache.state c.group_patch.new.self.state (GroupPatch c.args.share.now c.args.group.0 c.args.block.0 c.args.at c.args.bytes.now (faults_rose i.cache.faults c.group_patch.new.self.faults c.args.block.0)) (λ made. MadeChange made.0.0 made.1) _ i.landed i.stalled refl c.group_patch.ensures.step c.self.invariant.1)
