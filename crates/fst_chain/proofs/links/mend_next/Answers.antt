use Rattle.std.proofs.Common.{ap, ◌-◌}
use Rattle.std.proofs.lemmas.List.{map-set}
use Rattle.std.proofs.Math.Seq.{map-set_same}
use Rattle.fst_chain.specs.declared.node.Node.{Node}
use Rattle.fst_chain.specs.Chained.{record_of, tail_of}
use Rattle.fst_chain.proofs.links.mend_next.Goals as goal

pub returns-in-Some-clause-items : goal.returns-in-Some-clause-items
returns-in-Some-clause-items g c =
    let X = g.row.T.Denot in let xs = c.args.heap.now.items in let j = c.args.i - 1 in let m = c.at_mut-before.result.now in
    rw c.in-Some.is (record {
      next = map-set (λ (n : Node X). n.next) xs j _;
      prev = map-set_same (λ (n : Node X). n.prev) xs j _ m (ap (λ (n : Node X). n.prev) c.at_mut-before.ensures.value);
      same = map-set_same record_of xs j _ m (ap record_of c.at_mut-before.ensures.value);
      tails = map-set_same tail_of xs j _ m (ap tail_of c.at_mut-before.ensures.value);
    })
