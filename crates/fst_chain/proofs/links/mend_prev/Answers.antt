use Rattle.std.proofs.Common.{ap, rules}
use Rattle.std.proofs.lemmas.List.{map-set}
use Rattle.std.proofs.Math.Seq.{map-set_same}
use Rattle.fst_chain.specs.declared.node.Node.{Node}
use Rattle.fst_chain.specs.Chained.{record_of, tail_of}
use Rattle.fst_chain.proofs.links.mend_prev.Goals as goal

pub returns-in-Some-clause-items : goal.returns-in-Some-clause-items
returns-in-Some-clause-items g c =
    let X = g.row.T.Denot in let xs = c.args.heap.now.items in let i = c.args.i in let m = c.at_mut-after.result.now in
    rw c.in-Some.is (record {
      next = map-set_same (λ (n : Node X). n.next) xs i _ m (ap (λ (n : Node X). n.next) c.at_mut-after.ensures.value);
      prev = map-set (λ (n : Node X). n.prev) xs i _;
      same = map-set_same record_of xs i _ m (ap record_of c.at_mut-after.ensures.value);
      tails = map-set_same tail_of xs i _ m (ap tail_of c.at_mut-after.ensures.value);
    })

pub returns-in-None-clause-tail : goal.returns-in-None-clause-tail
returns-in-None-clause-tail g c = search rules
