use Rattle.std.proofs.Common.{◌≡◌, take, Contains}
use Rattle.fst_heads.specs.Nodes.{nodes_of, pending_in}
use Rattle.fst_walks.specs.Descending.{Visited, Visits}
use Rattle.fst_levels.specs.Walks.{numbers_met}
use Rattle.fst_heads.specs.declared.pending.Pending.TheVariants as pending
use Rattle.fst_walks.proofs.cycle.visit_row.Given as goal

abbrev pub invariant-loop-number : goal.invariant-loop-number
invariant-loop-number l = record {
  visited : Visited l.sight.heads.now.list.items l.walk;
  visits : Visits (λ n. Contains (take l.number-index l.row) n × (pending_in (nodes_of l.sight.heads.now.list.items) n ≡ pending.Held)) (numbers_met l.sight.heads.now.list.items l.initial.walk) (numbers_met l.sight.heads.now.list.items l.walk);
}
