use Rattle.std.proofs.Common.{◌≡◌, take, Contains}
use Rattle.fst_heads.specs.{Names.numbers_of, Nodes.{nodes_of, pending_in}}
use Rattle.fst_walks.specs.Descending.{Visited, Visits}
use Rattle.fst_levels.specs.Walks.{numbers_met}
use Rattle.fst_heads.specs.declared.pending.Pending.TheVariants as pending
use Rattle.fst_walks.proofs.starts.visit_names.Given as goal

abbrev pub invariant-loop-name : goal.invariant-loop-name
invariant-loop-name l = record {
  visited : Visited l.sight.heads.now.list.items l.walk;
  visits : Visits (λ n. Contains (numbers_of (take l.name-index l.names)) n × (pending_in (nodes_of l.sight.heads.now.list.items) n ≡ pending.Held)) (numbers_met l.sight.heads.now.list.items l.initial.walk) (numbers_met l.sight.heads.now.list.items l.walk);
}
