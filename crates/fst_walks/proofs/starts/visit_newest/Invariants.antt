use Rattle.std.proofs.Common.{◌≡◌, take, Contains}
use Rattle.fst_heads.specs.{Heads.patches_of, Nodes.{nodes_of, pending_in}, Rows.IsTouched}
use Rattle.fst_walks.specs.{Descending.{Visited, Visits}, Starting.numbers_told}
use Rattle.fst_levels.specs.Walks.{numbers_met}
use Rattle.fst_heads.specs.declared.pending.Pending.TheVariants as pending
use Rattle.fst_walks.proofs.starts.visit_newest.Given as goal

abbrev pub invariant-loop-run : goal.invariant-loop-run
invariant-loop-run l = record {
  visited : Visited l.sight.heads.now.list.items l.walk;
  visits : Visits (λ n. Contains (take l.run-index (numbers_told l.runs)) n × (IsTouched (patches_of l.sight.heads.now.list.items) l.block l.span.at l.span.len n × (pending_in (nodes_of l.sight.heads.now.list.items) n ≡ pending.Held))) (numbers_met l.sight.heads.now.list.items l.initial.walk) (numbers_met l.sight.heads.now.list.items l.walk);
}
