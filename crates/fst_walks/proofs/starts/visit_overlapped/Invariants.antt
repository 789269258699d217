use Rattle.std.proofs.Common.{◌≡◌, take}
use Rattle.fst_heads.specs.{Lists.entries_of, Nodes.{nodes_of, pending_in}}
use Rattle.fst_walks.specs.{Descending.{Visited, Visits}, Starting.IsSharing}
use Rattle.fst_levels.specs.Walks.{numbers_met}
use Rattle.fst_heads.specs.declared.pending.Pending.TheVariants as pending
use Rattle.fst_walks.proofs.starts.visit_overlapped.Given as goal

abbrev pub invariant-loop-listed : goal.invariant-loop-listed
invariant-loop-listed l = record {
  visited : Visited l.sight.heads.now.list.items l.walk;
  visits : Visits (λ n. IsSharing l.span.at l.span.len (entries_of (take l.listed-index l.list)) n × (pending_in (nodes_of l.sight.heads.now.list.items) n ≡ pending.Held)) (numbers_met l.sight.heads.now.list.items l.initial.walk) (numbers_met l.sight.heads.now.list.items l.walk);
}
