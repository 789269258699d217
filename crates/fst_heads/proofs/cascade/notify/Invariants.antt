use Rattle.fst_heads.proofs.{Basics.{◌≡◌, ◌-◌, ◌++◌, length, map, take, vec_len, vec_capacity}, Words.{frames_of, nodes_of, notified, enqueued}, Indexed.row_at}
use Rattle.fst_heads.proofs.cascade.notify.Given as goal

abbrev pub invariant-loop-at : goal.invariant-loop-at
invariant-loop-at l = record {
  nodes : nodes_of l.heads.list.items ≡ map (notified (take l.at (row_at (nodes_of l.fn.heads.list.items) l.index)) l.old l.new) (nodes_of l.fn.heads.list.items);
  queued : l.queue.items ≡ l.fn.queue.items ++ enqueued (take l.at (row_at (nodes_of l.fn.heads.list.items) l.index)) l.old l.new (nodes_of l.fn.heads.list.items);
  len : vec_len l.heads.list ≡ vec_len l.fn.heads.list;
  capacity : vec_capacity l.queue ≡ vec_capacity l.fn.queue;
  frames : frames_of l.heads.list.items ≡ frames_of l.fn.heads.list.items;
  places : vec_capacity l.heads.list ≡ vec_capacity l.fn.heads.list;
}

abbrev pub decreases-loop-at : goal.decreases-loop-at
decreases-loop-at l = length (row_at (nodes_of l.fn.heads.list.items) l.index) - l.at
