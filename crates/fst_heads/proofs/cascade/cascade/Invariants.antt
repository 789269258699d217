use Rattle.fst_heads.proofs.Basics.{◌≡◌, ◌≤◌, ◌+◌, count_by, length, vec_capacity}
use Rattle.fst_heads.proofs.Words.{AreLanded, frames_of, nodes_of, AreLinked, AreDistinct, Spreading, IsSpreadOf, Sinks, height, is_waiting, AllStand}
use Rattle.fst_heads.proofs.Waiting.{distance}
use Rattle.fst_heads.proofs.cascade.cascade.Given as goal

abbrev pub invariant-loop-number : goal.invariant-loop-number
invariant-loop-number l = record {
  spreading : Spreading Sinks (nodes_of l.heads.list.items) (length l.fn.standings) l.queue.items;
  linked : AreLinked (nodes_of l.heads.list.items);
  distinct : AreDistinct (nodes_of l.heads.list.items);
  standing : AllStand (nodes_of l.heads.list.items) (length l.fn.standings) l.standings;
  spread : IsSpreadOf (nodes_of l.fn.heads.list.items) (nodes_of l.heads.list.items);
  listed : AreLanded (nodes_of l.heads.list.items) l.landed.items;
  counted : count_by is_waiting (nodes_of l.heads.list.items) + length l.landed.items ≡ count_by is_waiting (nodes_of l.fn.heads.list.items) + length l.fn.landed.items;
  more : length l.fn.landed.items ≤ length l.landed.items;
  shelf : vec_capacity l.landed ≡ vec_capacity l.fn.landed;
  capacity : vec_capacity l.queue ≡ vec_capacity l.fn.queue;
  frames : frames_of l.heads.list.items ≡ frames_of l.fn.heads.list.items;
  places : vec_capacity l.heads.list ≡ vec_capacity l.fn.heads.list;
}

abbrev pub decreases-loop-number : goal.decreases-loop-number
decreases-loop-number l = distance height (nodes_of l.heads.list.items)
