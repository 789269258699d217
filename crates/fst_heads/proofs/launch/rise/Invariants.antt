use Rattle.fst_heads.proofs.Basics.{◌≡◌, ◌≤◌, ℕ, vec_capacity}
use Rattle.fst_heads.proofs.Words.{frames_of, nodes_of, pending_in, AreLinked, AreDistinct, Spreading, IsRisenOf, Rises}
use Rattle.fst_heads.proofs.{Going.{steps}, Waiting.{distance}}
use Rattle.fst_heads.proofs.launch.rise.Given as goal

abbrev pub invariant-loop-number : goal.invariant-loop-number
invariant-loop-number l = record {
  spreading : (blocks : ℕ) × (blocks ≤ 65535) × Spreading (Rises l.block) (nodes_of l.heads.list.items) blocks l.queue.items;
  linked : AreLinked (nodes_of l.heads.list.items);
  distinct : AreDistinct (nodes_of l.heads.list.items);
  risen : IsRisenOf (nodes_of l.fn.heads.list.items) (nodes_of l.heads.list.items);
  rises : (n : ℕ) → Rises l.block (pending_in (nodes_of l.fn.heads.list.items) n) (pending_in (nodes_of l.heads.list.items) n);
  frames : frames_of l.heads.list.items ≡ frames_of l.fn.heads.list.items;
  places : vec_capacity l.heads.list ≡ vec_capacity l.fn.heads.list;
  capacity : vec_capacity l.queue ≡ vec_capacity l.fn.queue;
}

abbrev pub decreases-loop-number : goal.decreases-loop-number
decreases-loop-number l = distance (steps l.block) (nodes_of l.heads.list.items)
