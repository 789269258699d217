use Rattle.fst_heads.proofs.{Basics.{◌≡◌, map, take, vec_capacity}, Words.{frames_of, numbers_of, nodes_of, launches}}
use Rattle.fst_heads.proofs.launch.launch_all.Given as goal

abbrev pub invariant-loop-no : goal.invariant-loop-no
invariant-loop-no l = record {
  nodes : nodes_of l.heads.list.items ≡ map (launches (numbers_of (take l.no-index l.chosen))) (nodes_of l.initial.heads.list.items);
  queued : l.queue.items ≡ numbers_of (take l.no-index l.chosen);
  frames : frames_of l.heads.list.items ≡ frames_of l.initial.heads.list.items;
  places : vec_capacity l.heads.list ≡ vec_capacity l.initial.heads.list;
  capacity : vec_capacity l.queue ≡ vec_capacity l.initial.queue;
}
