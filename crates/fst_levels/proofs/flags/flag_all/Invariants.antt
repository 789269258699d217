use Rattle.fst_heads.proofs.{Basics.{◌≡◌, map, take, vec_capacity}, Words.{nodes_of, flags}}
use Rattle.fst_levels.proofs.flags.flag_all.Given as goal

abbrev pub invariant-loop-number : goal.invariant-loop-number
invariant-loop-number l = record {
  nodes : nodes_of l.heads.list.items ≡ map (flags (take l.number-index l.numbers)) (nodes_of l.initial.heads.list.items);
  places : vec_capacity l.heads.list ≡ vec_capacity l.initial.heads.list;
}
