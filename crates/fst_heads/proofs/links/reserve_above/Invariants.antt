use Rattle.fst_heads.proofs.{Basics.{◌≡◌, vec_len, vec_capacity}, Words.nodes_of, Linking.HasRoomUpTo}
use Rattle.fst_heads.proofs.links.reserve_above.Given as goal

abbrev pub invariant-loop-number : goal.invariant-loop-number
invariant-loop-number l = record {
  nodes : nodes_of l.heads.list.items ≡ nodes_of l.initial.heads.list.items;
  room : HasRoomUpTo l.heads.list.items l.row l.number-index;
  len : vec_len l.heads.list ≡ vec_len l.initial.heads.list;
  capacity : vec_capacity l.heads.list ≡ vec_capacity l.initial.heads.list;
}
