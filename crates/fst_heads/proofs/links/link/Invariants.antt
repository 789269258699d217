use Rattle.fst_heads.proofs.{Basics.{◌≡◌, ℕ, map, take, vec_len, vec_capacity}, Words.{HasRoomBelow, nodes_of, linked_to}, Linking.HasRoomFrom}
use Rattle.fst_heads.proofs.links.link.Given as goal

abbrev pub invariant-loop-other : goal.invariant-loop-other
invariant-loop-other l = record {
  nodes : nodes_of l.heads.list.items ≡ map (linked_to (take l.other-index l.row) l.number) (nodes_of l.initial.heads.list.items);
  room : HasRoomFrom l.heads.list.items l.row l.other-index;
  below : (n : ℕ) → HasRoomBelow l.initial.heads.list.items n → HasRoomBelow l.heads.list.items n;
  len : vec_len l.heads.list ≡ vec_len l.initial.heads.list;
  capacity : vec_capacity l.heads.list ≡ vec_capacity l.initial.heads.list;
}
