use Rattle.std.proofs.Common.{◌≡◌, take}
use Rattle.std_alloc.specs.Vec.{vec_len, vec_ptr, vec_capacity}
use Rattle.fst_chain.proofs.node.fill.Given as goal

abbrev pub invariant-loop-byte : goal.invariant-loop-byte
invariant-loop-byte l = (vec_len l.bytes ≡ l.byte-index) × (l.bytes.items ≡ take l.byte-index l.payload) × (vec_ptr l.bytes ≡ vec_ptr l.fn.bytes) × (vec_capacity l.bytes ≡ vec_capacity l.fn.bytes)
