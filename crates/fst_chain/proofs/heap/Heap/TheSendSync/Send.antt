use denote.RattleType.{RattleType}
use denote.Param.Send.{IsSend, Frees}
use Rattle.core.specs.declared.alloc.Allocator.{Ghosts}
use Rattle.fst_chain.proofs.Crosses.{Heap-send}
use Rattle.fst_chain.specs.contracts.heap.Heap.{the_row}

pub send : (X A : RattleType) (g : Ghosts A.Denot) → IsSend X → IsSend A → Frees g g.dealloc_token → IsSend (the_row X A g)
send X A g sx sa f = Heap-send X A g f sx
