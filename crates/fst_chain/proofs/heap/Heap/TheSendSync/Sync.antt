use denote.RattleType.{RattleType}
use denote.Param.Send.{IsSync}
use Rattle.core.specs.declared.alloc.Allocator.{Ghosts}
use Rattle.fst_chain.proofs.Crosses.{Heap-sync}
use Rattle.fst_chain.specs.contracts.heap.Heap.{the_row}

pub sync : (X A : RattleType) (g : Ghosts A.Denot) → IsSync X → IsSync (the_row X A g)
sync = Heap-sync
