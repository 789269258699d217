-- A `&` to a heap reaches each node. Assumes `Logic`.
use mathlib.Core.List.{[], ◌++◌}
use base.Fml.{Incl-trans}
use contract.BorrowLft.{meet_⊑_left}
use denote.RattleType.{RattleType}
use denote.RawPtr.{RawPtr}
use denote.Param.Laws.{Laws}
use denote.Param.Shared.{copy_shared}
use denote.Struct.Laws.{field_copy}
use denote.Struct.Lending.{of_Lends}
use Rattle.core.specs.declared.alloc.Allocator.{Ghosts}
use Rattle.core.specs.contracts.marker.PhantomData as marker
use Rattle.fst_chain.specs.contracts.heap.Heap as C
use Rattle.fst_chain.proofs.heap.Heap.TheLaw.Statement.{statement}
use Rattle.fst_chain.proofs.Sharing.{nodes_lent_laws, Lends-nodes}

pub shares : (R Z : RattleType) (g : Ghosts Z.Denot) (L : Laws R) (P : Laws Z) → statement R Z g L P
shares R Z g L P = of_Lends (C.struct R Z g) (C.the_codes R.Denot Z.Denot R.coded Z.coded (marker.the_row RawPtr).coded) (C.the_heap R Z g) (C.the_lent R Z g)
    (λ d p. nodes_lent_laws R L.shr_laws d.places d.items) (copy_shared (marker.the_field RawPtr) (field_copy (marker.the_type RawPtr) tt), tt)
    (λ M 𝓤 𝓛 d p. Lends-nodes 𝓛 (C.the_row R Z g).lives R L (Incl-trans (meet_⊑_left (R.lives ++ (Z.lives ++ [])) _) (meet_⊑_left R.lives (Z.lives ++ []))) (g.dealloc_token d.alloc) d.places d.tails d.items)
