-- What a heap ends as, once a `&mut` to a node has ended.
use Rattle.std.specs.Prelude.{ℕ, List, slice_set}
use Rattle.std.specs.Borrow.{Fml, RattleType, MutBor, Lends}
use Rattle.core.specs.declared.alloc.Allocator.{Ghosts}
use Rattle.fst_chain.specs.declared.heap.Heap.{Heap}
use Rattle.fst_chain.specs.contracts.heap.Heap.{the_row}

abbrev pub with_items : {X Z : Type 0} → Heap X Z → List X → Heap X Z
with_items h xs = record { mark = h.mark; alloc = h.alloc; places = h.places; tails = h.tails; items = xs }

abbrev pub lends_node : (R Z : RattleType) (g : Ghosts Z.Denot) → MutBor (Heap R.Denot Z.Denot) → ℕ → MutBor R.Denot → Fml
lends_node R Z g h i r = Lends (the_row R Z g) R h r (λ w. with_items h.now (slice_set h.now.items i w))
