-- A heap of nodes may cross threads as its nodes and its allocator may.
use Rattle.core.specs.Prelude.{ℕ, List, [], ◌∷◌}
use mir.Syntax.{Ty}
use base.Fraction.{full_share}
use base.Fml.{ftrue}
use base.Shift.{Keyless}
use denote.Exit.{Exit, unchanged, leaves, hidden, under}
use denote.RattleType.{RattleType}
use denote.RawPtr.{Ptr, block_ptr, null_ptr, block_of, count_of, lies_at, room_for, in_block}
use denote.Struct.Struct.{exits_of}
use denote.Struct.Owning.{shape, fields, to}
use denote.Struct.Lending.{lent_at}
use denote.Param.Send.{IsSend, IsSync, Quiet, Common, AllSend, AllSync, part_keyless, owning_send, struct_send, struct_sync, sendable}
use Rattle.core.specs.declared.alloc.Allocator.{Ghosts}
use Rattle.std_alloc.proofs.SendSync.{FreesAnywhere}
use Rattle.fst_chain.specs.Held.{nodes_own, nodes_lent}
use Rattle.fst_chain.specs.contracts.heap.Heap as Heap

quiet : {D X : Type 0} (f : D → X) (e : Exit X) → Quiet e → Quiet (hidden (under f e))
quiet f unchanged q = λ x w. tt
quiet f (leaves L l S s r₀) q = λ d. q (f d)

lies : (R : RattleType) → IsSend R → (p : Ptr) (x : R.Denot) → Keyless (lies_at R full_share p x)
lies R s (block_ptr b o) x = part_keyless R s full_share x b o
lies R s null_ptr x = tt

room : (τ : Ty) (p : Ptr) → Keyless (room_for τ p)
room τ (block_ptr b o) = tt
room τ null_ptr = tt

inside : (p : Ptr) → Keyless (in_block p ftrue)
inside (block_ptr b o) = tt
inside null_ptr = tt

seen : (R : RattleType) → IsSync R → (p : Ptr) (x : R.Denot) → Common (lent_at R p x)
seen R s p x κ = (inside p, s.shared x (block_of p) (count_of p) κ)

nodes_lent-Common : (R : RattleType) → IsSync R → (ps : List Ptr) (xs : List R.Denot) → Common (nodes_lent R ps xs)
nodes_lent-Common R y [] xs κ = tt
nodes_lent-Common R y (p ∷ ps) [] κ = tt
nodes_lent-Common R y (p ∷ ps) (x ∷ xs) κ = (seen R y p x κ, nodes_lent-Common R y ps xs κ)

module _ (R B : RattleType) (g : Ghosts B.Denot) where
  mark_send : AllSend (fields (Heap.the_type R B g))
  mark_send = (search sendable, tt)

  mark_sync : AllSync (fields (Heap.the_type R B g))
  mark_sync = (search sendable, tt)

  pub Heap-sync : IsSync R → IsSync (Heap.the_row R B g)
  Heap-sync y = let O = Heap.the_type R B g in record { shared = λ d b o κ. ((struct_sync (shape O) mark_sync).shared (to O d) b o κ, nodes_lent-Common R y d.places d.items κ) }

  module _ (f : FreesAnywhere B.Denot g) (s : IsSend R) where
    nodes_own-Keyless : (a : B.Denot) (ps : List Ptr) (ts : List (Ptr × ℕ)) (xs : List R.Denot) → Keyless (nodes_own (g.dealloc_token a) R ps ts xs)
    nodes_own-Keyless a [] [] [] = tt
    nodes_own-Keyless a [] [] (x ∷ xs) = tt
    nodes_own-Keyless a [] (t ∷ ts) xs = tt
    nodes_own-Keyless a (p ∷ ps) [] xs = tt
    nodes_own-Keyless a (p ∷ ps) (t ∷ ts) [] = tt
    nodes_own-Keyless a (p ∷ ps) (t ∷ ts) (x ∷ xs) = ((lies R s p x, (((room _ p, room _ t.0), room _ p), f.frees a _ p)), nodes_own-Keyless a ps ts xs)

    pub Heap-send : IsSend (Heap.the_row R B g)
    Heap-send =
        let O = Heap.the_type R B g in
        owning_send O mark_send (λ d. nodes_own-Keyless d.alloc d.places d.tails d.items) (λ k. quiet (to O) (exits_of k (fields O)) ((struct_send (shape O) mark_send).leaving k))
