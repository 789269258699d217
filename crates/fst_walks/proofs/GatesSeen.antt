-- What is pending of the patches tells a search exactly what waits for an open gate.
use Rattle.std.proofs.Common.{ℕ, List, inl, inr}
use Rattle.fst_types.specs.{Closure.{IsAcyclic}, Dependencies.{DirectlyOn}, Facts.IsOnDiskWithAll}
use Rattle.fst_types.specs.{Patches.{IsRising}}
use Rattle.fst_heads.specs.{Heads.{IsRising as HeadsRise, patches_of}}
use Rattle.fst_heads.specs.{Nodes.{Node, nodes_of, patches_in, pending_in, AreSettled}, declared.head.Head.Head}
use Rattle.fst_heads.proofs.{AtNumber.patches_in_nodes, Listing.rising_patches}
use Rattle.fst_walks.specs.Searching.{AreHeldByGates, TellsGates}
use Rattle.fst_levels.specs.{Sights.Sees, declared.sight.Sight.Sight}
use Rattle.fst_levels.proofs.Held.{held_above, gate_held, depends_held, heads_live}

-- what waits for an open gate is one, or depends on one
module _ (nodes : List Node) (blocks : ℕ) (rising : IsRising (patches_in nodes)) (acyclic : IsAcyclic (DirectlyOn (patches_in nodes))) (D : IsOnDiskWithAll (patches_in nodes)) (S : AreSettled nodes blocks) where
  held_by_gates : AreHeldByGates (patches_in nodes) (pending_in nodes)
  held_by_gates n = (
    held_above nodes blocks rising acyclic D S n,
    λ a. elim a [ inl here ↦ gate_held nodes blocks rising acyclic D S n here | inr below ↦ depends_held nodes blocks rising acyclic D S n below.0 below.1 (gate_held nodes blocks rising acyclic D S below.0 below.2) ],
  )

-- the same of heads
module _ (heads : List Head) (blocks : ℕ) (rising : HeadsRise heads) (acyclic : IsAcyclic (DirectlyOn (patches_of heads))) (D : IsOnDiskWithAll (patches_of heads)) (S : AreSettled (nodes_of heads) blocks) where
  heads_held : AreHeldByGates (patches_of heads) (pending_in (nodes_of heads))
  heads_held = rw (← patches_in_nodes heads)
      (held_by_gates (nodes_of heads) blocks (rw (patches_in_nodes heads) (rising_patches heads rising)) (rw (patches_in_nodes heads) acyclic) (rw (patches_in_nodes heads) D) S)

-- what a search sees tells of the open gates
pub gates_seen : (sight : Sight) → Sees sight → TellsGates sight.heads.now.list.items
gates_seen sight s =
    let heads = sight.heads.now.list.items in
    record { live = heads_live heads _ sight.heads.now.rising s.acyclic s.disk s.settled; held = heads_held heads _ sight.heads.now.rising s.acyclic s.disk s.settled }
