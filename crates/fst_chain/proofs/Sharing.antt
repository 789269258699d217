-- A `&` to the nodes is made where one to a node is. Assumes `Logic`.
use Rattle.std.proofs.Common.{ℕ, zero, suc, ◌<◌, List, [], ◌∷◌, length, arith}
use seplogic.Ra.Ura.{Ura}
use mir.Syntax.{Ty}
use base.Fml.{Lft, Fml, ftrue, ffalse, Incl}
use base.Logic.{ent, via, fst∗, snd∗}
use types.Logic.{Logic, sem}
use denote.RattleType.{RattleType, RowLaws}
use denote.Param.Laws.{Laws}
use denote.RawPtr.{Ptr}
use denote.Sharing.{ShrLaws, beside}
use denote.SharingLaws.{beside_shr_laws, nothing_shr_laws}
use denote.Shares.{Shares-less}
use denote.Struct.Lending.{lent_at, lent_at_shr_laws, Lends, Lends-lies, Lends-first, Lends-both, Lends-nothing, Lends-false}
use Rattle.core.specs.Ptr.{points_to}
use Rattle.fst_chain.specs.Held.{node_owns, nodes_own, nodes_lent, place_at}
use Rattle.fst_chain.specs.Blocks.{way_back}
use Rattle.fst_chain.proofs.Nodes.{item_in, less}

pub nodes_lent_laws : (R : RattleType) → RowLaws R → (ps : List Ptr) (xs : List R.Denot) → ShrLaws (nodes_lent R ps xs)
nodes_lent_laws R L [] xs = nothing_shr_laws
nodes_lent_laws R L (p ∷ ps) [] = nothing_shr_laws
nodes_lent_laws R L (p ∷ ps) (x ∷ xs) = beside_shr_laws (lent_at R p x) (nodes_lent R ps xs) (lent_at_shr_laws R L p x) (nodes_lent_laws R L ps xs)

module _ {M : Type 1} {𝓤 : Ura M} (𝓛 : Logic 𝓤) (l : Lft) (R : RattleType) (L : Laws R) (inc : Incl l R.lives) (token : Ty → Ptr → Fml) where
  pub Lends-nodes : (ps : List Ptr) (ts : List (Ptr × ℕ)) (xs : List R.Denot) → Lends 𝓛 (nodes_own token R ps ts xs) (nodes_lent R ps xs) l
  Lends-nodes [] [] [] = Lends-nothing 𝓛 ftrue l
  Lends-nodes [] [] (x ∷ xs) = Lends-nothing 𝓛 ffalse l
  Lends-nodes [] (t ∷ ts) xs = Lends-nothing 𝓛 ffalse l
  Lends-nodes (p ∷ ps) [] [] = Lends-nothing 𝓛 ffalse l
  Lends-nodes (p ∷ ps) [] (x ∷ xs) = Lends-false 𝓛 (beside (lent_at R p x) (nodes_lent R ps xs)) l
  Lends-nodes (p ∷ ps) (t ∷ ts) [] = Lends-nothing 𝓛 ffalse l
  Lends-nodes (p ∷ ps) (t ∷ ts) (x ∷ xs) =
      Lends-both 𝓛 (node_owns token R p t x) (nodes_own token R ps ts xs) (lent_at R p x) (nodes_lent R ps xs) l
      (Lends-first 𝓛 (points_to R p x) (way_back token R p t.0 t.1) (lent_at R p x) l (Lends-lies 𝓛 R l p x (Shares-less 𝓛 R R.lives l inc (L.shares 𝓛) x))) (Lends-nodes ps ts xs)

module _ {M : Type 1} {𝓤 : Ura M} (𝓛 : Logic 𝓤) (κ : Lft) (R : RattleType) where
  pub node_seen : (ps : List Ptr) (xs : List R.Denot) (i : ℕ) (lt : i < length xs) → i < length ps → ent 𝓤 (sem 𝓛 (nodes_lent R ps xs κ)) (sem 𝓛 (lent_at R (place_at ps i) (item_in xs i lt) κ))
  unfolding item_in
  node_seen [] xs i lt le = absurd (omega (arith, le))
  node_seen (p ∷ ps) [] i lt le = absurd (omega (arith, lt))
  node_seen (p ∷ ps) (x ∷ xs) zero lt le = fst∗ 𝓤 (sem 𝓛 (lent_at R p x κ)) (sem 𝓛 (nodes_lent R ps xs κ))
  node_seen (p ∷ ps) (x ∷ xs) (suc i) lt le = via 𝓤 (sem 𝓛 (nodes_lent R ps xs κ)) (snd∗ 𝓤 (sem 𝓛 (lent_at R p x κ)) (sem 𝓛 (nodes_lent R ps xs κ))) (node_seen ps xs i (less (length xs) i lt) (less (length ps) i le))
