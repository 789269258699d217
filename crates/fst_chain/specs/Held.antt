-- What a heap of nodes owns: each node lies in a block of its own.
use Rattle.std.specs.Prelude.{ℕ, List, [], ◌∷◌, slice_index_or}
use mir.Syntax.{Ty}
use base.Fml.{Lft, Fml, ftrue, ffalse, fsep}
use denote.RattleType.{RattleType}
use denote.Sharing.{nothing, beside}
use denote.Struct.Lending.{lent_at}
use denote.RawPtr.{Ptr, null_ptr}
use Rattle.core.specs.Ptr.{points_to}
use Rattle.fst_chain.specs.Blocks.{way_back}

-- where the i-th node lies
abbrev pub place_at : List Ptr → ℕ → Ptr
place_at ps i = slice_index_or ps i null_ptr

-- where the bytes of the i-th node lie, and how many have room there
abbrev pub tail_at : List (Ptr × ℕ) → ℕ → Ptr × ℕ
tail_at ts i = slice_index_or ts i (null_ptr, 0)

module _ (token : Ty → Ptr → Fml) (R : RattleType) where
  -- the node x at p, whose bytes lie at t.0
  abbrev pub node_owns : Ptr → Ptr × ℕ → R.Denot → Fml
  node_owns p t x = fsep (points_to R p x) (way_back token R p t.0 t.1)

  -- the nodes xs, at the places ps
  abbrev pub nodes_own : List Ptr → List (Ptr × ℕ) → List R.Denot → Fml
  nodes_own [] [] [] = ftrue
  nodes_own [] [] (x ∷ xs) = ffalse
  nodes_own [] (t ∷ ts) xs = ffalse
  nodes_own (p ∷ ps) [] xs = ffalse
  nodes_own (p ∷ ps) (t ∷ ts) [] = ffalse
  nodes_own (p ∷ ps) (t ∷ ts) (x ∷ xs) = fsep (node_owns p t x) (nodes_own ps ts xs)

-- what a `&` to them holds
abbrev pub nodes_lent : (R : RattleType) → List Ptr → List R.Denot → Lft → Fml
nodes_lent R [] xs = nothing
nodes_lent R (p ∷ ps) [] = nothing
nodes_lent R (p ∷ ps) (x ∷ xs) = beside (lent_at R p x) (nodes_lent R ps xs)
