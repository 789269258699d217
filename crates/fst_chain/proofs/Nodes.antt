-- One node out of a heap, and a node back in its place. Assumes `Logic`.
use Rattle.std.proofs.Common.{◌≡◌, ℕ, zero, suc, ◌<◌, List, [], ◌∷◌, ◌++◌, length, slice_index_or, slice_set, refl, arith}
use seplogic.Ra.Ura.{Ura}
use mir.Syntax.{Ty}
use base.Logic.{SProp, ent, sep, never_e, id⊢, via, snd∗}
use base.Fml.{Fml, ffalse, fsep}
use types.Logic.{Logic, sem}
use types.Kit.{‵, ◌⊛◌, ◌$◌, ◌∵◌, !, qed, move, use1, use2, split, fsplit, fjoin, done}
use denote.RattleType.{RattleType}
use denote.RawPtr.{Ptr}
use Rattle.fst_chain.specs.Held.{node_owns, nodes_own, place_at, tail_at}
use Rattle.fst_chain.specs.Records.{without}

pub less : (n i : ℕ) → suc i < suc n → i < n
less n i lt = omega (arith, lt)

module _ {X : Type 0} where
  -- the i-th item
  unfoldable pub item_in : (xs : List X) (i : ℕ) → i < length xs → X
  item_in [] i lt = absurd (omega (arith, lt))
  item_in (x ∷ xs) zero lt = x
  item_in (x ∷ xs) (suc i) lt = item_in xs i (less (length xs) i lt)

  pub item_in-is : (xs : List X) (i : ℕ) (lt : i < length xs) (d : X) → item_in xs i lt ≡ slice_index_or xs i d
  unfolding item_in
  item_in-is [] i lt d = absurd (omega (arith, lt))
  item_in-is (x ∷ xs) zero lt d = refl
  item_in-is (x ∷ xs) (suc i) lt d = item_in-is xs i (less (length xs) i lt) d

module _ (token : Ty → Ptr → Fml) (R : RattleType) where
  -- the nodes but for the i-th
  abbrev pub Besides : ℕ → List Ptr → List (Ptr × ℕ) → List R.Denot → Fml
  Besides i [] ts xs = ffalse
  Besides i (p ∷ ps) [] xs = ffalse
  Besides i (p ∷ ps) (t ∷ ts) [] = ffalse
  Besides zero (p ∷ ps) (t ∷ ts) (x ∷ xs) = nodes_own token R ps ts xs
  Besides (suc i) (p ∷ ps) (t ∷ ts) (x ∷ xs) = fsep (node_owns token R p t x) (Besides i ps ts xs)

  module _ {M : Type 1} {𝓤 : Ura M} (𝓛 : Logic 𝓤) where
    pub node_out : (i : ℕ) (ps : List Ptr) (ts : List (Ptr × ℕ)) (xs : List R.Denot) (lt : i < length xs)
        → ent 𝓤 (sem 𝓛 (nodes_own token R ps ts xs)) (sep 𝓤 (sem 𝓛 (node_owns token R (place_at ps i) (tail_at ts i) (item_in xs i lt))) (sem 𝓛 (Besides i ps ts xs)))
    unfolding item_in
    node_out i [] [] [] lt = absurd (omega (arith, lt))
    node_out i [] [] (x ∷ xs) lt = never_e 𝓤 _
    node_out i [] (t ∷ ts) xs lt = never_e 𝓤 _
    node_out i (p ∷ ps) [] xs lt = never_e 𝓤 _
    node_out i (p ∷ ps) (t ∷ ts) [] lt = never_e 𝓤 _
    node_out zero (p ∷ ps) (t ∷ ts) (x ∷ xs) lt = id⊢ 𝓤 _
    node_out (suc i) (p ∷ ps) (t ∷ ts) (x ∷ xs) lt = let fewer : i < length xs = less (length xs) i lt in
        qed 𝓛 (‵ (nodes_own token R (p ∷ ps) (t ∷ ts) (x ∷ xs)) ∷ []) ∵ fsplit ! $ move ! (1 ∷ []) $
        use1 𝓛 (‵ (node_owns token R (place_at ps i) (tail_at ts i) (item_in xs i fewer)) ⊛ ‵ (Besides i ps ts xs)) (node_out i ps ts xs fewer) $ split ! $ move ! (2 ∷ 1 ∷ []) $ fjoin ! $ move ! (1 ∷ 0 ∷ []) $ done !

    no_node : (P : Fml) {Q : SProp 𝓤} → ent 𝓤 (sep 𝓤 (sem 𝓛 P) (sem 𝓛 ffalse)) Q
    no_node P = via 𝓤 (sem 𝓛 ffalse) (snd∗ 𝓤 (sem 𝓛 P) (sem 𝓛 ffalse)) (never_e 𝓤 _)

    pub node_in : (i : ℕ) (ps : List Ptr) (ts : List (Ptr × ℕ)) (xs : List R.Denot) (w : R.Denot)
        → ent 𝓤 (sep 𝓤 (sem 𝓛 (node_owns token R (place_at ps i) (tail_at ts i) w)) (sem 𝓛 (Besides i ps ts xs))) (sem 𝓛 (nodes_own token R ps ts (slice_set xs i w)))
    node_in i [] ts xs w = no_node (node_owns token R (place_at [] i) (tail_at ts i) w)
    node_in i (p ∷ ps) [] xs w = no_node (node_owns token R (place_at (p ∷ ps) i) (tail_at [] i) w)
    node_in i (p ∷ ps) (t ∷ ts) [] w = no_node (node_owns token R (place_at (p ∷ ps) i) (tail_at (t ∷ ts) i) w)
    node_in zero (p ∷ ps) (t ∷ ts) (x ∷ xs) w = id⊢ 𝓤 _
    node_in (suc i) (p ∷ ps) (t ∷ ts) (x ∷ xs) w =
        qed 𝓛 (‵ (node_owns token R (place_at ps i) (tail_at ts i) w) ∷ ‵ (fsep (node_owns token R p t x) (Besides i ps ts xs)) ∷ []) ∵ move ! (1 ∷ []) $ fsplit ! $ move ! (2 ∷ 1 ∷ []) $
        use2 𝓛 (‵ (nodes_own token R ps ts (slice_set xs i w))) (node_in i ps ts xs w) $ move ! (1 ∷ []) $ fjoin ! $ done !

    pub node_gone : (i : ℕ) (ps : List Ptr) (ts : List (Ptr × ℕ)) (xs : List R.Denot)
        → ent 𝓤 (sem 𝓛 (Besides i ps ts xs)) (sem 𝓛 (nodes_own token R (without ps i) (without ts i) (without xs i)))
    node_gone i [] ts xs = never_e 𝓤 _
    node_gone i (p ∷ ps) [] xs = never_e 𝓤 _
    node_gone i (p ∷ ps) (t ∷ ts) [] = never_e 𝓤 _
    node_gone zero (p ∷ ps) (t ∷ ts) (x ∷ xs) = id⊢ 𝓤 _
    node_gone (suc i) (p ∷ ps) (t ∷ ts) (x ∷ xs) =
        qed 𝓛 (‵ (fsep (node_owns token R p t x) (Besides i ps ts xs)) ∷ []) ∵ fsplit ! $ move ! (1 ∷ []) $
        use1 𝓛 (‵ (nodes_own token R (without ps i) (without ts i) (without xs i))) (node_gone i ps ts xs) $ move ! (1 ∷ []) $ fjoin ! $ done !

    pub node_new : (ps : List Ptr) (ts : List (Ptr × ℕ)) (xs : List R.Denot) (p : Ptr) (t : Ptr × ℕ) (x : R.Denot)
        → ent 𝓤 (sep 𝓤 (sem 𝓛 (node_owns token R p t x)) (sem 𝓛 (nodes_own token R ps ts xs))) (sem 𝓛 (nodes_own token R (ps ++ p ∷ []) (ts ++ t ∷ []) (xs ++ x ∷ [])))
    node_new [] [] [] p t x = id⊢ 𝓤 _
    node_new [] [] (y ∷ ys) p t x = no_node (node_owns token R p t x)
    node_new [] (s ∷ ss) ys p t x = no_node (node_owns token R p t x)
    node_new (q ∷ qs) [] ys p t x = no_node (node_owns token R p t x)
    node_new (q ∷ qs) (s ∷ ss) [] p t x = no_node (node_owns token R p t x)
    node_new (q ∷ qs) (s ∷ ss) (y ∷ ys) p t x =
        qed 𝓛 (‵ (node_owns token R p t x) ∷ ‵ (nodes_own token R (q ∷ qs) (s ∷ ss) (y ∷ ys)) ∷ []) ∵ move ! (1 ∷ []) $ fsplit ! $ move ! (2 ∷ 1 ∷ []) $
        use2 𝓛 (‵ (nodes_own token R (qs ++ p ∷ []) (ss ++ t ∷ []) (ys ++ x ∷ []))) (node_new qs ss ys p t x) $ move ! (1 ∷ []) $ fjoin ! $ done !
