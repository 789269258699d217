-- A number is taken from the queue of a launch: its head is behind a flight, and its dependants are told.
use Rattle.fst_heads.proofs.Basics.{◌≡◌, ◌≢◌, ◌≤◌, ◌+◌, ℕ, false, List, [], ◌∷◌, ◌++◌, map, length, get_or, set, AllPairs, Contains, sym, ap, subst, ◌∙◌, inl, arith, get_or-map}
use Rattle.fst_heads.proofs.Words.{Head, HasIndex, Node, node_of, nodes_of, at_number, AreLinked, AreDistinct, max_block, Spreading, CanUpdate, Rises, now, is_recorded, recorded, notified, enqueued}
use Rattle.fst_heads.proofs.{AtNumber.at_index, Going.{rises_way}, Launching.rises_stale, Popping.{number_there, stale_there, once_after, updated_after, room_after, Turn, turned}, Indexed.{node_at_index, rising_indices}, Notifying.last_waits}
use Rattle.fst_heads.proofs.Words.pending

-- the number of the block is small
pub small : (b : ℕ) (nodes : List Node) (blocks : ℕ) (queue : List ℕ) (q : ℕ) → blocks ≤ max_block → Spreading (Rises b) nodes blocks (queue ++ q ∷ []) → b ≤ max_block
small b nodes blocks queue q narrow S =
    let x = last_waits nodes blocks queue q S in
    let lt = S.inside x.0 b x.1 (inl (rises_stale b x.0 (S.moves x.0 x.1) x.3).0) in
    omega (arith, lt, narrow)

module _ (b : ℕ) (heads : List Head) (blocks : ℕ) (queue : List ℕ) (q s : ℕ) (narrow : blocks ≤ max_block)
    (S : Spreading (Rises b) (nodes_of heads) blocks (queue ++ q ∷ [])) (linked : AreLinked (nodes_of heads)) (distinct : AreDistinct (nodes_of heads)) (found : HasIndex heads q s)
    (h : Head) (e : h ≡ get_or heads s h) where
  abbrev pub behind : List Head
  behind = set heads s (record h { pending = pending.Behind b })

  stands_there : (d : Node) → get_or (nodes_of heads) s d ≡ node_of h
  stands_there d = get_or-map node_of heads s h d found.0 ∙ ap node_of (sym e)

  here : (h.pending ≡ pending.Block b) × (now (node_of h) ≡ pending.Behind b)
  here =
      rises_stale b (node_of h)
      (subst (λ x. Rises b x.pending (now x)) (stands_there (node_of h)) (S.moves (get_or (nodes_of heads) s (node_of h)) (node_at_index heads q s (node_of h) found).0))
      (subst (λ x. is_recorded x ≡ false) (stands_there (node_of h)) (stale_there (rises_way b) heads blocks queue q s narrow S linked distinct found (node_of h)))

  pub was : (d : Node) → pending.Block b ≡ (get_or (nodes_of heads) s d).pending
  was d = sym (ap (λ (x : Node). x.pending) (stands_there d) ∙ here.0)

  pub is : (d : Node) → pending.Behind b ≡ now (get_or (nodes_of heads) s d)
  is d = sym (ap now (stands_there d) ∙ here.1)

  pub set_behind : (d : Node) → nodes_of behind ≡ map (at_number (get_or (nodes_of heads) s d).patch.number recorded) (nodes_of heads)
  set_behind d =
      at_index heads q s recorded (record h { pending = pending.Behind b }) h (rising_indices heads S.rising) found (ap (λ p. node_of (record h { pending = p })) (sym here.1) ∙ ap (λ k. recorded (node_of k)) e)
      ∙ ap (λ n. map (at_number n recorded) (nodes_of heads)) (sym (number_there (rises_way b) heads blocks queue q s narrow S linked distinct found d))

  -- what `notify` asks for
  pub once_behind : (d : Node) → AllPairs (λ m n. m ≢ n) (get_or (nodes_of behind) s d).dependants
  once_behind = once_after (rises_way b) heads blocks queue q s narrow S linked distinct found (pending.Block b) (pending.Behind b) (nodes_of behind) was is set_behind

  pub updated_behind : (y d : Node) → Contains (nodes_of behind) y → Contains (get_or (nodes_of behind) s d).dependants y.patch.number → CanUpdate (pending.Block b) y
  updated_behind = updated_after (rises_way b) heads blocks queue q s narrow S linked distinct found (pending.Block b) (pending.Behind b) (nodes_of behind) was is set_behind

  pub room_behind : (d : Node) → length queue + length (enqueued (get_or (nodes_of behind) s d).dependants (pending.Block b) (pending.Behind b) (nodes_of behind)) ≤ length heads
  room_behind = room_after (rises_way b) heads blocks queue q s narrow S linked distinct found (pending.Block b) (pending.Behind b) (nodes_of behind) was is set_behind

  pub turned_behind : (next : List Node) (longer : List ℕ) → ((d : Node) → next ≡ map (notified (get_or (nodes_of behind) s d).dependants (pending.Block b) (pending.Behind b)) (nodes_of behind))
      → ((d : Node) → longer ≡ queue ++ enqueued (get_or (nodes_of behind) s d).dependants (pending.Block b) (pending.Behind b) (nodes_of behind))
      → Turn (rises_way b) heads blocks queue q s narrow S linked distinct found (pending.Block b) (pending.Behind b) (nodes_of behind) was is set_behind next longer
  turned_behind = turned (rises_way b) heads blocks queue q s narrow S linked distinct found (pending.Block b) (pending.Behind b) (nodes_of behind) was is set_behind
