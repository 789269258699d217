-- A number is taken from the queue of a cascade: its head is settled, and its dependants are told.
use Rattle.fst_heads.proofs.Basics.{◌≡◌, ◌≢◌, ◌+◌, ◌<◌, ◌≤◌, ℕ, false, List, [], ◌∷◌, ◌++◌, length, map, get_or, Contains, AllPairs, length-append, sym, ap, subst, ◌∙◌, arith, length-map, get_or-map}
use Rattle.fst_heads.proofs.Patches.{IsCascadeOf}
use Rattle.fst_heads.proofs.Words.{Head, Pending, patches_of, HasIndex, Node, node_of, nodes_of, patches_in, at_number, AreLinked, AreDistinct, Fits, max_block, Spreading, IsSpreadOf, CanUpdate, now, is_recorded, recorded, notified, enqueued, pending_in, IsRisenOf}
use Rattle.fst_heads.proofs.{AtNumber.{at_same, patches_in_nodes}, Indices.some_element, Indexed.{node_at_index, node_is, rising_indices}}
use Rattle.fst_heads.proofs.{Starting.cascaded_spread, Carried.{linked_spread, distinct_spread}}
use Rattle.fst_heads.proofs.Notifying.{spreading_fits, queue_fits, last_waits, live, can_update, spreads_on, spread_of, each_goes, risen, nearer}
use Rattle.fst_heads.proofs.{Going.OneWay, Waiting.distance}
use Rattle.fst_heads.proofs.Words.pending

module _ {goes : Pending → Pending → Type 0} {far : Pending → ℕ} (way : OneWay goes far) (heads : List Head) (blocks : ℕ) (queue : List ℕ) (q s : ℕ) (narrow : blocks ≤ max_block)
    (S : Spreading goes (nodes_of heads) blocks (queue ++ q ∷ [])) (linked : AreLinked (nodes_of heads)) (distinct : AreDistinct (nodes_of heads)) (found : HasIndex heads q s) where
  abbrev nodes : List Node
  nodes = nodes_of heads

  abbrev settled : List Node
  settled = map (at_number q recorded) nodes

  -- the node that is settled
  abbrev here : Node
  here = node_of (get_or heads s (some_element heads s found.0))

  stands_there : (d : Node) → get_or nodes s d ≡ here
  stands_there d = get_or-map node_of heads s (some_element heads s found.0) d found.0

  here_in : Contains nodes here
  here_in = subst (Contains nodes) (stands_there here) (node_at_index heads q s here found).0

  here_number : here.patch.number ≡ q
  here_number = found.1 (some_element heads s found.0)

  pub number_there : (d : Node) → (get_or nodes s d).patch.number ≡ q
  number_there d = ap (λ (x : Node). x.patch.number) (stands_there d) ∙ here_number

  pub fits_there : (d : Node) → Fits (get_or nodes s d).sums
  fits_there d = spreading_fits nodes blocks (queue ++ q ∷ []) narrow S (get_or nodes s d) (node_at_index heads q s d found).0

  pub stale_there : (d : Node) → is_recorded (get_or nodes s d) ≡ false
  stale_there d =
      let x = last_waits nodes blocks queue q S in
      subst (λ y. is_recorded y ≡ false) (sym (node_is heads q s x.0 d (rising_indices heads S.rising) found x.1 x.2)) x.3

  -- settle_at settles it
  module _ (was is : Pending) (after : List Node) (old : (d : Node) → was ≡ (get_or nodes s d).pending) (new : (d : Node) → is ≡ now (get_or nodes s d))
      (settled : (d : Node) → after ≡ map (at_number (get_or nodes s d).patch.number recorded) nodes) where
    pub after_is : after ≡ map (at_number q recorded) nodes
    after_is = settled here ∙ ap (λ n. map (at_number n recorded) nodes) (number_there here)

    was_is : was ≡ here.pending
    was_is = old here ∙ ap (λ (x : Node). x.pending) (stands_there here)

    is_now : is ≡ now here
    is_now = new here ∙ ap now (stands_there here)

    row_after : (d : Node) → (get_or after s d).dependants ≡ here.dependants
    row_after d =
        ap (λ ns. (get_or ns s d).dependants) after_is
        ∙ ap (λ (x : Node). x.dependants) (get_or-map (at_number q recorded) nodes s d d (omega (arith, found.0, length-map heads node_of)) ∙ (ap (at_number q recorded) (stands_there d) ∙ at_same q recorded here here_number))

    -- what `notify` asks for
    pub once_after : (d : Node) → AllPairs (λ m n. m ≢ n) (get_or after s d).dependants
    once_after d = subst (λ ms. AllPairs (λ m n. m ≢ n) ms) (sym (row_after d)) (distinct here here_in).1

    pub live_after : was ≢ pending.Nothing
    live_after e = live way nodes blocks queue q here narrow S linked distinct here_in here_number (sym was_is ∙ e)

    pub updated_after : (y d : Node) → Contains after y → Contains (get_or after s d).dependants y.patch.number → CanUpdate was y
    updated_after y d c named =
        subst (λ p. CanUpdate p y) (sym was_is)
        (can_update way nodes blocks queue q here narrow S linked distinct here_in here_number y (subst (λ ns. Contains ns y) after_is c) (subst (λ ms. Contains ms y.patch.number) (row_after d) named))

    abbrev told : List Node
    told = map (notified here.dependants here.pending (now here)) (map (at_number q recorded) nodes)

    told_after : (d : Node) → map (notified (get_or after s d).dependants was is) after ≡ told
    told_after d = grind (arith, row_after, was_is, is_now, after_is)

    enqueued_after : (d : Node) → enqueued (get_or after s d).dependants was is after ≡ enqueued here.dependants here.pending (now here) (map (at_number q recorded) nodes)
    enqueued_after d = grind (arith, row_after, was_is, is_now, after_is)

    spreads : Spreading goes told blocks (queue ++ enqueued here.dependants here.pending (now here) (map (at_number q recorded) nodes))
    spreads = spreads_on way nodes blocks queue q here narrow S linked distinct here_in here_number

    pub room_after : (d : Node) → length queue + length (enqueued (get_or after s d).dependants was is after) ≤ length heads
    room_after d =
        let fits = queue_fits told blocks (queue ++ enqueued here.dependants here.pending (now here) (map (at_number q recorded) nodes)) spreads in
        let long = length-map (map (at_number q recorded) nodes) (notified here.dependants here.pending (now here)) ∙ (length-map nodes (at_number q recorded) ∙ length-map heads node_of) in
        omega (arith, fits, length-append queue (enqueued here.dependants here.pending (now here) (map (at_number q recorded) nodes)), long, ap length (enqueued_after d))

    -- what stands after it
    pub record Turn (next : List Node) (longer : List ℕ) : Type 0 where
      pub spreading : Spreading goes next blocks longer
      pub spread : IsSpreadOf nodes next
      pub each_goes : (n : ℕ) → goes (pending_in nodes n) (pending_in next n)
      pub risen : ((p : Pending) → goes p pending.Nothing → p ≡ pending.Nothing) → IsRisenOf nodes next
      pub are_linked : AreLinked next
      pub are_distinct : AreDistinct next
      pub falls : distance far next < distance far nodes

    pub turned : (next : List Node) (longer : List ℕ) → ((d : Node) → next ≡ map (notified (get_or after s d).dependants was is) after) → ((d : Node) → longer ≡ queue ++ enqueued (get_or after s d).dependants was is after) → Turn next longer
    turned next longer ns qs =
        let same : next ≡ told = ns here ∙ told_after here in
        let more : longer ≡ queue ++ enqueued here.dependants here.pending (now here) (map (at_number q recorded) nodes) = qs here ∙ ap (λ ms. queue ++ ms) (enqueued_after here) in
        let spread = spread_of way nodes blocks queue q here narrow S linked distinct here_in here_number in
        rw (same, more) (record {
          spreading = spreads;
          spread = spread;
          each_goes = each_goes way nodes blocks queue q here narrow S linked distinct here_in here_number;
          risen = risen way nodes blocks queue q here narrow S linked distinct here_in here_number;
          are_linked = linked_spread nodes told spread linked;
          are_distinct = distinct_spread nodes told spread distinct;
          falls = nearer way nodes blocks queue q here narrow S linked distinct here_in here_number;
        })

pub cascaded_heads : {goes : Pending → Pending → Type 0} (old new : List Head) (blocks : ℕ) → Spreading goes (nodes_of new) blocks [] → IsSpreadOf (nodes_of old) (nodes_of new) → IsCascadeOf (patches_of old) (patches_of new)
cascaded_heads old new blocks S spread =
    subst (λ ps. IsCascadeOf ps (patches_of new)) (patches_in_nodes old)
    (subst (λ ps. IsCascadeOf (patches_in (nodes_of old)) ps) (patches_in_nodes new) (cascaded_spread (nodes_of old) (nodes_of new) blocks S spread))
