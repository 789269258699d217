-- When the nodes of a heap are linked both ways, and what they say to the outside.
use Rattle.std.specs.Prelude.{◌≡◌, ℕ, List, map, length, slice_set, Option, None}
use denote.RawPtr.{Ptr}
use Rattle.std_alloc.specs.Vec.{vec_ptr, vec_capacity}
use Rattle.fst_chain.specs.declared.heap.Place.{Place}
use Rattle.fst_chain.specs.declared.node.Node.{Node}
use Rattle.fst_chain.specs.Linked.{first, last_or, nexts, prevs}

module _ {X : Type 0} where
  -- the record and the payload of a node
  abbrev pub record_of : Node X → X × List ℕ
  record_of n = (n.item, n.payload.items)

  abbrev pub records : List (Node X) → List (X × List ℕ)
  records = map record_of

  -- where the payload of a node lies, and how many bytes have room there
  abbrev pub tail_of : Node X → Ptr × ℕ
  tail_of n = (vec_ptr n.payload, vec_capacity n.payload)

  abbrev pub tails_of : List (Node X) → List (Ptr × ℕ)
  tails_of = map tail_of

  -- the nodes at these places are linked both ways, from head and from tail
  pub record IsChain (head tail : Option Place) (len : ℕ) (places : List Ptr) (nodes : List (Node X)) : Type 0 where
    pub count : len ≡ length nodes
    pub placed : length places ≡ length nodes
    pub from_head : head ≡ first places
    pub from_tail : tail ≡ last_or None places
    pub forward : map (λ n. n.next) nodes ≡ nexts places
    pub backward : map (λ n. n.prev) nodes ≡ prevs None places

  -- ys are the nodes xs, but that the `next` of the i-th is a
  pub record NextSet (xs ys : List (Node X)) (i : ℕ) (a : Option Place) : Type 0 where
    pub next : map (λ n. n.next) ys ≡ slice_set (map (λ n. n.next) xs) i a
    pub prev : map (λ n. n.prev) ys ≡ map (λ n. n.prev) xs
    pub same : records ys ≡ records xs
    pub tails : tails_of ys ≡ tails_of xs

  -- ys are the nodes xs, but that the `prev` of the i-th is a
  pub record PrevSet (xs ys : List (Node X)) (i : ℕ) (a : Option Place) : Type 0 where
    pub next : map (λ n. n.next) ys ≡ map (λ n. n.next) xs
    pub prev : map (λ n. n.prev) ys ≡ slice_set (map (λ n. n.prev) xs) i a
    pub same : records ys ≡ records xs
    pub tails : tails_of ys ≡ tails_of xs
