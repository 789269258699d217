-- A change of the head at one index, seen as a change of the node with its number.
use Rattle.fst_heads.proofs.Basics.{◌≡◌, ◌≢◌, ℕ, zero, suc, List, [], ◌∷◌, map, get_or, set, refl, sym, ◌∙◌, arith, eq-eqb, ne_eqb}
use Rattle.fst_heads.proofs.Words.{Head, IsRising, patches_of, HasIndex, HasNone, Node, node_of, nodes_of, patches_in, at_number}

pub at_other : (n : ℕ) (f : Node → Node) (x : Node) → x.patch.number ≢ n → at_number n f x ≡ x
at_other n f x ne = rw (ne_eqb x.patch.number n ne) refl

pub at_same : (n : ℕ) (f : Node → Node) (x : Node) → x.patch.number ≡ n → at_number n f x ≡ f x
at_same n f x e = rw (eq-eqb x.patch.number n e) refl

-- where no head has the number all stay
pub at_none : (heads : List Head) (n : ℕ) (f : Node → Node) → HasNone heads n → nodes_of heads ≡ map (at_number n f) (nodes_of heads)
at_none [] n f none = refl
at_none (h ∷ hs) n f none =
    let first = sym (at_other n f (node_of h) (none 0 h (omega arith))) in
    let rest = at_none hs n f (λ k d lt. none (suc k) d (omega (arith, lt))) in
    cc

pub at_index : (heads : List Head) (n s : ℕ) (f : Node → Node) (y d : Head) → IsRising heads → HasIndex heads n s
    → node_of y ≡ f (node_of (get_or heads s d))
    → nodes_of (set heads s y) ≡ map (at_number n f) (nodes_of heads)
at_index [] n s f y d rising index e = absurd (omega (arith, index.0))
at_index (h ∷ hs) n zero f y d rising index e =
    let first : node_of y ≡ at_number n f (node_of h) = e ∙ sym (at_same n f (node_of h) (index.1 d)) in
    let rest = at_none hs n f (λ k c lt same. let r = rising 0 (suc k) c (omega arith) (omega (arith, lt)) in let here = index.1 d in omega (arith, r, same, here)) in
    cc
at_index (h ∷ hs) n (suc s) f y d rising index e =
    let inside = index.0 in
    let below = rising 0 (suc s) d (omega arith) inside in
    let first = sym (at_other n f (node_of h) (λ same. omega (arith, same, below, index.1 d))) in
    let rest = at_index hs n s f y d (λ i j c lt b. rising (suc i) (suc j) c (omega (arith, lt)) (omega (arith, b))) (omega (arith, inside), index.1) e in
    cc

pub patches_in_nodes : (heads : List Head) → patches_in (nodes_of heads) ≡ patches_of heads
patches_in_nodes [] = refl
patches_in_nodes (h ∷ hs) = let rest = patches_in_nodes hs in cc
