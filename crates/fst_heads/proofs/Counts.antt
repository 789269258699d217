-- What the counts of a block say of its patches.
use Rattle.fst_heads.proofs.Basics.{◌≡◌, ℕ, List, length, count_by, arith, cases_Bool, length-map, length-filter, common_steps}
use Rattle.fst_heads.proofs.Words.{Head, patches_of, flying_on, Node, nodes_of, is_ready_on, is_held_on, is_flying_on, held_on, ready_on}

-- as many are held as are counted
pub held_counted : (b : ℕ) (nodes : List Node) → length (held_on b nodes) ≡ count_by (is_held_on b) nodes
held_counted b nodes = grind (arith, length-map, length-filter)

-- and as many are ready
pub ready_counted : (b : ℕ) (nodes : List Node) → length (ready_on b nodes) ≡ count_by (is_ready_on b) nodes
ready_counted b nodes = grind (arith, length-map, length-filter)

-- as many fly as are counted
pub flying_counted : (b : ℕ) (heads : List Head) → length (flying_on b (patches_of heads)) ≡ count_by (is_flying_on b) (nodes_of heads)
flying_counted b heads = grind (arith, common_steps, length-map, length-filter, cases_Bool)
