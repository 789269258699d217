-- What is pending of the head at an index, and the node that it stands for.
use Rattle.fst_heads.proofs.Basics.{◌≡◌, ◌<◌, ◌+◌, ◌++◌, ◌∷◌, [], ℕ, zero, suc, List, length, get_or, take, Contains, refl, sym, ap, ◌∙◌, arith, eq-eqb, ne_eqb, ◌≤◌, drop, take_more, take-append-drop, SmallVec}
use Rattle.fst_heads.proofs.Patches.{Contains-from_In, In-map}
use Rattle.fst_heads.proofs.Words.{Head, Pending, Sums, IsRising, HasIndex, HasNone, Node, node_of, nodes_of, pending_in, gains_names, join, joined, plus, sums_of, together}
use Rattle.fst_heads.proofs.{Indices.index_head, Indexed.number_in, Sums.{joined_push, sums_append, sums_push}}
use Rattle.fst_heads.proofs.Words.pending

-- where no head has the number nothing is pending
pub pending_none : (heads : List Head) (n : ℕ) → HasNone heads n → pending_in (nodes_of heads) n ≡ pending.Nothing
pending_none [] n none = refl
pending_none (h ∷ hs) n none = rw (ne_eqb h.number n (none 0 h (omega arith))) (pending_none hs n (λ k d lt. none (suc k) d (omega (arith, lt))))

pub pending_index : (heads : List Head) (n s : ℕ) (d : Head) → IsRising heads → HasIndex heads n s → pending_in (nodes_of heads) n ≡ (get_or heads s d).pending
pending_index [] n s d rising index = absurd (omega (arith, index.0))
pending_index (h ∷ hs) n zero d rising index = rw (eq-eqb h.number n (index.1 d)) refl
pending_index (h ∷ hs) n (suc s) d rising index =
    let inside = index.0 in
    let below = rising 0 (suc s) d (omega arith) inside in
    rw (ne_eqb h.number n (λ same. omega (arith, same, below, index.1 d)))
    (pending_index hs n s d (λ i j c lt b. rising (suc i) (suc j) c (omega (arith, lt)) (omega (arith, b))) (omega (arith, inside), index.1))

-- the node of the head at an index
pub node_in : (heads : List Head) (s : ℕ) (h : Head) → s < length heads → h ≡ get_or heads s h → Contains (nodes_of heads) (node_of h)
node_in heads s h lt e = Contains-from_In (nodes_of heads) _ (In-map node_of heads (get_or heads s h) _ (index_head heads s h lt) (ap node_of (sym e)))

-- and what holds of every node with a number holds of that of the head at its index
pub holds_at : {P : Node → Type 0} (heads : List Head) (n s : ℕ) (h : Head) → HasIndex heads n s → h ≡ get_or heads s h → ((x : Node) → Contains (nodes_of heads) x → x.patch.number ≡ n → P x) → P (node_of h)
holds_at heads n s h index e all = all (node_of h) (node_in heads s h index.0 e) (number_in heads n s h index e)

-- a head with the names besides, and what they add up to
pub gained_node : (h : Head) (more : SmallVec ℕ) (names : List ℕ) (sums both : Sums) → more.items ≡ h.dependencies.items ++ names → both ≡ together h.sums sums
    → node_of (record h { dependencies = more; sums = both }) ≡ gains_names names sums (node_of h)
gained_node h more names sums both e f = rw (e, f) refl

-- the sums of a row as far as it is read
pub sums_more : (told : ℕ → Pending) (row : List ℕ) (i d : ℕ) → i < length row → sums_of told (take (i + 1) row) ≡ plus (told (get_or row i d)) (sums_of told (take i row))
sums_more told row i d lt = ap (sums_of told) (take_more row i d lt) ∙ sums_push told (take i row) (get_or row i d)

-- and what is pending of it as far
pub joined_more : (told : ℕ → Pending) (row : List ℕ) (i d : ℕ) → i < length row → joined told (take (i + 1) row) ≡ join (told (get_or row i d)) (joined told (take i row))
joined_more told row i d lt = ap (joined told) (take_more row i d lt) ∙ joined_push told (take i row) (get_or row i d)

-- that counts no more than the whole row
pub count_more : (told : ℕ → Pending) (row : List ℕ) (i d : ℕ) → i < length row → (plus (told (get_or row i d)) (sums_of told (take i row))).count ≤ (sums_of told row).count
count_more told row i d lt =
    let whole = ap (λ r. (sums_of told r).count) (sym (take-append-drop (i + 1) row)) ∙ ap (λ s. s.count) (sums_append told (take (i + 1) row) (drop (i + 1) row)) in
    omega (arith, whole, ap (λ s. s.count) (sums_more told row i d lt))
