-- What is launched is what is ready of a writable block.
use Rattle.std.proofs.Common.{◌≡◌, ◌<◌, ◌==◌, ◌∙◌, ℕ, if◌then◌else◌, List, [], ◌∷◌, Some, None, slice_get, length, map, get_or, set, Contains, refl, sym, ap, subst, arith}
use Rattle.fst_types.specs.{Facts.SparseAreLawful, Patches.{Patch, block_of_kind}, Writable.{IsWritable, IsWritableSet}, declared.number.PatchNo.PatchNo}
use Rattle.fst_heads.specs.{Keeps.{IsInside, Tallies}, Lists.Entry, Names.numbers_of, Nodes.{Node, patches_in, AreSettled}, Spreading.{IsRisenOf, launches}, Standings.{held_on, ready_on, sent}, declared.standing.Standing.Standing}
use Rattle.fst_types.proofs.OneList.{lists_same}
use Rattle.fst_levels.proofs.Ready.{ready_exact}
use Rattle.fst_graph.proofs.{Marking.writable_rests, Tallied.tallies_launched}

-- of one block there is one writable set
same_set : (patches : List Patch) (b : ℕ) (xs ys : List ℕ) → IsWritableSet patches b xs → IsWritableSet patches b ys → xs ≡ ys
same_set patches b xs ys X Y = lists_same _ _ xs ys X Y (λ n w. w) (λ n w. w)

-- a writable block has something to launch
pub some_chosen : (patches : List Patch) (b : ℕ) (chosen : List ℕ) → IsWritable patches b → IsWritableSet patches b chosen → length chosen ≡ 0 → ⊥
some_chosen patches b chosen writable choice none =
    let c = choice.each writable.some.0.number (writable.some.0, refl, writable.some.1) in
    omega (arith, c.1, none)

-- what is chosen is a change of the block
pub chosen_on : (patches : List Patch) (b : ℕ) (chosen : List ℕ) (n : ℕ) → IsWritableSet patches b chosen → Contains chosen n
    → (p : Patch) × Contains patches p × (p.number ≡ n) × (block_of_kind p.kind ≡ Some b)
chosen_on patches b chosen n choice c =
    let w = choice.only n c in
    (w.0, w.2.in_memory.head, w.1, w.2.in_memory.change)

-- what is chosen is what is ready
pub chosen_ready : (nodes : List Node) (numbers blocks b : ℕ) (chosen : List ℕ) → SparseAreLawful (patches_in nodes) numbers → AreSettled nodes blocks → IsWritableSet (patches_in nodes) b chosen → chosen ≡ ready_on b nodes
chosen_ready nodes numbers blocks b chosen H S choice = same_set (patches_in nodes) b chosen (ready_on b nodes) choice (ready_exact nodes numbers blocks H S b)

pub tallies_chosen : (nodes new : List Node) (numbers blocks b : ℕ) (lists : List (List Entry)) (standings : List Standing) (queue : List ℕ) (cap : ℕ) (chosen : List ℕ) (old now : Standing)
    → SparseAreLawful (patches_in nodes) numbers → SparseAreLawful (patches_in new) numbers
    → IsInside (patches_in nodes) blocks → Tallies nodes numbers blocks lists standings queue cap
    → IsWritable (patches_in nodes) b → chosen ≡ ready_on b nodes
    → old ≡ get_or standings b old → now ≡ sent old
    → IsRisenOf (map (launches chosen) nodes) new → AreSettled new blocks
    → ((c : ℕ) → ready_on c new ≡ (if c == b then [] else ready_on c nodes)) → ((c : ℕ) → held_on c new ≡ held_on c nodes)
    → Tallies new numbers blocks lists (set standings b now) [] cap
tallies_chosen nodes new numbers blocks b lists standings queue cap chosen old now H H' inside T writable same was is risen settled ready held =
    let rests = writable_rests nodes blocks b standings old inside T.standing writable in
    let value = is ∙ ap sent was in
    subst (λ s. Tallies new numbers blocks lists (set standings b s) [] cap) (sym value)
    (tallies_launched nodes new numbers blocks b lists standings old queue cap H H' T rests.0 rests.1 (subst (λ ns. IsRisenOf (map (launches ns) nodes) new) same risen) settled ready held)

-- the first of the chosen is among them
pub first_named : (chosen : List PatchNo) (first : PatchNo) → 0 < length chosen → ((d : PatchNo) → first ≡ get_or chosen 0 d) → Contains (numbers_of chosen) first.0
first_named [] first lt is = absurd (omega (arith, lt))
first_named (n ∷ ns) first lt is = (0, omega arith, ap (λ (m : PatchNo). m.0) (sym (is first)))

-- where there is no first there is none
pub none_first : (chosen : List PatchNo) → None ≡ slice_get chosen 0 → length (numbers_of chosen) ≡ 0
none_first [] e = refl
none_first (n ∷ ns) e = absurd (cc)

-- the block of the first is the block
pub block_found : (patches : List Patch) (b at : ℕ) (chosen : List ℕ) (n : ℕ) → IsWritableSet patches b chosen → Contains chosen n
    → ((p : Patch) → Contains patches p → p.number ≡ n → Some at ≡ block_of_kind p.kind) → at ≡ b
block_found patches b at chosen n choice c found =
    let on = chosen_on patches b chosen n choice c in
    let e = found on.0 on.1 on.2 ∙ on.3 in
    cc

-- and it has one
pub block_some : (patches : List Patch) (b : ℕ) (chosen : List ℕ) (n : ℕ) → IsWritableSet patches b chosen → Contains chosen n
    → ((p : Patch) → Contains patches p → p.number ≡ n → None ≡ block_of_kind p.kind) → ⊥
block_some patches b chosen n choice c found =
    let on = chosen_on patches b chosen n choice c in
    let e : None ≡ Some b = found on.0 on.1 on.2 ∙ on.3 in
    absurd (cc)
