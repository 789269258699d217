-- The indices of groups, and what is noted of one.
use Rattle.std.proofs.Common.{◌≡◌, ◌⊎◌, ◌+◌, ◌<◌, ℕ, zero, suc, cond, eqb, true, false, List, [], ◌∷◌, ◌++◌, set, length, get_or, All, AllPairs, Contains, refl, sym, ap, ◌∙◌, inl, inr, arith}
use Rattle.std.specs.Prelude.{◌↔◌}
use Rattle.std.proofs.lemmas.{Bool.{eq-eqb, ne_eqb}, List.{length-map, length-set, get_or-map}, List.Elements.Contains-push, List.Quantifiers.all_pairs_push}
use Rattle.fst_types.specs.Groups.{Group, IsGroup, IsGroupNumber, IsGroupGate, with_group}
use Rattle.fst_graph.specs.{Gathered.{group_of, groups_of, HasGroupIndex, HasNoGroup}, declared.group.Group.Group as Kept}
use Rattle.fst_types.proofs.{Apart.same_group, Finite.{In-from_Contains, Contains-from_In, In-map}, GateGains.In-unmap}
use Rattle.fst_heads.proofs.Indices.{any_default, some_element}

pub heads_rise : (gs : List Kept) → AllPairs (λ g h. g.head + 1 < h.head) gs → AllPairs (λ g h. g.head < h.head) gs
heads_rise gs apart i j d lt inside = let r = apart i j d lt inside in omega (arith, r)

-- the group that one in the row stands for
kept_of : (gs : List Kept) (g : Group) → Contains (groups_of gs) g → (k : Kept) × Contains gs k × (group_of k ≡ g)
kept_of gs g c = let r = In-unmap group_of gs g (In-from_Contains (groups_of gs) g c) in (r.0, Contains-from_In gs r.0 r.1, r.2)

pub no_group : (gs : List Kept) (n : ℕ) → HasNoGroup gs n → IsGroupNumber (groups_of gs) n → ⊥
no_group gs n none x =
    let k = kept_of gs x.0 x.1.0 in
    none k.1.0 k.0 k.1.1 (ap (λ (y : Kept). y.head) k.1.2 ∙ (ap (λ (g : Group). g.head) k.2 ∙ x.1.1))

-- a group at an index is one of them
pub index_group : (gs : List Kept) (n s : ℕ) (k : Kept) → HasGroupIndex gs n s → k ≡ get_or gs s k → IsGroup (groups_of gs) n (group_of k)
index_group gs n s k index at = (
  Contains-from_In (groups_of gs) (group_of k) (In-map group_of gs k (group_of k) (In-from_Contains gs k (s, index.0, sym at)) refl),
  ap (λ (y : Kept). y.head) at ∙ index.1 k,
)

pub index_number : (gs : List Kept) (n s : ℕ) → HasGroupIndex gs n s → IsGroupNumber (groups_of gs) n
index_number gs n s index =
    let k = get_or gs s (some_element gs s index.0) in
    (group_of k, index_group gs n s k index (any_default gs s (some_element gs s index.0) k index.0))

-- a group past the tails of all stands apart from them
pub apart_push : (gs : List Kept) (k : Kept) → AllPairs (λ g h. g.head + 1 < h.head) gs → All (λ g. g.tail < k.head) (groups_of gs) → AllPairs (λ g h. g.head + 1 < h.head) (gs ++ k ∷ [])
apart_push gs k apart past =
    all_pairs_push (λ (g h : Kept). g.head + 1 < h.head) gs k apart (λ i d lt.
    let r = past i (group_of d) (omega (arith, lt, length-map gs group_of)) in
    let same = ap (λ (g : Group). g.tail) (get_or-map group_of gs i d (group_of d) lt) in
    omega (arith, r, same))

pub told_none : (false ≡ true) ↔ ((m : ℕ) × Contains [] m)
told_none = (λ e. cc, λ h. absurd (omega (arith, h.1)))

-- as contracts see them they are apart too, so that a number is that of one alone
views_apart : (gs : List Kept) → AllPairs (λ g h. g.head + 1 < h.head) gs → AllPairs (λ g h. g.tail < h.head) (groups_of gs)
views_apart gs apart i j d lt inside =
    let many = length-map gs group_of in
    let k = some_element gs j (omega (arith, inside, many)) in
    let r = apart i j k lt (omega (arith, inside, many)) in
    let one = ap (λ (g : Group). g.tail) (get_or-map group_of gs i k d (omega (arith, lt, inside, many))) in
    let other = ap (λ (g : Group). g.head) (get_or-map group_of gs j k d (omega (arith, inside, many))) in
    omega (arith, r, one, other)

pub only_group : (gs : List Kept) (n : ℕ) (g h : Group) → AllPairs (λ x y. x.head + 1 < y.head) gs → IsGroup (groups_of gs) n g → IsGroup (groups_of gs) n h → h ≡ g
only_group gs n g h apart here there =
    same_group (groups_of gs) (views_apart gs apart) (λ x c. let k = kept_of gs x c in sym (ap (λ (y : Group). y.tail) k.2) ∙ ap (λ (y : Group). y.head + 1) k.2) h g there.0 here.0 (there.1 ∙ sym here.1)

-- a gate of a group is its head, or the next number
pub gate_of : (gs : List Kept) (n : ℕ) → IsGroupGate (groups_of gs) n → IsGroupNumber (groups_of gs) n ⊎ ((m : ℕ) × (n ≡ m + 1) × IsGroupNumber (groups_of gs) m)
gate_of gs n x =
    let k = kept_of gs x.0 x.1 in
    elim x.2 [
      | inl e ↦ inl (x.0, (x.1, sym e))
      | inr e ↦ inr (x.0.head, e ∙ (sym (ap (λ (g : Group). g.tail) k.2) ∙ ap (λ (g : Group). g.head + 1) k.2), (x.0, (x.1, refl)))
    ]

pub head_gate : (gs : List Kept) (n : ℕ) → IsGroupNumber (groups_of gs) n → IsGroupGate (groups_of gs) n
head_gate gs n x = (x.0, x.1.0, inl (sym x.1.1))

pub tail_gate : (gs : List Kept) (n m : ℕ) → n ≡ m + 1 → IsGroupNumber (groups_of gs) m → IsGroupGate (groups_of gs) n
tail_gate gs n m next x =
    let k = kept_of gs x.0 x.1.0 in
    let tail : x.0.tail ≡ x.0.head + 1 = sym (ap (λ (g : Group). g.tail) k.2) ∙ ap (λ (g : Group). g.head + 1) k.2 in
    let head = x.1.1 in
    (x.0, x.1.0, inr (omega (arith, next, tail, head)))

-- the test of one group, and the change
abbrev one_group : ℕ → (Group → Group) → Group → Group
one_group n change g = cond (eqb g.head n) (change g) g

pub with_none : (gs : List Kept) (n : ℕ) (change : Group → Group) → HasNoGroup gs n → groups_of gs ≡ with_group (groups_of gs) n change
with_none [] n change none = refl
with_none (g ∷ gs) n change none =
    let first : group_of g ≡ one_group n change (group_of g) = rw (ne_eqb g.head n (none 0 g (omega arith))) refl in
    let rest = with_none gs n change (λ k d lt. none (suc k) d (omega (arith, lt))) in
    cc

pub with_index : (gs : List Kept) (n s : ℕ) (change : Group → Group) (y d : Kept) → AllPairs (λ g h. g.head < h.head) gs → HasGroupIndex gs n s
    → group_of y ≡ change (group_of (get_or gs s d)) → groups_of (set gs s y) ≡ with_group (groups_of gs) n change
with_index [] n s change y d rising index e = absurd (omega (arith, index.0))
with_index (g ∷ gs) n zero change y d rising index e =
    let first : group_of y ≡ one_group n change (group_of g) = e ∙ rw (eq-eqb g.head n (index.1 d)) refl in
    let rest = with_none gs n change (λ k c lt same. let r = rising 0 (suc k) c (omega arith) (omega (arith, lt)) in let here = index.1 d in omega (arith, r, same, here)) in
    cc
with_index (g ∷ gs) n (suc s) change y d rising index e =
    let inside = index.0 in
    let below = rising 0 (suc s) d (omega arith) inside in
    let there = index.1 d in
    let first : group_of g ≡ one_group n change (group_of g) = rw (ne_eqb g.head n (λ same. omega (arith, same, below, there))) refl in
    let rest = with_index gs n s change y d (λ i j c lt b. rising (suc i) (suc j) c (omega (arith, lt)) (omega (arith, b))) (omega (arith, inside), index.1) e in
    cc

-- another with the same number at an index leaves them apart
set_head : (gs : List Kept) (s : ℕ) (y : Kept) → ((d : Kept) → s < length gs → y.head ≡ (get_or gs s d).head) → (i : ℕ) (d : Kept) → i < length gs → (get_or (set gs s y) i d).head ≡ (get_or gs i d).head
set_head [] s y same i d lt = absurd (omega (arith, lt))
set_head (g ∷ gs) zero y same zero d lt = same d (omega arith)
set_head (g ∷ gs) zero y same (suc i) d lt = refl
set_head (g ∷ gs) (suc s) y same zero d lt = refl
set_head (g ∷ gs) (suc s) y same (suc i) d lt = set_head gs s y (λ e inside. same e (omega (arith, inside))) i d (omega (arith, lt))

pub apart_set : (gs : List Kept) (s : ℕ) (y k : Kept) → k ≡ get_or gs s k → y.head ≡ k.head → AllPairs (λ g h. g.head + 1 < h.head) gs → AllPairs (λ g h. g.head + 1 < h.head) (set gs s y)
apart_set gs s y k at same apart i j d lt inside =
    let long : length (set gs s y) ≡ length gs = length-set gs s y in
    let is : (e : Kept) → s < length gs → y.head ≡ (get_or gs s e).head = λ e few. same ∙ ap (λ (h : Kept). h.head) (at ∙ any_default gs s k e few) in
    let first = set_head gs s y is i d (omega (arith, lt, inside, long)) in
    let second = set_head gs s y is j d (omega (arith, inside, long)) in
    let r = apart i j d lt (omega (arith, inside, long)) in
    omega (arith, first, second, r)

-- a change was made for the group
pub told_member : (members : List ℕ) (change : ℕ) → (true ≡ true) ↔ ((m : ℕ) × Contains (members ++ change ∷ []) m)
told_member members change = (λ e. (change, Contains-push members change), λ h. refl)
