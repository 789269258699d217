-- The head at one index hears of another patch, and all that have a number of a row do.
use Rattle.fst_heads.proofs.Basics.{◌≡◌, ◌≢◌, ℕ, zero, suc, ◌+◌, ◌<◌, ◌==◌, ◌&&◌, Bool, true, false, if◌then◌else◌, List, [], ◌∷◌, ◌++◌, length, map, take, drop, get_or, Contains, AllPairs, append-nil, length-append, refl, sym, ap, subst, ◌∙◌, inl, inr, arith, list_any, cases_eq, and_from, eq-eqb, ne_eqb}
use Rattle.fst_heads.proofs.Basics.{common_steps, length-map, get_or-map, take_more, take-append-drop, filter-append, list_any-from_Any}
use Rattle.fst_heads.proofs.Patches.{is_among, In, In-from_Contains, Contains-from_In, In-map, In-unmap}
use Rattle.fst_heads.proofs.Words.{Head, Pending, IsRising, HasIndex, HasNone, Node, node_of, nodes_of, at_number, plus, minus, follows, rested, updated, enqueues, notified, enqueued}
use Rattle.fst_heads.proofs.{AtNumber.{at_same, at_other}, Listing.{any_index, any_none}}
use Rattle.fst_heads.proofs.Linking.{map_twice, none_among, among_push_other, among_push_same}
use Rattle.fst_heads.proofs.Indices.{any_default, some_element, index_head, index_unique, rising_back}
use Rattle.fst_heads.proofs.Patches.place

-- what rests keeps all but its place
module _ (x : Node) where
  abbrev to_disk : Bool → Node
  to_disk b = if b then record x { patch = record x.patch { place = place.Disk } } else x

  record IsAlike (y : Node) : Type 0 where
    number : y.patch.number ≡ x.patch.number
    sums : y.sums ≡ x.sums
    dependants : y.dependants ≡ x.dependants

  to_disk_keeps : (b : Bool) → IsAlike (to_disk b)
  to_disk_keeps true = record { number = refl; sums = refl; dependants = refl }
  to_disk_keeps false = record { number = refl; sums = refl; dependants = refl }

  rested_keeps : IsAlike (rested x)
  rested_keeps = to_disk_keeps (follows x.patch.kind && (x.sums.count == 0))

  pub rested_sums : (rested x).sums ≡ x.sums
  rested_sums = rested_keeps.sums

-- those that hear keep their numbers and their dependants
notified_keeps : (b : Bool) (old new : Pending) (x : Node) → record { number : (if b then updated old new x else x).patch.number ≡ x.patch.number; dependants : (if b then updated old new x else x).dependants ≡ x.dependants }
notified_keeps true old new x = let k = rested_keeps (record x { sums = plus new (minus old x.sums) }) in record { number = k.number; dependants = k.dependants }
notified_keeps false old new x = record { number = refl; dependants = refl }

notified_number : (row : List ℕ) (old new : Pending) (x : Node) → (notified row old new x).patch.number ≡ x.patch.number
notified_number row old new x = (notified_keeps (is_among row x.patch.number) old new x).number

notified_dependants : (row : List ℕ) (old new : Pending) (x : Node) → (notified row old new x).dependants ≡ x.dependants
notified_dependants row old new x = (notified_keeps (is_among row x.patch.number) old new x).dependants

notified_other : (row : List ℕ) (old new : Pending) (x : Node) → is_among row x.patch.number ≡ false → notified row old new x ≡ x
notified_other row old new x e = rw e refl

-- the queue gets no number that passes nowhere
pub waits_none : (heads : List Head) (n : ℕ) (p : Node → Bool) (queue : List ℕ) → HasNone heads n
    → queue ≡ queue ++ (if list_any (λ x. (x.patch.number == n) && p x) (nodes_of heads) then n ∷ [] else [])
waits_none heads n p queue none = rw (any_none heads n p none) (sym (append-nil queue))

pub stays_index : (heads : List Head) (n s : ℕ) (p : Node → Bool) (d : Head) (queue : List ℕ) → IsRising heads → HasIndex heads n s
    → p (node_of (get_or heads s d)) ≡ false
    → queue ≡ queue ++ (if list_any (λ x. (x.patch.number == n) && p x) (nodes_of heads) then n ∷ [] else [])
stays_index heads n s p d queue rising index e = rw (any_index heads n s p d rising index, e) (sym (append-nil queue))

pub waits_index : (heads : List Head) (n s : ℕ) (p : Node → Bool) (d : Head) (queue : List ℕ) → IsRising heads → HasIndex heads n s
    → p (node_of (get_or heads s d)) ≡ true
    → queue ++ n ∷ [] ≡ queue ++ (if list_any (λ x. (x.patch.number == n) && p x) (nodes_of heads) then n ∷ [] else [])
waits_index heads n s p d queue rising index e = rw (any_index heads n s p d rising index, e) refl

pub number_in : (heads : List Head) (n s : ℕ) (h : Head) → HasIndex heads n s → h ≡ get_or heads s h → h.number ≡ n
number_in heads n s h index e = ap (λ (x : Head). x.number) e ∙ index.1 h

-- the node at the index of a number
pub node_at_index : (heads : List Head) (n s : ℕ) (d : Node) → HasIndex heads n s → Contains (nodes_of heads) (get_or (nodes_of heads) s d) × ((get_or (nodes_of heads) s d).patch.number ≡ n)
node_at_index heads n s d index =
    let e = some_element heads s index.0 in
    let is = get_or-map node_of heads s e d index.0 in (
      subst (Contains (nodes_of heads)) (sym is) (Contains-from_In (nodes_of heads) (node_of (get_or heads s e)) (In-map node_of heads (get_or heads s e) (node_of (get_or heads s e)) (index_head heads s e index.0) refl)),
      ap (λ (x : Node). x.patch.number) is ∙ index.1 e,
    )

-- it is the one node with that number
pub node_is : (heads : List Head) (n s : ℕ) (x d : Node) → IsRising heads → HasIndex heads n s → Contains (nodes_of heads) x → x.patch.number ≡ n → get_or (nodes_of heads) s d ≡ x
node_is heads n s x d rising index c e =
    let r = In-unmap node_of heads x (In-from_Contains (nodes_of heads) x c) in
    let h = Contains-from_In heads r.0 r.1 in
    let number = ap (λ (y : Node). y.patch.number) r.2 ∙ e in
    let there = index_unique heads n s h.0 rising index (h.1, λ b. ap (λ (y : Head). y.number) (any_default heads h.0 b r.0 h.1 ∙ h.2) ∙ number) in
    get_or-map node_of heads s r.0 d index.0 ∙ (ap node_of (ap (λ k. get_or heads k r.0) there ∙ h.2) ∙ r.2)

-- where no head has the number no node has it
pub none_of_number : (heads : List Head) (n : ℕ) (x : Node) → HasNone heads n → Contains (nodes_of heads) x → x.patch.number ≡ n → ⊥
none_of_number heads n x none c e =
    let r = In-unmap node_of heads x (In-from_Contains (nodes_of heads) x c) in
    let h = Contains-from_In heads r.0 r.1 in
    none h.0 r.0 h.1 (ap (λ (y : Head). y.number) h.2 ∙ (ap (λ (y : Node). y.patch.number) r.2 ∙ e))

-- heads rise where their nodes do
pub rising_indices : (heads : List Head) → AllPairs (λ x y. x.patch.number < y.patch.number) (nodes_of heads) → IsRising heads
rising_indices heads rising = rising_back node_of heads (λ h. h.number) (λ x. x.patch.number) (λ h. refl) rising

-- the dependants of the node at an index
abbrev pub row_at : List Node → ℕ → List ℕ
row_at nodes s = get_or (map (λ (x : Node). x.dependants) nodes) s []

pub row_is : (nodes : List Node) (s : ℕ) (d : Node) → s < length nodes → (get_or nodes s d).dependants ≡ row_at nodes s
row_is nodes s d lt = sym (get_or-map (λ (x : Node). x.dependants) nodes s d [] lt)

-- what is so of it at each default is so of the row
pub at_row : (P : List ℕ → Type 0) (nodes : List Node) (s : ℕ) → s < length nodes → ((d : Node) → P (get_or nodes s d).dependants) → P (row_at nodes s)
at_row P nodes s lt h = let d = some_element nodes s lt in subst P (row_is nodes s d lt) (h d)

rows_notified : (row : List ℕ) (old new : Pending) (nodes : List Node) → map (λ (x : Node). x.dependants) (map (notified row old new) nodes) ≡ map (λ (x : Node). x.dependants) nodes
rows_notified row old new [] = refl
rows_notified row old new (x ∷ xs) = let first = notified_dependants row old new x in let rest = rows_notified row old new xs in cc

-- as many heads as nodes, also where some heard
pub length_notified : (start : List Node) (heads : List Head) (row : List ℕ) (old new : Pending) → nodes_of heads ≡ map (notified row old new) start → length heads ≡ length start
length_notified start heads row old new e = sym (length-map heads node_of) ∙ (ap length e ∙ length-map start (notified row old new))

-- and the head at an index keeps the dependants that it had
pub row_now : (start : List Node) (heads : List Head) (row : List ℕ) (old new : Pending) (s : ℕ) (h : Head) → s < length heads → nodes_of heads ≡ map (notified row old new) start
    → h ≡ get_or heads s h → h.dependants.items ≡ row_at start s
row_now start heads row old new s h lt e at =
    ap (λ (x : Head). x.dependants.items) at
    ∙ (sym (ap (λ (x : Node). x.dependants) (get_or-map node_of heads s h (node_of h) lt))
    ∙ (row_is (nodes_of heads) s (node_of h) (omega (arith, lt, length-map heads node_of))
    ∙ (ap (λ ns. row_at ns s) e ∙ ap (λ rows. get_or rows s []) (rows_notified row old new start))))

-- told of the heads as they stood at the start
pub row_of : (start now : List Head) (row : List ℕ) (old new : Pending) (s : ℕ) (h : Head) → s < length start → nodes_of now ≡ map (notified row old new) (nodes_of start)
    → h ≡ get_or now s h → h.dependants.items ≡ row_at (nodes_of start) s
row_of start now row old new s h lt e at = row_now (nodes_of start) now row old new s h (omega (arith, lt, length_notified (nodes_of start) now row old new e, length-map start node_of)) e at

-- of no row none hears
pub notified_none : (old new : Pending) (nodes : List Node) → map (notified [] old new) nodes ≡ nodes
notified_none old new [] = refl
notified_none old new (x ∷ xs) = ap (λ ys. x ∷ ys) (notified_none old new xs)

-- a number that stands once in a row is not among those before it
before_at : (row : List ℕ) → AllPairs (λ m n. m ≢ n) row → (i : ℕ) → i < length row → (m : ℕ) → In (take i row) m → m ≢ get_or row i 0
before_at [] once i lt m h = absurd (omega (arith, lt))
before_at (y ∷ ys) once zero lt m h = absurd h
before_at (y ∷ ys) once (suc i) lt m (inl e) = λ same. once 0 (suc i) 0 (omega arith) lt (e ∙ same)
before_at (y ∷ ys) once (suc i) lt m (inr h) = before_at ys (λ a b d l j. once (suc a) (suc b) d (omega (arith, l)) (omega (arith, j))) i (omega (arith, lt)) m h

module _ (row : List ℕ) (once : AllPairs (λ m n. m ≢ n) row) (i : ℕ) (lt : i < length row) (old new : Pending) where
  abbrev next : ℕ
  next = get_or row i 0

  abbrev done : List ℕ
  done = take i row

  fresh : is_among done next ≡ false
  fresh = none_among done next (before_at row once i lt)

  notified_next : (x : Node) → x.patch.number ≡ next → notified done old new x ≡ x
  notified_next x e = notified_other done old new x (ap (is_among done) e ∙ fresh)

  -- a node with the next number did not hear yet
  pub notified_before : (nodes : List Node) (x : Node) → Contains (map (notified done old new) nodes) x → x.patch.number ≡ next → Contains nodes x
  notified_before nodes x c e = grind (arith, common_steps, notified_number, notified_next)

  notified_push : (x : Node) → at_number next (updated old new) (notified done old new x) ≡ notified (done ++ next ∷ []) old new x
  notified_push x = elim (cases_eq x.patch.number next) [
    | inl same ↦
        ap (at_number next (updated old new)) (notified_next x same)
        ∙ (at_same next (updated old new) x same ∙ sym (ap (λ t. if t then updated old new x else x) (ap (is_among (done ++ next ∷ [])) same ∙ among_push_same done next)))
    | inr other ↦
        at_other next (updated old new) (notified done old new x) (λ e. other (sym (notified_number done old new x) ∙ e))
        ∙ sym (ap (λ t. if t then updated old new x else x) (among_push_other done next x.patch.number (λ e. other (sym e))))
  ]

  -- one more of the row hears
  pub notified_more : (nodes : List Node) → map (at_number next (updated old new)) (map (notified done old new) nodes) ≡ map (notified (take (i + 1) row) old new) nodes
  notified_more nodes = rw (take_more row i 0 lt) (map_twice (at_number next (updated old new)) (notified done old new) (notified (done ++ next ∷ []) old new) notified_push nodes)

  any_next : (nodes : List Node) → list_any (λ x. (x.patch.number == next) && enqueues old new x) (map (notified done old new) nodes) ≡ list_any (λ x. (x.patch.number == next) && enqueues old new x) nodes
  any_next [] = refl
  any_next (x ∷ xs) = elim (cases_eq x.patch.number next) [
    | inl same ↦ rw (notified_next x same, any_next xs) refl
    | inr other ↦ rw (ne_eqb (notified done old new x).patch.number next (λ e. other (sym (notified_number done old new x) ∙ e)), ne_eqb x.patch.number next other) (any_next xs)
  ]

  enqueued_next : (nodes : List Node) → enqueued (next ∷ []) old new (map (notified done old new) nodes) ≡ enqueued (next ∷ []) old new nodes
  enqueued_next nodes = ap (λ t. if t then next ∷ [] else []) (any_next nodes)

  pub enqueued_more : (nodes : List Node) → enqueued done old new nodes ++ enqueued (next ∷ []) old new (map (notified done old new) nodes) ≡ enqueued (take (i + 1) row) old new nodes
  enqueued_more nodes = grind (arith, common_steps, enqueued_next, filter-append, take_more)

  -- there is room for what wakes
  pub enqueued_room : (nodes : List Node) (x : Node) → Contains (map (notified done old new) nodes) x → x.patch.number ≡ next → enqueues old new x ≡ true
      → length (enqueued done old new nodes) < length (enqueued row old new nodes)
  enqueued_room nodes x c e w =
      let now = map (notified done old new) nodes in
      let hit = list_any-from_Any (λ x. (x.patch.number == next) && enqueues old new x) now (c.0, x, c.1, c.2, and_from (x.patch.number == next) (enqueues old new x) (eq-eqb x.patch.number next e) w) in
      let one : enqueued (next ∷ []) old new now ≡ next ∷ [] = ap (λ t. if t then next ∷ [] else []) hit in
      let all = ap length (ap (λ ms. enqueued ms old new nodes) (sym (take-append-drop (i + 1) row)) ∙ filter-append (λ n. list_any (λ x. (x.patch.number == n) && enqueues old new x) nodes) (take (i + 1) row) (drop (i + 1) row)) in
      let before = length-append (enqueued done old new nodes) (next ∷ []) in
      let parts = length-append (enqueued (take (i + 1) row) old new nodes) (enqueued (drop (i + 1) row) old new nodes) in
      let single : length (next ∷ []) ≡ 1 = refl in
      omega (arith, ap length (sym (ap (λ ms. enqueued done old new nodes ++ ms) one) ∙ enqueued_more nodes), all, before, parts, single)
