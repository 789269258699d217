-- Loops along a row that change the head of each of its numbers.
use Rattle.fst_heads.proofs.Basics.{cond_both, map-id, ◌≡◌, ◌≢◌, ◌⊎◌, ℕ, zero, suc, ◌+◌, ◌<◌, ◌≤◌, true, false, List, [], ◌∷◌, ◌++◌, take, length, map, get_or, set, Contains, refl, sym, ap, subst, ◌∙◌, inl, inr, arith, get_or-set_same, get_or-set_other, IsStrictlyIncreasing, or-true, AllPairs, length-set}
use Rattle.fst_heads.proofs.{Basics.{cases_eq, eq-eqb, ne_eqb, take_more, AllPairs-from_increasing, HasRoomFor}, Patches.{is_among, In}}
use Rattle.fst_heads.proofs.Words.{Head, IsRising, HasIndex, HasNone, Node, node_of, nodes_of, at_number, linked_to, HasRoomAbove}
use Rattle.fst_heads.proofs.{AtNumber.{at_other, at_same}, Indices.{any_default, index_unique, rising_map, rising_back}}

-- and rise as they did
pub rising_as : (f : Node → Node) → ((x : Node) → (f x).patch.number ≡ x.patch.number) → (new old : List Head) → nodes_of new ≡ map f (nodes_of old) → IsRising old → IsRising new
rising_as f keeps new old e rising =
    let before = rising_map node_of old (λ h. h.number) (λ x. x.patch.number) (λ h. refl) rising in
    let after = rising_map f (nodes_of old) (λ x. x.patch.number) (λ x. x.patch.number) keeps before in
    rising_back node_of new (λ h. h.number) (λ x. x.patch.number) (λ h. refl) (subst (λ ns. AllPairs (λ x y. x.patch.number < y.patch.number) ns) (sym e) after)

pub rising_same : (new old : List Head) → nodes_of new ≡ nodes_of old → IsRising old → IsRising new
rising_same new old e rising = rising_as (λ x. x) (λ x. refl) new old (e ∙ sym (map-id (nodes_of old))) rising

-- a link leaves the patch
pub linked_patch : (row : List ℕ) (n : ℕ) (x : Node) → (linked_to row n x).patch ≡ x.patch
linked_patch row n x = cond_both (is_among row x.patch.number) _ _ (λ (y : Node). y.patch ≡ x.patch) (λ t. refl) (λ f. refl)

pub rising_linked : (new old : List Head) (row : List ℕ) (n : ℕ) → nodes_of new ≡ map (linked_to row n) (nodes_of old) → IsRising old → IsRising new
rising_linked new old row n e rising = rising_as (linked_to row n) (λ x. ap (λ p. p.number) (linked_patch row n x)) new old e rising

-- where the new head has the node of the old one all nodes stay
pub nodes_set : (heads : List Head) (s : ℕ) (y d : Head) → s < length heads → node_of y ≡ node_of (get_or heads s d) → nodes_of (set heads s y) ≡ nodes_of heads
nodes_set [] s y d lt e = absurd (omega (arith, lt))
nodes_set (h ∷ hs) zero y d lt e = ap (λ x. x ∷ nodes_of hs) e
nodes_set (h ∷ hs) (suc s) y d lt e = ap (λ xs. node_of h ∷ xs) (nodes_set hs s y d (omega (arith, lt)) e)

-- what is in the list after one head was set is that head, or stands at another index
pub set_cases : (heads : List Head) (s : ℕ) (y h : Head) → s < length heads → Contains (set heads s y) h → (y ≡ h) ⊎ ((j : ℕ) × (j < length heads) × (j ≢ s) × (get_or heads j h ≡ h))
set_cases heads s y h lt c = grind (arith, cases_eq, get_or-set_same, length-set, get_or-set_other)

-- the heads of the first i numbers of the row have room for one more dependant
abbrev pub HasRoomUpTo : List Head → List ℕ → ℕ → Type 0
HasRoomUpTo heads row i = (h : Head) (k : ℕ) → Contains heads h → k < i → k < length row → h.number ≡ get_or row k 0 → HasRoomFor h.dependants 1

-- the heads of the others have
abbrev pub HasRoomFrom : List Head → List ℕ → ℕ → Type 0
HasRoomFrom heads row i = (h : Head) (k : ℕ) → Contains heads h → i ≤ k → k < length row → h.number ≡ get_or row k 0 → HasRoomFor h.dependants 1

pub room_first : (heads : List Head) (row : List ℕ) → HasRoomAbove heads row → HasRoomFrom heads row 0
room_first heads row room h k c le inside e = room h c (k, inside, any_default row k h.number 0 inside ∙ sym e)

pub room_more : (heads : List Head) (row : List ℕ) (i s : ℕ) (y : Head) → IsRising heads → HasIndex heads (get_or row i 0) s → HasRoomFor y.dependants 1 → HasRoomUpTo heads row i → HasRoomUpTo (set heads s y) row (i + 1)
room_more heads row i s y rising index here room h k c lt inside e =
    elim (set_cases heads s y h index.0 c) [
      | inl same ↦ subst (λ (x : Head). HasRoomFor x.dependants 1) same here
      | inr o ↦
          elim (cases_eq k i) [
            | inl last ↦
                let number = e ∙ ap (λ m. get_or row m 0) last in
                absurd (o.2 (index_unique heads (get_or row i 0) o.0 s rising (o.1, λ d. ap (λ x. x.number) (any_default heads o.0 d h o.1 ∙ o.3) ∙ number) index))
            | inr earlier ↦ room h k (o.0, o.1, o.3) (omega (arith, lt, earlier)) inside e
          ]
    ]

pub room_skip : (heads : List Head) (row : List ℕ) (i : ℕ) → HasNone heads (get_or row i 0) → HasRoomUpTo heads row i → HasRoomUpTo heads row (i + 1)
room_skip heads row i none room h k c lt inside e = grind (arith, cases_eq)

pub room_all : (heads : List Head) (row : List ℕ) (i : ℕ) → HasRoomUpTo heads row i → length row ≤ i → HasRoomAbove heads row
room_all heads row i room all h c named = room h named.0 c (omega (arith, named.1, all)) named.1 (sym named.2 ∙ any_default row named.0 h.number 0 named.1)

-- the head that was linked has none of the numbers that are left, since they rise
pub room_left : (heads : List Head) (row : List ℕ) (i s : ℕ) (y : Head) → IsStrictlyIncreasing row → s < length heads → y.number ≡ get_or row i 0 → HasRoomFrom heads row i → HasRoomFrom (set heads s y) row (i + 1)
room_left heads row i s y once lt number room h k c le inside e =
    elim (set_cases heads s y h lt c) [
      | inl same ↦
          let r = AllPairs-from_increasing row once i k 0 (omega (arith, le)) inside in
          let m : y.number ≡ h.number = ap (λ x. x.number) same in
          absurd (omega (arith, r, m, number, e))
      | inr o ↦ room h k (o.0, o.1, o.3) (omega (arith, le)) inside e
    ]

pub room_fewer : (heads : List Head) (row : List ℕ) (i : ℕ) → HasRoomFrom heads row i → HasRoomFrom heads row (i + 1)
room_fewer heads row i room h k c le inside e = room h k c (omega (arith, le)) inside e

pub among_push_other : (row : List ℕ) (r m : ℕ) → r ≢ m → is_among (row ++ r ∷ []) m ≡ is_among row m
among_push_other [] r m ne = rw (ne_eqb r m ne) refl
among_push_other (y ∷ ys) r m ne = rw (among_push_other ys r m ne) refl

pub among_push_same : (row : List ℕ) (r : ℕ) → is_among (row ++ r ∷ []) r ≡ true
among_push_same [] r = rw (eq-eqb r r refl) refl
among_push_same (y ∷ ys) r = rw (among_push_same ys r) (or-true _)

pub none_among : (xs : List ℕ) (m : ℕ) → ((x : ℕ) → In xs x → x ≢ m) → is_among xs m ≡ false
none_among [] m none = refl
none_among (x ∷ xs) m none = rw (ne_eqb x m (none x (inl refl)), none_among xs m (λ y h. none y (inr h))) refl

below_at : (row : List ℕ) → ((i j d : ℕ) → i < j → j < length row → get_or row i d < get_or row j d) → (i : ℕ) → i < length row → (x : ℕ) → In (take i row) x → x < get_or row i 0
below_at [] rising i lt x h = absurd (omega (arith, lt))
below_at (y ∷ ys) rising zero lt x h = absurd h
below_at (y ∷ ys) rising (suc i) lt x (inl e) = let r = rising 0 (suc i) 0 (omega arith) lt in omega (arith, r, e)
below_at (y ∷ ys) rising (suc i) lt x (inr h) = below_at ys (λ a b d l j. rising (suc a) (suc b) d (omega (arith, l)) (omega (arith, j))) i (omega (arith, lt)) x h

abbrev pub adds : ℕ → Node → Node
adds n x = record x { dependants = x.dependants ++ n ∷ [] }

-- the last number of the row is linked after the others
link_push : (row : List ℕ) (r n : ℕ) (x : Node) → is_among row r ≡ false → at_number r (adds n) (linked_to row n x) ≡ linked_to (row ++ r ∷ []) n x
link_push row r n x none = grind (arith, cases_eq, among_push_same, at_same, linked_patch, among_push_other, at_other)

-- one change after another
pub map_twice : (f g h : Node → Node) → ((x : Node) → f (g x) ≡ h x) → (xs : List Node) → map f (map g xs) ≡ map h xs
map_twice f g h e [] = refl
map_twice f g h e (x ∷ xs) = let first = e x in let rest = map_twice f g h e xs in cc

pub link_more : (nodes : List Node) (row : List ℕ) (i n : ℕ) → IsStrictlyIncreasing row → i < length row
    → map (at_number (get_or row i 0) (adds n)) (map (linked_to (take i row) n) nodes) ≡ map (linked_to (take (i + 1) row) n) nodes
link_more nodes row i n once lt =
    let pairs = AllPairs-from_increasing row once in
    let none = none_among (take i row) (get_or row i 0) (λ x h same. let b = below_at row (λ a b d l j. pairs a b d l j) i lt x h in omega (arith, b, same)) in
    rw (take_more row i 0 lt)
    (map_twice (at_number (get_or row i 0) (adds n)) (linked_to (take i row) n) (linked_to (take i row ++ get_or row i 0 ∷ []) n) (λ x. link_push (take i row) (get_or row i 0) n x none) nodes)

-- of no row none is linked
pub link_none : (nodes : List Node) (n : ℕ) → map (linked_to [] n) nodes ≡ nodes
link_none [] n = refl
link_none (x ∷ xs) n = ap (λ ys. x ∷ ys) (link_none xs n)
