-- The walk along the list of a block, from both ends by turns, that lands what is in flight.
use Rattle.fst_heads.proofs.Basics.{map-append, or_parts, take_more_set, take-set-le, drop-set, drop-set-lt, length-take, length-drop, take-append-drop, nil_from_length, ◌≡◌, ◌==◌, ◌&&◌, ◌||◌, ◌⊎◌, ℕ, suc, ◌<◌, ◌≤◌, ◌+◌, Bool, true, false, not, cond, List, [], ◌∷◌, ◌++◌, length, map, set, take, drop, filter, refl, sym, ap, ◌∙◌, inl, inr, subst, arith, list_any, cases_Bool, cases_eq, eq-eqb, ne_eqb, false≢true, append_assoc, length-append}
use Rattle.fst_heads.proofs.Patches.{Place, is_at, is_on, is_change_at, is_among, In, In-map, filter_in, in_filter, among_in, in_among}
use Rattle.fst_heads.proofs.Words.{Head, Listed, lands, IsRising, patch_of, patches_of, is_live_on, entries_on, entries_of, flying_on, Node, node_of, nodes_of, at_number}
use Rattle.fst_heads.proofs.{AtNumber.{at_other, at_same}, Linking.{none_among, rising_as}, Placed.map_alike}
use Rattle.fst_heads.proofs.{Listing.{flies, lands_number, lands_still, numbers_on, numbers_above}, Passing.{passing, passes_at, passing_start}}
use Rattle.fst_heads.proofs.Patches.place

-- each number is less than those behind it
abbrev pub Rises : List ℕ → Type 0
Rises [] = Unit
Rises (n ∷ ns) = ((m : ℕ) → In ns m → n < m) × Rises ns

in_front : (xs ys : List ℕ) (n : ℕ) → In xs n → In (xs ++ ys) n
in_front [] ys n i = absurd i
in_front (x ∷ xs) ys n (inl e) = inl e
in_front (x ∷ xs) ys n (inr i) = inr (in_front xs ys n i)

rises_front : (xs ys : List ℕ) → Rises (xs ++ ys) → Rises xs
rises_front [] ys r = tt
rises_front (x ∷ xs) ys r = (λ m i. r.0 m (in_front xs ys m i), rises_front xs ys r.1)

rises_behind : (xs ys : List ℕ) → Rises (xs ++ ys) → Rises ys
rises_behind [] ys r = r
rises_behind (x ∷ xs) ys r = rises_behind xs ys r.1

abbrev pub numbers_in : List Listed → List ℕ
numbers_in list = map (λ e. e.number) (entries_of list)

numbers_append : (xs ys : List Listed) → numbers_in (xs ++ ys) ≡ numbers_in xs ++ numbers_in ys
numbers_append xs ys = grind (arith, map-append)

-- the numbers of a part of a list rise as those of the list
rises_within : (before within after : List Listed) → Rises (numbers_in (before ++ (within ++ after))) → Rises (numbers_in within)
rises_within before within after r =
    let behind = rises_behind (numbers_in before) (numbers_in (within ++ after)) (subst Rises (numbers_append before (within ++ after)) r) in
    rises_front (numbers_in within) (numbers_in after) (subst Rises (numbers_append within after) behind)

in_last : (ns : List ℕ) (n : ℕ) → In (ns ++ n ∷ []) n
in_last [] n = inl refl
in_last (k ∷ ks) n = inr (in_last ks n)

-- the last is greater than those before it
below_last : (ns : List ℕ) (n : ℕ) → Rises (ns ++ n ∷ []) → (m : ℕ) → In ns m → m < n
below_last [] n r m i = absurd i
below_last (k ∷ ks) n r m (inl e) = subst (λ j. j < n) e (r.0 n (in_last ks n))
below_last (k ∷ ks) n r m (inr i) = below_last ks n r.1 m i

or_move : (a b c : Bool) → (a || (b || c)) ≡ (b || (a || c))
or_move true true c = refl
or_move true false c = refl
or_move false true c = refl
or_move false false c = refl

among_last : (ns : List ℕ) (n m : ℕ) → is_among (ns ++ n ∷ []) m ≡ ((n == m) || is_among ns m)
among_last [] n m = refl
among_last (k ∷ ks) n m = ap (λ t. (k == m) || t) (among_last ks n m) ∙ or_move (k == m) (n == m) (is_among ks m)

-- ns are the numbers of left but for n, the first or the last of them
pub record Taken (left ns : List ℕ) (n : ℕ) : Type 0 where
  pub rises : Rises ns
  pub none : is_among ns n ≡ false
  pub others : (m : ℕ) → is_among left m ≡ ((n == m) || is_among ns m)

pub taken_front : (left ns : List ℕ) (n : ℕ) → left ≡ n ∷ ns → Rises left → Taken left ns n
taken_front left ns n e r =
    let rises : Rises (n ∷ ns) = subst Rises e r in
    record { rises = rises.1; none = none_among ns n (λ m i same. let lt = rises.0 m i in omega (arith, lt, same)); others = λ m. ap (λ ms. is_among ms m) e }

pub taken_back : (left ns : List ℕ) (n : ℕ) → left ≡ ns ++ n ∷ [] → Rises left → Taken left ns n
taken_back left ns n e r =
    let rises : Rises (ns ++ n ∷ []) = subst Rises e r in
    record {
      rises = rises_front ns (n ∷ []) rises;
      none = none_among ns n (λ m i same. let lt = below_last ns n rises m i in omega (arith, lt, same));
      others = λ m. ap (λ ms. is_among ms m) e ∙ among_last ns n m;
    }

-- the numbers of a list, the last apart
pub numbers_last : (list : List Listed) (l : Listed) → numbers_in (list ++ l ∷ []) ≡ numbers_in list ++ l.number ∷ []
numbers_last list l = numbers_append list (l ∷ [])

in_long : {X : Type 0} (xs : List X) (x : X) → In xs x → 0 < length xs
in_long [] x i = absurd i
in_long (y ∷ ys) x i = omega arith

any_off : {X : Type 0} (f : X → Bool) (xs : List X) (x : X) → In xs x → list_any f xs ≡ false → f x ≡ false
any_off f [] x i none = absurd i
any_off f (y ∷ ys) x (inl e) none = ap f (sym e) ∙ (or_parts (f y) (list_any f ys) none).0
any_off f (y ∷ ys) x (inr i) none = any_off f ys x i (or_parts (f y) (list_any f ys) none).1

-- a change in flight is not on disk
flight_live : (p : Place) (t : Bool) → (is_at p place.Flight && t) ≡ true → (not (is_at p place.Disk) && t) ≡ true
flight_live place.Flight t e = e
flight_live p t e = absurd (false≢true e)

module _ (b : ℕ) where
  -- the changes whose numbers are left have not landed yet
  abbrev pub waits : List ℕ → Node → Node
  waits left x = cond (is_among left x.patch.number) x (lands b x)

  waits_number : (left : List ℕ) (x : Node) → (waits left x).patch.number ≡ x.patch.number
  waits_number left x = elim (cases_Bool (is_among left x.patch.number)) [ inl e ↦ rw e refl | inr e ↦ rw e (lands_number b x) ]

  -- the walk so far, where the numbers of left are still to come
  pub record Landing (start heads : List Head) (left : List ℕ) : Type 0 where
    pub rising : IsRising heads
    pub rises : Rises left
    pub nodes : nodes_of heads ≡ map (waits left) (nodes_of start)

  listed_rise : (heads : List Head) → IsRising heads → Rises (numbers_on b heads)
  listed_rise [] rising = tt
  listed_rise (h ∷ hs) rising =
      let rest = listed_rise hs (λ i j c lt up. rising (suc i) (suc j) c (omega (arith, lt)) (omega (arith, up))) in
      elim (cases_Bool (is_live_on b (patch_of h))) [
        | inl f ↦ rw f (numbers_above b h.number hs (λ i d lt. rising 0 (suc i) d (omega arith) (omega (arith, lt))), rest)
        | inr f ↦ rw f rest
      ]

  -- where what passes of a list is what is in flight, the list has each that flies
  flying_among : (heads : List Head) (list : List Listed) → passing (flies b) heads list ≡ flying_on b (patches_of heads) → (h : Head) → In heads h → flies b (node_of h) ≡ true → is_among (numbers_in list) h.number ≡ true
  flying_among heads list same h i f =
      let flying = is_change_at place.Flight b in
      let there = in_filter flying (patches_of heads) (patch_of h) (In-map patch_of heads h (patch_of h) i refl) f in
      let number = In-map (λ p. p.number) (filter flying (patches_of heads)) (patch_of h) h.number there refl in
      in_among (numbers_in list) h.number (filter_in (passes_at (flies b) (nodes_of heads)) (numbers_in list) h.number (subst (λ ns. In ns h.number) (sym same) number)).0

  -- the walk begins, along a part of the list of the block that has all that fly
  pub landing_begins : (heads : List Head) (list before within after : List Listed) → IsRising heads → entries_of list ≡ entries_on b (patches_of heads) → list ≡ before ++ (within ++ after)
      → passing (flies b) heads within ≡ flying_on b (patches_of heads) → Landing heads heads (numbers_in within)
  landing_begins heads list before within after rising listed is same = record {
    rising = rising;
    rises = rises_within before within after (subst (λ ls. Rises (numbers_in ls)) is (subst (λ es. Rises (map (λ e. e.number) es)) (sym listed) (listed_rise heads rising)));
    nodes = go heads stays;
  }
    where
      stays : (h : Head) → In heads h → waits (numbers_in within) (node_of h) ≡ node_of h
      stays h i = elim (cases_Bool (is_among (numbers_in within) h.number)) [
        | inl e ↦ rw e refl
        | inr e ↦ elim (cases_Bool (flies b (node_of h))) [
          | inl f ↦ absurd (false≢true (sym e ∙ flying_among heads within same h i f))
          | inr f ↦ rw e (lands_still b (node_of h) f)
        ]
      ]

      go : (hs : List Head) → ((h : Head) → In hs h → waits (numbers_in within) (node_of h) ≡ node_of h) → nodes_of hs ≡ map (waits (numbers_in within)) (nodes_of hs)
      go [] each = refl
      go (h ∷ hs) each = let first = sym (each h (inl refl)) in let rest = go hs (λ k i. each k (inr i)) in cc

  module _ (start heads : List Head) (left ns : List ℕ) (n : ℕ) (x : Landing start heads left) (t : Taken left ns n) where
    here : (y : Node) → y.patch.number ≡ n → is_among left y.patch.number ≡ true
    here y e = t.others y.patch.number ∙ ap (λ k. k || is_among ns y.patch.number) (eq-eqb n y.patch.number (sym e))

    flies_each : (y : Node) → ((waits left y).patch.number == n && flies b (waits left y)) ≡ (y.patch.number == n && flies b y)
    flies_each y = elim (cases_eq y.patch.number n) [
      | inl e ↦ ap (λ k. let z : Node = cond k y (lands b y) in (z.patch.number == n) && flies b z) (here y e)
      | inr ne ↦
          let was = ne_eqb (waits left y).patch.number n (λ e. ne (sym (waits_number left y) ∙ e)) in
          ap (λ k. k && flies b (waits left y)) was ∙ sym (ap (λ k. k && flies b y) (ne_eqb y.patch.number n ne))
    ]

    -- n flies exactly where it flew before the walk
    pub landing_flies : list_any (λ y. (y.patch.number == n) && flies b y) (nodes_of heads) ≡ passes_at (flies b) (nodes_of start) n
    landing_flies = ap (λ ys. list_any (λ y. (y.patch.number == n) && flies b y) ys) x.nodes ∙ go (nodes_of start)
      where
        go : (ys : List Node) → list_any (λ y. (y.patch.number == n) && flies b y) (map (waits left) ys) ≡ list_any (λ y. (y.patch.number == n) && flies b y) ys
        go [] = refl
        go (y ∷ ys) = let first = flies_each y in let rest = go ys in cc

    step_each : (y : Node) → at_number n (lands b) (waits left y) ≡ waits ns y
    step_each y = elim (cases_eq y.patch.number n) [
      | inl e ↦
          let gone : is_among ns y.patch.number ≡ false = ap (is_among ns) e ∙ t.none in
          at_same n (lands b) (waits left y) (waits_number left y ∙ e) ∙ (ap (λ k. lands b (cond k y (lands b y))) (here y e) ∙ sym (ap (λ k. cond k y (lands b y)) gone))
      | inr ne ↦
          let same : is_among left y.patch.number ≡ is_among ns y.patch.number = t.others y.patch.number ∙ ap (λ k. k || is_among ns y.patch.number) (ne_eqb n y.patch.number (λ e. ne (sym e))) in
          at_other n (lands b) (waits left y) (λ e. ne (sym (waits_number left y) ∙ e)) ∙ ap (λ k. cond k y (lands b y)) same
    ]

    one_number : (y : Node) → (at_number n (lands b) y).patch.number ≡ y.patch.number
    one_number y = elim (cases_Bool (y.patch.number == n)) [ inl e ↦ rw e (lands_number b y) | inr e ↦ rw e refl ]

    pub landing_step : (new : List Head) → nodes_of new ≡ map (at_number n (lands b)) (nodes_of heads) → Landing start new ns
    landing_step new e = record {
      rising = rising_as (at_number n (lands b)) one_number new heads e x.rising;
      rises = t.rises;
      nodes = e ∙ (ap (map (at_number n (lands b))) x.nodes ∙ go (nodes_of start));
    }
      where
        go : (ys : List Node) → map (at_number n (lands b)) (map (waits left) ys) ≡ map (waits ns) ys
        go [] = refl
        go (y ∷ ys) = let first = step_each y in let rest = go ys in cc

  -- where no more of what is left flies, all has landed
  pub landing_all : (start heads : List Head) (left : List ℕ) → Landing start heads left → length (filter (passes_at (flies b) (nodes_of start)) left) ≤ 0 → nodes_of heads ≡ map (lands b) (nodes_of start)
  landing_all start heads left x few =
      let passes = passes_at (flies b) (nodes_of start) in
      let none : (m : ℕ) → In left m → passes m ≡ false = λ m i. elim (cases_Bool (passes m)) [
        | inl e ↦ let long = in_long (filter passes left) m (in_filter passes left m i e) in absurd (omega (arith, long, few))
        | inr e ↦ e
      ] in
      x.nodes
      ∙ map_alike (waits left) (lands b) (nodes_of start) (λ y i. elim (cases_Bool (is_among left y.patch.number)) [
        | inl e ↦
            let off = any_off (λ z. (z.patch.number == y.patch.number) && flies b z) (nodes_of start) y i (none y.patch.number (among_in left y.patch.number e)) in
            rw e (sym (lands_still b y (sym (ap (λ k. k && flies b y) (eq-eqb y.patch.number y.patch.number refl)) ∙ off)))
        | inr e ↦ rw e refl
      ])

  -- what passes of the whole list is what is in flight
  pub flying_passes : (heads : List Head) (list : List Listed) → IsRising heads → entries_of list ≡ entries_on b (patches_of heads) → passing (flies b) heads list ≡ flying_on b (patches_of heads)
  flying_passes heads list rising listed = passing_start b (flies b) (λ y e. flight_live y.patch.place (is_on b y.patch.kind) e) heads list rising listed ∙ go heads
    where
      go : (hs : List Head) → map (λ y. y.patch.number) (filter (flies b) (nodes_of hs)) ≡ flying_on b (patches_of hs)
      go [] = refl
      go (h ∷ hs) = grind (arith, cases_Bool, go hs)

  -- a change in flight that is put on disk lands
  pub landed_node : (m h : Head) → m ≡ h → is_change_at place.Flight b (patch_of h) ≡ true → node_of (record m { place = place.Disk }) ≡ lands b (node_of h)
  landed_node m h same flying = ap (λ k. node_of (record k { place = place.Disk })) same ∙ rw flying refl

-- the places of the queue below low, and those from high on, have the numbers of what was found from the front and the back
module _ (queue middle whole : List ℕ) (low high : ℕ) (inside : high ≤ length queue) (placed : take low queue ++ (middle ++ drop high queue) ≡ whole) where
  pub placed_front : (n : ℕ) (others : List ℕ) → middle ≡ n ∷ others → low < high → take (low + 1) (set queue low n) ++ (others ++ drop high (set queue low n)) ≡ whole
  placed_front n others e lt =
      rw (take_more_set queue low n (omega (arith, lt, inside)), drop-set-lt high queue low n lt)
      (append_assoc (take low queue) (n ∷ []) (others ++ drop high queue) ∙ (ap (λ ms. take low queue ++ (ms ++ drop high queue)) (sym e) ∙ placed))

  pub placed_back : (n at : ℕ) (others : List ℕ) → middle ≡ others ++ n ∷ [] → at + 1 ≡ high → low ≤ at → take low (set queue at n) ++ (others ++ drop at (set queue at n)) ≡ whole
  placed_back n at others e next le =
      rw (take-set-le low queue at n le, drop-set queue at n (omega (arith, next, inside)), next)
      (ap (λ ms. take low queue ++ ms) (sym (append_assoc others (n ∷ []) (drop high queue)) ∙ ap (λ ms. ms ++ drop high queue) (sym e)) ∙ placed)

  -- where all places are taken, or nothing is left, the queue has all
  pub placed_all : low ≤ high → length whole ≡ length queue → (length middle ≤ 0) ⊎ (high ≤ low) → (length middle ≤ 0) × (queue ≡ whole)
  placed_all le long ends =
      let count = ap length (sym placed) in
      let parts = length-append (take low queue) (middle ++ drop high queue) in
      let behind = length-append middle (drop high queue) in
      let few : length middle ≤ 0 = elim ends [
        | inl none ↦ none
        | inr met ↦ omega (arith, met, le, count, parts, behind, long, length-take low queue, length-drop high queue, inside)
      ] in
      let met : low ≡ high = omega (arith, few, le, count, parts, behind, long, length-take low queue, length-drop high queue, inside) in
      let none : middle ≡ [] = nil_from_length middle (omega (arith, few)) in
      (few, sym (take-append-drop low queue) ∙ (ap (λ k. take low queue ++ drop k queue) met ∙ (ap (λ ms. take low queue ++ (ms ++ drop high queue)) (sym none) ∙ placed)))
