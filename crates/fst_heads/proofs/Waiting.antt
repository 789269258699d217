-- The nodes of a spread, found by their numbers, and the numbers that wait in its queue.
use Rattle.fst_heads.proofs.Basics.{◌≡◌, ◌≢◌, ◌<◌, ◌≤◌, ◌==◌, ◌&&◌, ◌+◌, ℕ, suc, Bool, true, false, not, cond, List, [], ◌∷◌, ◌++◌, length, map, get_or, Contains, AllPairs, length-append, refl, sym, ap, subst, ◌∙◌, inl, inr, arith, list_any, cases_eq, cases_order, and_parts, and_from, eqb-true, eq-eqb}
use Rattle.fst_heads.proofs.Basics.{common_steps, ne_eqb, not-true, not_from_false, get_or_append_left, Contains-get_or, Contains-append_cases, Any-from_list_any, list_any-from_Any, AllPairs-cons, sum_by-cons}
use Rattle.std.specs.Prelude.{sum_by}
use Rattle.fst_heads.proofs.Patches.{filter_in, in_filter, In, In-map, In-from_Contains, Contains-from_In, pull}
use Rattle.fst_heads.proofs.Words.{Pending, IsOf, Node, pending_in, times, at_number, is_recorded, recorded, updated, notified, enqueues, enqueued}
use Rattle.fst_heads.proofs.{AtNumber.{at_same, at_other}, PendingIn.{found, told_of}, Placed.unmapped, Indices.{any_default, rising_map}, Turning.{turned, is_notified}}
use Rattle.std.proofs.Math.Seq.{get_or-append_seam}

pub mapped : {X Y : Type 0} (f : X → Y) (xs : List X) (x : X) → Contains xs x → Contains (map f xs) (f x)
mapped f xs x c = Contains-from_In (map f xs) (f x) (In-map f xs x (f x) (In-from_Contains xs x c) refl)

pub map_twice : {X Y Z : Type 0} (f : Y → Z) (g : X → Y) (xs : List X) → map f (map g xs) ≡ map (λ x. f (g x)) xs
map_twice f g [] = refl
map_twice f g (x ∷ xs) = ap (λ ys. f (g x) ∷ ys) (map_twice f g xs)

-- one number, one node
pub same_node : (nodes : List Node) (x y : Node) → AllPairs (λ a b. a.patch.number < b.patch.number) nodes → Contains nodes x → Contains nodes y → x.patch.number ≡ y.patch.number → x ≡ y
same_node nodes x y rising a b e =
    elim (cases_order a.0 b.0) [
      | inl same ↦ sym a.2 ∙ (any_default nodes a.0 x y a.1 ∙ (ap (λ k. get_or nodes k y) same ∙ b.2))
      | inr o ↦ elim o [
        | inl lt ↦ absurd (apart a.0 b.0 x y lt b.1 a.2 (any_default nodes b.0 x y b.1 ∙ b.2) e)
        | inr lt ↦ absurd (apart b.0 a.0 y x lt a.1 b.2 (any_default nodes a.0 y x a.1 ∙ a.2) (sym e))
      ]
    ]
  where
    apart : (i j : ℕ) (p q : Node) → i < j → j < length nodes → get_or nodes i p ≡ p → get_or nodes j p ≡ q → p.patch.number ≡ q.patch.number → ⊥
    apart i j p q lt inside at_i at_j same = grind arith

-- what is pending at a number

pub pending_of : (nodes : List Node) (x : Node) → AllPairs (λ a b. a.patch.number < b.patch.number) nodes → Contains nodes x → pending_in nodes x.patch.number ≡ x.pending
pending_of nodes x rising c = told_of nodes x (rising_map (λ (y : Node). y.patch) nodes (λ y. y.patch.number) (λ p. p.number) (λ y. refl) rising) c

-- where changes of one block are pending at a number, they are pending of a node
pub pending_node : (nodes : List Node) (n b : ℕ) → IsOf b (pending_in nodes n) → (y : Node) × Contains nodes y × IsOf b y.pending
pending_node nodes n b o = elim (found nodes n) [
  | inl f ↦ (f.node, f.head, subst (IsOf b) f.told o)
  | inr none ↦ absurd (elim (subst (IsOf b) none o) [ inl e ↦ cc | inr e ↦ cc ])
]

pub pending_mapped : (f : Node → Node) (nodes : List Node) (n : ℕ) → ((y : Node) → (f y).patch.number ≡ y.patch.number)
    → ((y : Node) → y.patch.number ≡ n → (f y).pending ≡ y.pending) → pending_in (map f nodes) n ≡ pending_in nodes n
pending_mapped f [] n number same = refl
pending_mapped f (y ∷ ys) n number same = grind (arith, cases_eq, eq-eqb, ne_eqb, pending_mapped f ys n number same)

pub rising_mapped : (f : Node → Node) (nodes : List Node) → ((y : Node) → (f y).patch.number ≡ y.patch.number)
    → AllPairs (λ a b. a.patch.number < b.patch.number) nodes → AllPairs (λ a b. a.patch.number < b.patch.number) (map f nodes)
rising_mapped f nodes number rising = rising_map f nodes (λ y. y.patch.number) (λ y. y.patch.number) number rising

-- how far all have still to go

abbrev pub distance : (Pending → ℕ) → List Node → ℕ
distance far nodes = sum_by (λ (x : Node). far x.pending) nodes

module _ (far : Pending → ℕ) (f : Node → Node) where
  abbrev left : Node → ℕ
  left x = far x.pending

  distance_stays : (nodes : List Node) → ((y : Node) → In nodes y → left (f y) ≤ left y) → distance far (map f nodes) ≤ distance far nodes
  distance_stays [] low = omega arith
  distance_stays (y ∷ ys) low =
      omega (arith, sum_by-cons left (f y) (map f ys), sum_by-cons left y ys, distance_stays ys (λ z i. low z (inr i)), low y (inl refl))

  distance_falls : (nodes : List Node) (x : Node) → ((y : Node) → In nodes y → left (f y) ≤ left y) → In nodes x → left (f x) < left x → distance far (map f nodes) < distance far nodes
  distance_falls [] x low h less = absurd h
  distance_falls (y ∷ ys) x low (inl e) less =
      omega (arith, sum_by-cons left (f y) (map f ys), sum_by-cons left y ys, distance_stays ys (λ z i. low z (inr i)), subst (λ z. left (f z) < left z) (sym e) less)
  distance_falls (y ∷ ys) x low (inr h) less =
      omega (arith, sum_by-cons left (f y) (map f ys), sum_by-cons left y ys, distance_falls ys x (λ z i. low z (inr i)) h less, low y (inl refl))

  -- where no node is farther and one is nearer
  pub distance_lower : (nodes : List Node) (x : Node) → ((y : Node) → Contains nodes y → left (f y) ≤ left y) → Contains nodes x → left (f x) < left x → distance far (map f nodes) < distance far nodes
  distance_lower nodes x low c less = distance_falls nodes x (λ y i. low y (Contains-from_In nodes y i)) (In-from_Contains nodes x c) less

-- how often a number stands in a row

pub times_cons : (m : ℕ) (ms : List ℕ) (n : ℕ) → times (m ∷ ms) n ≡ cond (m == n) 1 0 + times ms n
times_cons m ms n = sum_by-cons (λ k. cond (k == n) 1 0) m ms

pub times_some : (ms : List ℕ) (n : ℕ) → In ms n → 0 < times ms n
times_some [] n h = absurd h
times_some (m ∷ ms) n (inl e) = grind (arith, common_steps, eq-eqb, times_cons)
times_some (m ∷ ms) n (inr h) = let rest = times_some ms n h in omega (arith, times_cons m ms n, rest)

pub some_times : (ms : List ℕ) (n : ℕ) → 0 < times ms n → In ms n
some_times [] n lt = absurd (let none : times [] n ≡ 0 = refl in omega (arith, none, lt))
some_times (m ∷ ms) n lt = elim (cases_eq m n) [
  | inl e ↦ inl e
  | inr ne ↦
      let none : cond {A = ℕ} (m == n) 1 0 ≡ 0 = rw (ne_eqb m n ne) refl in
      inr (some_times ms n (omega (arith, times_cons m ms n, none, lt)))
]

-- numbers that are apart

abbrev Once : List ℕ → Type 0
Once ns = AllPairs (λ (a b : ℕ). a ≢ b) ns

-- they are no more than the numbers that they are among
pub once_fits : (ns ms : List ℕ) → AllPairs (λ a b. a ≢ b) ns → ((n : ℕ) → In ns n → In ms n) → length ns ≤ length ms
once_fits [] ms once among = omega arith
once_fits (n ∷ ns) ms once among =
    let r = pull ms n (among n (inl refl)) in
    let apart = λ (m : ℕ) (h : In ns m) (e : n ≡ m). let c = Contains-from_In ns m h in once 0 (suc c.0) m (omega arith) (omega (arith, c.1)) (e ∙ sym c.2) in
    let rest = once_fits ns r.0 (λ i j d lt inside. once (suc i) (suc j) d (omega (arith, lt)) (omega (arith, inside))) (λ m h. r.2 m (among m (inr h)) (apart m h)) in
    omega (arith, r.1, rest)

pub once_append : (xs ys : List ℕ) → AllPairs (λ a b. a ≢ b) xs → AllPairs (λ a b. a ≢ b) ys → ((n : ℕ) → Contains xs n → Contains ys n → ⊥) → AllPairs (λ a b. a ≢ b) (xs ++ ys)
once_append [] ys one two apart = two
once_append (x ∷ xs) ys one two apart =
    let tail : Once xs = λ i j d lt inside. one (suc i) (suc j) d (omega (arith, lt)) (omega (arith, inside)) in
    let here : Contains (x ∷ xs) x = (0, omega arith, refl) in
    let later = λ (n : ℕ) (c : Contains xs n). Contains-from_In (x ∷ xs) n (inr (In-from_Contains xs n c)) in
    AllPairs-cons (λ a b. a ≢ b) x (xs ++ ys)
    (λ k d lt e. elim (Contains-append_cases xs ys (get_or (xs ++ ys) k d) (Contains-get_or (xs ++ ys) k d lt)) [
      | inl c ↦ one 0 (suc c.0) d (omega arith) (omega (arith, c.1)) (e ∙ (sym c.2 ∙ any_default xs c.0 (get_or (xs ++ ys) k d) d c.1))
      | inr c ↦ apart x here (subst (Contains ys) (sym e) c)
    ])
    (once_append xs ys tail two (λ n a b. apart n (later n a) b))

pub once_front : (queue : List ℕ) (q : ℕ) → AllPairs (λ a b. a ≢ b) (queue ++ q ∷ []) → AllPairs (λ a b. a ≢ b) queue
once_front queue q once i j d lt inside e = grind (arith, length-append, get_or_append_left)

-- the last is not among those before it
pub once_last : (queue : List ℕ) (q n : ℕ) → AllPairs (λ a b. a ≢ b) (queue ++ q ∷ []) → Contains queue n → n ≢ q
once_last queue q n once c e =
    once c.0 (length queue) n c.1 (omega (arith, length-append queue (q ∷ [])))
    (get_or_append_left queue (q ∷ []) n c.0 c.1 ∙ (c.2 ∙ (e ∙ sym (get_or-append_seam queue q [] n))))

-- those that wake

pub set_number : (q : ℕ) (y : Node) → (at_number q recorded y).patch.number ≡ y.patch.number
set_number q y = grind (arith, cases_eq, at_same, at_other)

pub set_sums : (q : ℕ) (y : Node) → (at_number q recorded y).sums ≡ y.sums
set_sums q y = grind (arith, cases_eq, at_same, at_other)

module _ (nodes : List Node) (row : List ℕ) (old new : Pending) (q : ℕ) where
  abbrev set : List Node
  set = map (at_number q recorded) nodes

  abbrev enqueues_at : ℕ → Node → Bool
  enqueues_at n z = (z.patch.number == n) && enqueues old new z

  pub enqueued_from : (n : ℕ) → Contains (enqueued row old new set) n
      → (y : Node) × Contains nodes y × (y.patch.number ≡ n) × (is_recorded (at_number q recorded y) ≡ true) × (is_recorded (turned row old new q y) ≡ false)
  enqueued_from n c =
      let f = filter_in (λ m. list_any (enqueues_at m) set) row n (In-from_Contains (enqueued row old new set) n c) in
      let a = Any-from_list_any (enqueues_at n) set f.1 in
      let u = unmapped (at_number q recorded) nodes a.1 (a.0, a.2, a.3) in
      let k = and_parts (a.1.patch.number == n) (enqueues old new a.1) a.4 in
      let w = and_parts (is_recorded a.1) (not (is_recorded (updated old new a.1))) k.1 in
      let number = eqb-true a.1.patch.number n k.0 in
      let same = is_notified row old new a.1 (subst (In row) (sym number) f.0) in (
        u.0,
        u.1,
        sym (set_number q u.0) ∙ (ap (λ (z : Node). z.patch.number) u.2 ∙ number),
        subst (λ z. is_recorded z ≡ true) (sym u.2) w.0,
        subst (λ z. is_recorded (notified row old new z) ≡ false) (sym u.2) (subst (λ z. is_recorded z ≡ false) (sym same) (not-true (is_recorded (updated old new a.1)) w.1)),
      )

  pub enqueued_to : (y : Node) → Contains nodes y → In row y.patch.number → is_recorded (at_number q recorded y) ≡ true → is_recorded (turned row old new q y) ≡ false
      → Contains (enqueued row old new set) y.patch.number
  enqueued_to y c named before after =
      let z = at_number q recorded y in
      let number = set_number q y in
      let there = mapped (at_number q recorded) nodes y c in
      let same = is_notified row old new z (subst (In row) (sym number) named) in
      let both = and_from (is_recorded z) (not (is_recorded (updated old new z))) before (not_from_false (is_recorded (updated old new z)) (subst (λ v. is_recorded v ≡ false) same after)) in
      let hit = list_any-from_Any (enqueues_at y.patch.number) set (there.0, z, there.1, there.2, and_from (z.patch.number == y.patch.number) (enqueues old new z) (eq-eqb z.patch.number y.patch.number number) both) in
      Contains-from_In (enqueued row old new set) y.patch.number (in_filter (λ m. list_any (enqueues_at m) set) row y.patch.number named hit)
