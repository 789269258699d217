-- What stands beside the patches where one is made or gains names.
use Rattle.std.proofs.Common.{◌≡◌, ◌≢◌, ◌⊎◌, ◌==◌, ℕ, suc, ◌+◌, ◌<◌, ◌≤◌, Bool, true, false, cond, if◌then◌else◌, List, [], ◌∷◌, ◌++◌, map, get_or, AllPairs, Contains, refl, sym, ap, subst, ◌∙◌, inl, inr, arith}
use Rattle.std.specs.List.Sorted.{IsStrictlyIncreasing}
use Rattle.std.proofs.{lemmas.Bool.{cases_eq, eq-eqb, ne_eqb}, lemmas.List.map-append}
use Rattle.std.proofs.{lemmas.List.Elements.{Contains-push_cases, Contains-get_or}, lemmas.List.Kept.AllPairs-from_increasing}
use Rattle.std.proofs.{lemmas.List.Quantifiers.all_pairs_push, lemmas.List.Sums.{sum_by-append}}
use Rattle.fst_types.specs.{Dependencies.{DirectlyOn, IsLiveNumber}, Facts.HasOnePlaceEach, Gates.IsOpenNumber, Gating.gains, Patches.Patch, Tests.is_among}
use Rattle.fst_types.proofs.{Finite.{In, In-from_Contains, Contains-from_In}, Issuing.among_in}
use Rattle.fst_heads.specs.{Nodes.{Node, patches_in, times, at_number, linked_to, gains_names, AreLinked, AreGiven, AreDistinct}, declared.pending.Sums.Sums}
use Rattle.fst_heads.proofs.{Added.{with_node, new_node, with_names}, AtNumber.{at_other, at_same}, Linking.{linked_patch, map_twice}}
use Rattle.fst_heads.proofs.{Placed.{StandsFor, unmapped, patch_in, node_of_patch}, Waiting.once_append}
use Rattle.fst_heads.proofs.Waiting.{times_cons}
use Rattle.fst_heads.proofs.Few.{apart_rising}

pub patches_linked : (nodes : List Node) (row : List ℕ) (n : ℕ) → patches_in (map (linked_to row n) nodes) ≡ patches_in nodes
patches_linked [] row n = refl
patches_linked (x ∷ xs) row n = let first = linked_patch row n x in let rest = patches_linked xs row n in cc

-- how often a number stands in a row

pub times_append : (xs ys : List ℕ) (m : ℕ) → times (xs ++ ys) m ≡ times xs m + times ys m
times_append xs ys m = sum_by-append (λ y. cond (y == m) 1 0) xs ys

times_absent_in : (xs : List ℕ) (m : ℕ) → ((x : ℕ) → In xs x → x ≢ m) → times xs m ≡ 0
times_absent_in [] m none = refl
times_absent_in (x ∷ xs) m none = rw (times_cons x xs m, ne_eqb x m (none x (inl refl))) (let rest = times_absent_in xs m (λ y h. none y (inr h)) in omega arith)

pub times_absent : (xs : List ℕ) (m : ℕ) → ((x : ℕ) → Contains xs x → x ≢ m) → times xs m ≡ 0
times_absent xs m none = times_absent_in xs m (λ x h. none x (Contains-from_In xs x h))

-- what stands in a row stands there at least once
times_there : (xs : List ℕ) (m : ℕ) → In xs m → 1 ≤ times xs m
times_there [] m h = absurd h
times_there (x ∷ xs) m (inl e) = rw (times_cons x xs m, eq-eqb x m e) (omega arith)
times_there (x ∷ xs) m (inr h) = let r = times_there xs m h in rw (times_cons x xs m) (omega (arith, r))

times_in : (xs : List ℕ) → AllPairs (λ x y. x < y) xs → (m : ℕ) → times xs m ≡ cond (is_among xs m) 1 0
times_in [] pairs m = refl
times_in (x ∷ xs) pairs m =
    elim (cases_eq x m) [
      | inl same ↦
          let later : (y : ℕ) → Contains xs y → y ≢ m = λ y c e. let r = pairs 0 (suc c.0) y (omega arith) (omega (arith, c.1)) in let k = c.2 in omega (arith, r, k, e, same) in
          let none = times_absent xs m later in
          rw (times_cons x xs m, eq-eqb x m same) (omega (arith, none))
      | inr other ↦
          let rest = times_in xs (λ i j d l b. pairs (suc i) (suc j) d (omega (arith, l)) (omega (arith, b))) m in
          rw (times_cons x xs m, ne_eqb x m other) (omega (arith, rest))
    ]

-- a row that rises has a number once, or not
pub times_rising : (row : List ℕ) → IsStrictlyIncreasing row → (m : ℕ) → times row m ≡ cond (is_among row m) 1 0
times_rising row once m = times_in row (AllPairs-from_increasing row once) m

-- what a link changes of a node

times_either : (b : Bool) (n : ℕ) (x : Node) → times (if b then record x { dependants = x.dependants ++ n ∷ [] } else x).dependants n ≡ times x.dependants n + cond b 1 0
times_either true n x =
    let one : times (n ∷ []) n ≡ 1 = rw (eq-eqb n n refl) refl in
    times_append x.dependants (n ∷ []) n ∙ ap (λ k. times x.dependants n + k) one
times_either false n x = omega arith

other_either : (b : Bool) (n m : ℕ) (x : Node) → m ≢ n → times (if b then record x { dependants = x.dependants ++ n ∷ [] } else x).dependants m ≡ times x.dependants m
other_either true n m x ne =
    let none : times (n ∷ []) m ≡ 0 = rw (ne_eqb n m (λ e. ne (sym e))) refl in
    times_append x.dependants (n ∷ []) m ∙ omega (arith, none)
other_either false n m x ne = refl

given_either : (b : Bool) (n m : ℕ) (x : Node) → Contains (if b then record x { dependants = x.dependants ++ n ∷ [] } else x).dependants m → Contains x.dependants m ⊎ (n ≡ m)
given_either true n m x c = Contains-push_cases x.dependants n m c
given_either false n m x c = inl c

apart_either : (b : Bool) (n : ℕ) (x : Node) → AllPairs (λ k m. k ≢ m) x.dependants → (b ≡ true → (m : ℕ) → Contains x.dependants m → m ≢ n)
    → AllPairs (λ k m. k ≢ m) (if b then record x { dependants = x.dependants ++ n ∷ [] } else x).dependants
apart_either true n x once new = all_pairs_push (λ k m. k ≢ m) x.dependants n once (λ k d lt. new refl (get_or x.dependants k d) (Contains-get_or x.dependants k d lt))
apart_either false n x once new = once

-- the number stands among the dependants as often as before, and as often as the row has the node
pub linked_times : (row : List ℕ) (n : ℕ) (x : Node) → IsStrictlyIncreasing row → times (linked_to row n x).dependants n ≡ times x.dependants n + times row x.patch.number
linked_times row n x once = times_either (is_among row x.patch.number) n x ∙ ap (λ k. times x.dependants n + k) (sym (times_rising row once x.patch.number))

pub linked_other : (row : List ℕ) (n m : ℕ) (x : Node) → m ≢ n → times (linked_to row n x).dependants m ≡ times x.dependants m
linked_other row n m x ne = other_either (is_among row x.patch.number) n m x ne

pub linked_given : (row : List ℕ) (n m : ℕ) (x : Node) → Contains (linked_to row n x).dependants m → Contains x.dependants m ⊎ (n ≡ m)
linked_given row n m x c = given_either (is_among row x.patch.number) n m x c

-- no number stands twice among the direct dependencies or the dependants of the node
abbrev pub Apart : Node → Type 0
Apart x = AllPairs (λ m n. m ≢ n) x.patch.dependencies × AllPairs (λ m n. m ≢ n) x.dependants

-- each dependant of a node is a direct dependency of its own
abbrev pub Tied : Node → Node → Type 0
Tied x y = times y.dependants x.patch.number ≡ times x.patch.dependencies y.patch.number

pub patches_made : (nodes : List Node) (p : Patch) → patches_in (with_node nodes p) ≡ patches_in nodes ++ p ∷ []
patches_made nodes p =
    map-append (λ x. x.patch) (map (linked_to p.dependencies p.number) nodes) (new_node nodes p ∷ []) ∙ ap (λ ps. ps ++ p ∷ []) (patches_linked nodes p.dependencies p.number)

module _ (nodes : List Node) (numbers : ℕ) (p : Patch) (H : HasOnePlaceEach (patches_in nodes) numbers)
    (next : p.number ≡ numbers + 1) (rising : IsStrictlyIncreasing p.dependencies) (live : (n : ℕ) → Contains p.dependencies n → IsLiveNumber (patches_in nodes) n) where
  abbrev link : Node → Node
  link = linked_to p.dependencies p.number

  -- a node is an old one, linked, or the new one
  pub made_was : (y : Node) → Contains (with_node nodes p) y → ((x : Node) × Contains nodes x × (link x ≡ y)) ⊎ (new_node nodes p ≡ y)
  made_was y c = elim (Contains-push_cases (map link nodes) (new_node nodes p) y c) [ inl o ↦ inl (unmapped link nodes y o) | inr e ↦ inr e ]

  small : (x : Node) → Contains nodes x → x.patch.number ≤ numbers
  small x c = (H.numbered x.patch (patch_in nodes x c)).1

  named_small : (n : ℕ) → Contains p.dependencies n → n ≤ numbers
  named_small n c = let l = live n c in let k = (H.numbered l.patch l.head).1 in let e = l.numbered in omega (arith, k, e)

  -- the new patch depends on none but those that it was linked to, and no old one on it
  old_old : (x y : Node) → Contains nodes x → Contains nodes y → Tied x y → Tied (link x) (link y)
  old_old x y cx cy t =
      let px = linked_patch p.dependencies p.number x in
      let py = linked_patch p.dependencies p.number y in
      let lt = small x cx in
      ap (λ q. times (link y).dependants q.number) px
      ∙ (linked_other p.dependencies p.number x.patch.number y (λ e. omega (arith, lt, e, next))
      ∙ (t ∙ sym (ap (λ q. times (link x).patch.dependencies q.number) py ∙ ap (λ q. times q.dependencies y.patch.number) px)))

  new_old : (y : Node) → Contains nodes y → AreGiven nodes numbers → Tied (new_node nodes p) (link y)
  new_old y cy given =
      let py = linked_patch p.dependencies p.number y in
      let none = times_absent y.dependants p.number (λ n c e. let g = given y n cy c in omega (arith, g, e, next)) in
      linked_times p.dependencies p.number y rising ∙ (ap (λ k. k + times p.dependencies y.patch.number) none ∙ (omega arith ∙ sym (ap (λ q. times p.dependencies q.number) py)))

  old_new : (x : Node) → Contains nodes x → Tied (link x) (new_node nodes p)
  old_new x cx =
      let px = linked_patch p.dependencies p.number x in
      sym (ap (λ q. times q.dependencies p.number) px
      ∙ times_absent x.patch.dependencies p.number (λ n c e. let k = H.named x.patch n (patch_in nodes x cx) c in omega (arith, k, e, next)))

  new_new : Tied (new_node nodes p) (new_node nodes p)
  new_new = sym (times_absent p.dependencies p.number (λ n c e. let k = named_small n c in omega (arith, k, e, next)))

  pub made_linked : AreLinked nodes → AreGiven nodes numbers → AreLinked (with_node nodes p)
  made_linked linked given a b ca cb =
      elim (made_was a ca) [
        | inl x ↦
            elim (made_was b cb) [
              | inl y ↦ subst (λ z. Tied z b) x.2 (subst (Tied (link x.0)) y.2 (old_old x.0 y.0 x.1 y.1 (linked x.0 y.0 x.1 y.1)))
              | inr e ↦ subst (λ z. Tied z b) x.2 (subst (Tied (link x.0)) e (old_new x.0 x.1))
            ]
        | inr d ↦
            elim (made_was b cb) [
              | inl y ↦ subst (λ z. Tied z b) d (subst (Tied (new_node nodes p)) y.2 (new_old y.0 y.1 given))
              | inr e ↦ subst (λ z. Tied z b) d (subst (Tied (new_node nodes p)) e new_new)
            ]
      ]

  pub made_given : AreGiven nodes numbers → AreGiven (with_node nodes p) (numbers + 1)
  made_given given a n ca c =
      elim (made_was a ca) [
        | inl x ↦
            elim (linked_given p.dependencies p.number n x.0 (subst (λ z. Contains z.dependants n) (sym x.2) c)) [
              | inl o ↦ let g = given x.0 n x.1 o in omega (arith, g)
              | inr e ↦ omega (arith, e, next)
            ]
        | inr d ↦ let none : Contains [] n = subst (λ z. Contains z.dependants n) (sym d) c in absurd (omega (arith, none.1))
      ]

  old_apart : (x : Node) → Contains nodes x → AreGiven nodes numbers → Apart x → Apart (link x)
  old_apart x cx given apart =
      let px = linked_patch p.dependencies p.number x in (
        subst (λ ns. AllPairs (λ m n. m ≢ n) ns) (sym (ap (λ q. q.dependencies) px)) apart.0,
        apart_either (is_among p.dependencies x.patch.number) p.number x apart.1 (λ t m c e. let g = given x m cx c in omega (arith, g, e, next)),
      )

  pub made_distinct : AreGiven nodes numbers → AreDistinct nodes → AreDistinct (with_node nodes p)
  made_distinct given distinct a ca =
      elim (made_was a ca) [
        | inl x ↦ subst Apart x.2 (old_apart x.0 x.1 given (distinct x.0 x.1))
        | inr d ↦ subst Apart d (apart_rising p.dependencies rising, λ i j e lt inside. absurd (omega (arith, lt, inside)))
      ]

gained_either : (b : Bool) (names : List ℕ) (sums : Sums) (x : Node) → (if b then gains_names names sums x else x).patch ≡ (if b then record x.patch { dependencies = x.patch.dependencies ++ names } else x.patch)
gained_either true names sums x = refl
gained_either false names sums x = refl

dependants_either : (b : Bool) (names : List ℕ) (sums : Sums) (x : Node) → (if b then gains_names names sums x else x).dependants ≡ x.dependants
dependants_either true names sums x = refl
dependants_either false names sums x = refl

stands_either : (b : Bool) (names : List ℕ) (p : Patch) → StandsFor p (if b then record p { dependencies = p.dependencies ++ names } else p)
stands_either true names p = record { live = refl; number = refl; kind = refl }
stands_either false names p = record { live = refl; number = refl; kind = refl }

-- a patch that gains names keeps all but its direct dependencies
pub gain_stands : (g : ℕ) (names : List ℕ) (p : Patch) → StandsFor p (gains g names p)
gain_stands g names p = stands_either (p.number == g) names p

module _ (g : ℕ) (names : List ℕ) (sums : Sums) where
  abbrev gained : Node → Node
  gained x = at_number g (gains_names names sums) x

  abbrev pub both : Node → Node
  both x = linked_to names g (gained x)

  both_patch : (x : Node) → (both x).patch ≡ gains g names x.patch
  both_patch x = linked_patch names g (gained x) ∙ gained_either (x.patch.number == g) names sums x

  pub both_nodes : (nodes : List Node) → with_names nodes g names sums ≡ map both nodes
  both_nodes nodes = map_twice (linked_to names g) gained both (λ x. refl) nodes

  pub patches_named : (nodes : List Node) → patches_in (with_names nodes g names sums) ≡ map (gains g names) (patches_in nodes)
  patches_named [] = refl
  patches_named (x ∷ xs) = let first = both_patch x in let rest = patches_named xs in cc

  pub both_number : (x : Node) → (both x).patch.number ≡ x.patch.number
  both_number x = ap (λ q. q.number) (both_patch x) ∙ (gain_stands g names x.patch).number

  gained_number : (x : Node) → (gained x).patch.number ≡ x.patch.number
  gained_number x = ap (λ q. q.number) (gained_either (x.patch.number == g) names sums x) ∙ (gain_stands g names x.patch).number

  -- the direct dependencies of the gate, and of another
  row_same : (x : Node) → x.patch.number ≡ g → (both x).patch.dependencies ≡ x.patch.dependencies ++ names
  row_same x same = ap (λ q. q.dependencies) (linked_patch names g (gained x)) ∙ ap (λ z. z.patch.dependencies) (at_same g (gains_names names sums) x same)

  row_other : (x : Node) → x.patch.number ≢ g → (both x).patch.dependencies ≡ x.patch.dependencies
  row_other x other = ap (λ q. q.dependencies) (linked_patch names g (gained x)) ∙ ap (λ z. z.patch.dependencies) (at_other g (gains_names names sums) x other)

  -- what the gate has besides is what it was linked to
  both_tied : (x y : Node) → IsStrictlyIncreasing names → Tied x y → Tied (both x) (both y)
  both_tied x y once t =
      let nx = both_number x in
      let ny = both_number y in
      let dy = dependants_either (y.patch.number == g) names sums y in
      let gy = gained_number y in
      let named = ap (times (both x).patch.dependencies) ny in
      ap (times (both y).dependants) nx ∙ (elim (cases_eq x.patch.number g) [
        | inl same ↦
            ap (times (both y).dependants) same
            ∙ (linked_times names g (gained y) once
            ∙ (ap (λ ns. times ns g + times names (gained y).patch.number) dy
            ∙ (ap (λ k. times y.dependants g + times names k) gy
            ∙ (ap (λ k. times y.dependants k + times names y.patch.number) (sym same)
            ∙ (ap (λ k. k + times names y.patch.number) t
            ∙ (sym (times_append x.patch.dependencies names y.patch.number)
            ∙ sym (ap (λ ns. times ns y.patch.number) (row_same x same))))))))
        | inr other ↦
            linked_other names g x.patch.number (gained y) other ∙ (ap (λ ns. times ns x.patch.number) dy ∙ (t ∙ sym (ap (λ ns. times ns y.patch.number) (row_other x other))))
      ] ∙ sym named)

  both_given : (x : Node) (n : ℕ) → Contains (both x).dependants n → Contains x.dependants n ⊎ (g ≡ n)
  both_given x n c =
      elim (linked_given names g n (gained x) c) [ inl o ↦ inl (subst (λ ns. Contains ns n) (dependants_either (x.patch.number == g) names sums x) o) | inr e ↦ inr e ]

  module _ (nodes : List Node) where
    pub named_was : (y : Node) → Contains (with_names nodes g names sums) y → (x : Node) × Contains nodes x × (both x ≡ y)
    named_was y c = unmapped both nodes y (subst (λ xs. Contains xs y) (both_nodes nodes) c)

    pub named_linked : IsStrictlyIncreasing names → AreLinked nodes → AreLinked (with_names nodes g names sums)
    named_linked once linked a b ca cb =
        let x = named_was a ca in
        let y = named_was b cb in
        subst (λ z. Tied z b) x.2 (subst (Tied (both x.0)) y.2 (both_tied x.0 y.0 once (linked x.0 y.0 x.1 y.1)))

    pub named_given : (numbers : ℕ) → g ≤ numbers → AreGiven nodes numbers → AreGiven (with_names nodes g names sums) numbers
    named_given numbers small given a n ca c =
        let x = named_was a ca in
        elim (both_given x.0 n (subst (λ z. Contains z.dependants n) (sym x.2) c)) [
          | inl o ↦ given x.0 n x.1 o
          | inr e ↦ omega (arith, e, small)
        ]

    module _ (gate : IsOpenNumber (patches_in nodes) g) (once : IsStrictlyIncreasing names) (linked : AreLinked nodes)
        (new : (n : ℕ) → Contains names n → DirectlyOn (patches_in nodes) g n → ⊥) where
      -- a name is not linked to the gate yet
      unlinked : (x : Node) → Contains nodes x → Contains names x.patch.number → (m : ℕ) → Contains x.dependants m → m ≢ g
      unlinked x cx named m c same =
          let z = node_of_patch nodes gate.patch gate.head in
          let number : z.0.patch.number ≡ g = ap (λ q. q.number) z.2 ∙ gate.numbered in
          let none = times_absent z.0.patch.dependencies x.patch.number (λ n cn e.
          new x.patch.number named (record { patch = z.0.patch; head = patch_in nodes z.0 z.1; numbered = number; named = subst (Contains z.0.patch.dependencies) e cn })) in
          let tie = linked z.0 x z.1 cx in
          let some = times_there x.dependants z.0.patch.number (In-from_Contains x.dependants z.0.patch.number (subst (Contains x.dependants) (same ∙ sym number) c)) in
          omega (arith, none, tie, some)

      both_apart : (x : Node) → Contains nodes x → Apart x → Apart (both x)
      both_apart x cx apart =
          let dx = dependants_either (x.patch.number == g) names sums x in (
            elim (cases_eq x.patch.number g) [
              | inl same ↦
                  subst (λ ns. AllPairs (λ m n. m ≢ n) ns) (sym (row_same x same))
                  (once_append x.patch.dependencies names apart.0 (apart_rising names once) (λ n c named.
                  new n named (record { patch = x.patch; head = patch_in nodes x cx; numbered = same; named = c })))
              | inr other ↦ subst (λ ns. AllPairs (λ m n. m ≢ n) ns) (sym (row_other x other)) apart.0
            ],
            apart_either (is_among names (gained x).patch.number) g (gained x) (subst (λ ns. AllPairs (λ m n. m ≢ n) ns) (sym dx) apart.1)
                (λ t m c.
                let named = subst (Contains names) (gained_number x) (Contains-from_In names (gained x).patch.number (among_in names (gained x).patch.number t)) in
                unlinked x cx named m (subst (λ ns. Contains ns m) dx c)),
          )

      pub named_distinct : AreDistinct nodes → AreDistinct (with_names nodes g names sums)
      named_distinct distinct a ca = let x = named_was a ca in subst Apart x.2 (both_apart x.0 x.1 (distinct x.0 x.1))
