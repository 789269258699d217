-- The numbers of the nodes that pass a test, and whether any does.
use Rattle.std.proofs.Common.{◌≡◌, ◌<◌, ◌+◌, ℕ, zero, suc, Bool, true, List, [], ◌∷◌, length, map, filter, get_or, count_by, Contains, refl, sym, ap, ◌∙◌, inl, arith}
use Rattle.std.specs.{List.AllPairs, List.Sorted.IsStrictlyIncreasing}
use Rattle.std.proofs.{lemmas.List.{length-map, get_or-map}, lemmas.List.Kept.AllPairs-filter, lemmas.List.Sums.length-filter}
use Rattle.fst_types.specs.Patches.{IsRising}
use Rattle.fst_types.proofs.{Dropping.{filter_in, in_filter}, Finite.{In-from_Contains, Contains-from_In, In-map}}
use Rattle.fst_heads.specs.Nodes.{Node, patches_in}
use Rattle.fst_heads.proofs.Placed.{unmapped}

-- their numbers, in the order of the nodes
abbrev pub numbers_with : (Node → Bool) → List Node → List ℕ
numbers_with t nodes = map (λ x. x.patch.number) (filter t nodes)

abbrev IsBelow : Node → Node → Type 0
IsBelow x y = x.patch.number < y.patch.number

below_pairs : (nodes : List Node) → IsRising (patches_in nodes) → AllPairs IsBelow nodes
below_pairs nodes rising i j d lt inside =
    let r = rising i j d.patch lt (omega (arith, inside, length-map nodes (λ (x : Node). x.patch))) in
    let e = get_or-map (λ (x : Node). x.patch) nodes i d d.patch (omega (arith, lt, inside)) in
    let f = get_or-map (λ (x : Node). x.patch) nodes j d d.patch inside in
    omega (arith, r, ap (λ p. p.number) e, ap (λ p. p.number) f)

numbers_rise : (xs : List Node) → AllPairs IsBelow xs → IsStrictlyIncreasing (map (λ (x : Node). x.patch.number) xs)
numbers_rise [] pairs k lt = absurd (omega (arith, lt))
numbers_rise (y ∷ ys) pairs k lt =
    let long = length-map (y ∷ ys) (λ (x : Node). x.patch.number) in
    let r = pairs k (k + 1) y (omega arith) (omega (arith, lt, long)) in
    let e = get_or-map (λ (x : Node). x.patch.number) (y ∷ ys) k y 0 (omega (arith, lt, long)) in
    let f = get_or-map (λ (x : Node). x.patch.number) (y ∷ ys) (k + 1) y 0 (omega (arith, lt, long)) in
    omega (arith, r, e, f)

module _ (t : Node → Bool) (nodes : List Node) where
  pub rising_numbers : IsRising (patches_in nodes) → IsStrictlyIncreasing (numbers_with t nodes)
  rising_numbers rising = numbers_rise (filter t nodes) (AllPairs-filter IsBelow t nodes (below_pairs nodes rising))

  pub number_in : (n : ℕ) → Contains (numbers_with t nodes) n → (x : Node) × Contains nodes x × (t x ≡ true) × (x.patch.number ≡ n)
  number_in n c =
      let r = unmapped (λ (x : Node). x.patch.number) (filter t nodes) n c in
      let k = filter_in t nodes r.0 (In-from_Contains (filter t nodes) r.0 r.1) in
      (r.0, Contains-from_In nodes r.0 k.0, k.1, r.2)

  pub number_of : (x : Node) → Contains nodes x → t x ≡ true → Contains (numbers_with t nodes) x.patch.number
  number_of x c e =
      Contains-from_In (numbers_with t nodes) x.patch.number
      (In-map (λ (y : Node). y.patch.number) (filter t nodes) x x.patch.number (in_filter t nodes x (In-from_Contains nodes x c) e) refl)

  pub number_some : 0 < length (numbers_with t nodes) → (x : Node) × Contains nodes x × (t x ≡ true)
  number_some lt = let r = number_in (get_or (numbers_with t nodes) 0 0) (0, lt, same_default (numbers_with t nodes) lt) in (r.0, r.1, r.2)
    where
      same_default : (ns : List ℕ) → 0 < length ns → get_or ns 0 (get_or ns 0 0) ≡ get_or ns 0 0
      same_default [] inside = refl
      same_default (n ∷ ns) inside = refl

  many : length (numbers_with t nodes) ≡ count_by t nodes
  many = length-map (filter t nodes) (λ (x : Node). x.patch.number) ∙ length-filter t nodes

  -- a count of 0 says that none passes
  pub none_counted : count_by t nodes ≡ 0 → (x : Node) → Contains nodes x → t x ≡ true → ⊥
  none_counted none x c e = let l = (number_of x c e).1 in omega (arith, l, many, none)

  pub counted_none : ((x : Node) → Contains nodes x → t x ≡ true → ⊥) → count_by t nodes ≡ 0
  counted_none none = go (numbers_with t nodes) number_in many
    where
      go : (ns : List ℕ) → ((n : ℕ) → Contains ns n → (x : Node) × Contains nodes x × (t x ≡ true) × (x.patch.number ≡ n)) → length ns ≡ count_by t nodes → count_by t nodes ≡ 0
      go [] all e = sym e
      go (n ∷ ns) all e = let x = all n (Contains-from_In (n ∷ ns) n (inl refl)) in absurd (none x.0 x.1 x.2)

  pub counted_some : (count_by t nodes ≡ 0 → ⊥) → (x : Node) × Contains nodes x × (t x ≡ true)
  counted_some some = number_some (let m = many in above (length (numbers_with t nodes)) (λ e. some (sym m ∙ e)))
    where
      above : (n : ℕ) → (n ≡ 0 → ⊥) → 0 < n
      above zero ne = absurd (ne refl)
      above (suc n) ne = omega arith
