-- What a row adds up to, and what is pending of it.
use Rattle.fst_heads.proofs.Basics.{◌≡◌, ◌≢◌, ◌≤◌, ◌==◌, ℕ, suc, ◌+◌, ◌*◌, ◌/◌, true, not, cond, List, [], ◌∷◌, ◌++◌, length, count_by, Contains, AllPairs, refl, sym, ap, subst, ◌∙◌, inl, inr, arith, and_from, and_parts, eqb-true, eq-eqb, ne_eqb, false_from_ne_true, sum_by-cons, mul-div_cancel}
use Rattle.fst_heads.proofs.Patches.{In, In-from_Contains, Contains-from_In}
use Rattle.fst_heads.proofs.Words.{Pending, Sums, join, joined, joined_sums, is_even, of_mean, is_pending, Sinks, IsOf, Fits, HasIn, plus, minus, sums_of, together, max_block}
use Rattle.fst_heads.proofs.Words.pending
use Rattle.fst_heads.proofs.Joining.{gap_none, Even, Tells, tells_nothing, tells_plus, join_right, join_self, sinks_both, sinks_parts, sinks_behind, behind_sinks, fits_plus, few_plus, nothing_together, plus_together, plus_swap, minus_plus}

tells : (told : ℕ → Pending) (row : List ℕ) → Tells (sums_of told row) (joined told row)
tells told [] = tells_nothing
tells told (n ∷ ns) = tells_plus (told n) (sums_of told ns) (joined told ns) (tells told ns)

joined_even : (s : Sums) → s.count ≢ 0 → s.held ≡ 0 → is_even s ≡ true → joined_sums s ≡ of_mean s
joined_even s ne free e = rw (ne_eqb s.count 0 ne, eq-eqb s.held 0 free, e) refl

-- the mean of patches of one block is that block
mean_block : (s : Sums) (b : ℕ) → s.count ≢ 0 → Even s b → s.total / s.count ≡ b
mean_block s b ne even = ap (λ t. t / s.count) even.total ∙ mul-div_cancel b (omega (arith, ne))

even_test : (s : Sums) (b : ℕ) → s.count ≢ 0 → Even s b → is_even s ≡ true
even_test s b ne even = grind (arith, mean_block, and_from, eq-eqb)

-- the test passes for no row of which changes of several blocks are pending
uneven_test : (s : Sums) → Tells s pending.Apart → is_even s ≡ true → ⊥
uneven_test s told e =
    let one = and_parts (s.apart == 0) _ e in
    let two = and_parts ((s.total / s.count) * s.count == s.total) _ one.1 in
    let off = told.off (s.total / s.count) (told.free (λ f. cc)) (eqb-true _ _ one.0) in
    let none = gap_none s.count s.total s.squares (s.total / s.count) off.gap off.squares (eqb-true _ _ two.0) (eqb-true _ _ two.1) in
    let within = off.same none in
    cc

-- for every row of one block, of which some is in flight or not
mean_exact : (s : Sums) (b : ℕ) (p : Pending) → Tells s p → p ≢ pending.Nothing → Sinks (pending.Behind b) p → joined_sums s ≡ of_mean s × (s.total / s.count ≡ b)
mean_exact s b p told ne within =
    let some : s.count ≢ 0 = λ e. ne (told.none e) in
    let even = told.even b within in (joined_even s some even.none_held (even_test s b some even), mean_block s b some even)

pub counted_nothing : (s : Sums) → s.count ≡ 0 → joined_sums s ≡ pending.Nothing
counted_nothing s e = rw (eq-eqb s.count 0 e) refl

exact : (s : Sums) (p : Pending) → Tells s p → joined_sums s ≡ p
exact s pending.Nothing told = counted_nothing s (told.nothing refl)
exact s (pending.Block b) told =
    let mean = mean_exact s b (pending.Block b) told (λ e. cc) (behind_sinks b (pending.Block b) (inl refl)) in
    mean.0 ∙ (rw (eq-eqb s.behind 0 (told.memory b (join_self (pending.Block b)))) (ap (λ n. pending.Block n) mean.1))
exact s (pending.Behind b) told =
    let mean = mean_exact s b (pending.Behind b) told (λ e. cc) (join_self (pending.Behind b)) in
    mean.0 ∙ (rw (ne_eqb s.behind 0 (let some = told.behind b refl in omega (arith, some))) (ap (λ n. pending.Behind n) mean.1))
exact s pending.Apart told = grind (arith, false_from_ne_true, uneven_test)
exact s pending.Held told = grind arith

-- the sums tell exactly what is pending of the row
pub joined_exact : (told : ℕ → Pending) (row : List ℕ) → joined_sums (sums_of told row) ≡ joined told row
joined_exact told row = exact (sums_of told row) (joined told row) (tells told row)

pub sums_fit : (told : ℕ → Pending) (row : List ℕ) → ((n b : ℕ) → IsOf b (told n) → b ≤ max_block) → Fits (sums_of told row)
sums_fit told [] narrow = record { held = omega arith; apart = omega arith; behind = omega arith; total = omega arith; squares = omega arith }
sums_fit told (n ∷ ns) narrow = fits_plus (told n) (sums_of told ns) (narrow n) (sums_fit told ns narrow)

pub sums_few : (told : ℕ → Pending) (row : List ℕ) → (sums_of told row).count ≤ length row
sums_few told [] = omega arith
sums_few told (n ∷ ns) = let few = few_plus (told n) (sums_of told ns) (length ns) (sums_few told ns) in omega (arith, few)

pub sums_append : (told : ℕ → Pending) (xs ys : List ℕ) → sums_of told (xs ++ ys) ≡ together (sums_of told xs) (sums_of told ys)
sums_append told [] ys = sym (nothing_together (sums_of told ys))
sums_append told (n ∷ ns) ys = ap (plus (told n)) (sums_append told ns ys) ∙ sym (plus_together (told n) (sums_of told ns) (sums_of told ys))

-- one more at the end
pub sums_push : (told : ℕ → Pending) (xs : List ℕ) (n : ℕ) → sums_of told (xs ++ n ∷ []) ≡ plus (told n) (sums_of told xs)
sums_push told [] n = refl
sums_push told (m ∷ ms) n = ap (plus (told m)) (sums_push told ms n) ∙ plus_swap (told m) (told n) (sums_of told ms)

pub joined_push : (told : ℕ → Pending) (xs : List ℕ) (n : ℕ) → joined told (xs ++ n ∷ []) ≡ join (told n) (joined told xs)
joined_push told xs n = sym (joined_exact told (xs ++ n ∷ [])) ∙ (ap joined_sums (sums_push told xs n) ∙ joined_exact told (n ∷ xs))

sums_same_in : (told other : ℕ → Pending) (row : List ℕ) → ((n : ℕ) → In row n → other n ≡ told n) → sums_of other row ≡ sums_of told row
sums_same_in told other [] same = refl
sums_same_in told other (n ∷ ns) same = rw (same n (inl refl), sums_same_in told other ns (λ m i. same m (inr i))) refl

pub sums_same : (told other : ℕ → Pending) (row : List ℕ) → ((n : ℕ) → Contains row n → other n ≡ told n) → sums_of other row ≡ sums_of told row
sums_same told other row same = sums_same_in told other row (λ n i. same n (Contains-from_In row n i))

pub joined_same : (told other : ℕ → Pending) (row : List ℕ) → ((n : ℕ) → Contains row n → other n ≡ told n) → joined other row ≡ joined told row
joined_same told other row same = sym (joined_exact other row) ∙ (ap joined_sums (sums_same told other row same) ∙ joined_exact told row)

has_plus : (p q : Pending) (s : Sums) → ((b : ℕ) → IsOf b p → b ≤ max_block) → HasIn q s → HasIn q (plus p s)
has_plus p q s narrow has = (plus p has.0, fits_plus p has.0 narrow has.1, ap (plus p) has.2 ∙ plus_swap p q has.0)

has_in : (told : ℕ → Pending) (row : List ℕ) (q : ℕ) → ((n b : ℕ) → IsOf b (told n) → b ≤ max_block) → In row q → HasIn (told q) (sums_of told row)
has_in told [] q narrow i = absurd i
has_in told (n ∷ ns) q narrow (inl e) = (sums_of told ns, sums_fit told ns narrow, ap (λ m. plus (told m) (sums_of told ns)) e)
has_in told (n ∷ ns) q narrow (inr i) = has_plus (told n) (told q) (sums_of told ns) (narrow n) (has_in told ns q narrow i)

pub sums_has : (told : ℕ → Pending) (row : List ℕ) (q : ℕ) → ((n b : ℕ) → IsOf b (told n) → b ≤ max_block) → Contains row q → HasIn (told q) (sums_of told row)
sums_has told row q narrow c = has_in told row q narrow (In-from_Contains row q c)

-- in a row in which no number stands twice the first is not below
first_once : (n : ℕ) (ns : List ℕ) (m : ℕ) → AllPairs (λ m n. m ≢ n) (n ∷ ns) → In ns m → n ≢ m
first_once n ns m once i =
    let c = Contains-from_In ns m i in
    subst (λ y. n ≢ y) c.2 (once 0 (suc c.0) m (omega arith) (omega (arith, c.1)))

once_below : (n : ℕ) (ns : List ℕ) → AllPairs (λ m n. m ≢ n) (n ∷ ns) → AllPairs (λ m n. m ≢ n) ns
once_below n ns once i j d lt inside = once (suc i) (suc j) d (omega (arith, lt)) (omega (arith, inside))

-- what the others of the row add up to, of which each is told the same
record Parted (told other : ℕ → Pending) (row : List ℕ) (q : ℕ) : Type 0 where
  rest : Sums
  before : sums_of told row ≡ plus (told q) rest
  after : sums_of other row ≡ plus (other q) rest

parted : (told other : ℕ → Pending) (row : List ℕ) (q : ℕ) → AllPairs (λ m n. m ≢ n) row → In row q → ((n : ℕ) → n ≢ q → other n ≡ told n) → Parted told other row q
parted told other [] q once i same = absurd i
parted told other (n ∷ ns) q once (inl e) same = record {
  rest = sums_of told ns;
  before = ap (λ m. plus (told m) (sums_of told ns)) e;
  after = rw (e, sums_same_in told other ns (λ m i. same m (λ f. first_once n ns m once i (e ∙ sym f)))) refl;
}
parted told other (n ∷ ns) q once (inr i) same =
    let below = parted told other ns q (once_below n ns once) i same in
    record {
      rest = plus (told n) below.rest;
      before = ap (plus (told n)) below.before ∙ plus_swap (told n) (told q) below.rest;
      after = rw (same n (first_once n ns q once i), below.after) (plus_swap (told n) (other q) below.rest);
    }

-- where one of the row changes
pub sums_moved : (told other : ℕ → Pending) (row : List ℕ) (q : ℕ) → AllPairs (λ m n. m ≢ n) row → Contains row q → ((n : ℕ) → n ≢ q → other n ≡ told n)
    → sums_of other row ≡ plus (other q) (minus (told q) (sums_of told row))
sums_moved told other row q once c same =
    let parts = parted told other row q once (In-from_Contains row q c) same in
    parts.after ∙ ap (plus (other q)) (sym (ap (minus (told q)) parts.before ∙ minus_plus (told q) parts.rest))

count_plus : (p : Pending) (s : Sums) → (plus p s).count ≡ cond (not (is_pending p pending.Nothing)) 1 0 + s.count
count_plus pending.Nothing s = omega arith
count_plus p s = omega arith

pub sums_count : (told : ℕ → Pending) (row : List ℕ) → (sums_of told row).count ≡ count_by (λ n. not (is_pending (told n) pending.Nothing)) row
sums_count told [] = refl
sums_count told (n ∷ ns) = count_plus (told n) (sums_of told ns) ∙ (ap (λ k. cond (not (is_pending (told n) pending.Nothing)) 1 0 + k) (sums_count told ns) ∙ sym (sum_by-cons _ n ns))

-- what is pending of the row has sunk below a exactly where that of each has

below_in : (told : ℕ → Pending) (row : List ℕ) (a : Pending) → Sinks a (joined told row) → (n : ℕ) → In row n → Sinks a (told n)
below_in told [] a w n i = absurd i
below_in told (m ∷ ms) a w n (inl same) = subst (λ y. Sinks a (told y)) same ((sinks_parts a (told m) (joined told ms) w).0)
below_in told (m ∷ ms) a w n (inr i) = below_in told ms a ((sinks_parts a (told m) (joined told ms) w).1) n i

pub joined_below : (told : ℕ → Pending) (row : List ℕ) (a : Pending) → Sinks a (joined told row) → (n : ℕ) → Contains row n → Sinks a (told n)
joined_below told row a w n c = below_in told row a w n (In-from_Contains row n c)

all_below_in : (told : ℕ → Pending) (row : List ℕ) (a : Pending) → ((n : ℕ) → In row n → Sinks a (told n)) → Sinks a (joined told row)
all_below_in told [] a all = join_right a
all_below_in told (n ∷ ns) a all = sinks_both a (told n) (joined told ns) (all n (inl refl)) (all_below_in told ns a (λ m i. all m (inr i)))

pub joined_all_below : (told : ℕ → Pending) (row : List ℕ) (a : Pending) → ((n : ℕ) → Contains row n → Sinks a (told n)) → Sinks a (joined told row)
joined_all_below told row a all = all_below_in told row a (λ n i. all n (Contains-from_In row n i))

pub joined_nothing : (told : ℕ → Pending) (row : List ℕ) → joined told row ≡ pending.Nothing → (n : ℕ) → Contains row n → told n ≡ pending.Nothing
joined_nothing told row e n c = joined_below told row pending.Nothing e n c

pub joined_all_nothing : (told : ℕ → Pending) (row : List ℕ) → ((n : ℕ) → Contains row n → told n ≡ pending.Nothing) → joined told row ≡ pending.Nothing
joined_all_nothing told row all = joined_all_below told row pending.Nothing all

-- where one block is pending of the row, it is pending of one of it
some_in : (told : ℕ → Pending) (row : List ℕ) (b : ℕ) → IsOf b (joined told row) → (n : ℕ) × In row n × IsOf b (told n)
some_in told [] b of_b = absurd (elim of_b [ inl e ↦ cc | inr e ↦ cc ])
some_in told (n ∷ ns) b of_b =
    elim (sinks_behind b (told n) ((sinks_parts (pending.Behind b) (told n) (joined told ns) (behind_sinks b (joined told (n ∷ ns)) of_b)).0)) [
      | inl none ↦ let some = some_in told ns b (subst (λ p. IsOf b (join p (joined told ns))) none of_b) in (some.0, inr some.1, some.2)
      | inr here ↦ (n, inl refl, here)
    ]

pub joined_some : (told : ℕ → Pending) (row : List ℕ) (b : ℕ) → IsOf b (joined told row) → (n : ℕ) × Contains row n × IsOf b (told n)
joined_some told row b of_b = let some = some_in told row b of_b in (some.0, Contains-from_In row some.0 some.1, some.2)
