-- A look from both ends of a list for the first element that does not pass a test, where it is known how many pass.
use Rattle.fst_heads.proofs.Basics.{◌≡◌, ℕ, zero, suc, ◌+◌, ◌-◌, ◌≤◌, ◌<◌, Bool, true, false, cond, List, [], ◌∷◌, length, take, count_by, get_or, refl, subst, sym, ap, ◌∙◌, inl, inr, arith, cases_Bool, cases_lt, false≢true, length-map, get_or-map, count_by-le-length, take_all}
use Rattle.std.specs.List.{prefix_len}
use Rattle.std.proofs.lemmas.List.{length-take}
use Rattle.std.proofs.lemmas.List.Sums.{prefix_len_passes, prefix_len_stops, prefix_len-le-length, count_by_more_yes, count_by_more_no}
use Rattle.std.proofs.lemmas.List.Filters.{FiltersInPlace, FiltersInPlace-more_here}
use Rattle.fst_heads.proofs.{CountsAs.count_cons, Indices.{any_default, some_element}}
use Rattle.fst_heads.proofs.Patches.{is_live}
use Rattle.fst_heads.proofs.Words.{Head, patch_of, patches_of}

module _ {X : Type 0} (p : X → Bool) where
  taken_few : (xs : List X) (k : ℕ) → count_by p (take k xs) ≤ k
  taken_few xs k = omega (arith, count_by-le-length p (take k xs), length-take k xs)

  -- where each of the first k passes all of them are counted
  pub counted_all : (xs : List X) (k : ℕ) → k ≤ prefix_len p xs → count_by p (take k xs) ≡ k
  counted_all xs zero le = refl
  counted_all [] (suc k) le = absurd (omega (arith, le))
  counted_all (x ∷ xs) (suc k) le = elim (cases_Bool (p x)) [
    | inl t ↦
        let rest : k ≤ prefix_len p xs = omega (arith, le, ap {B = ℕ} (λ b. cond b (1 + prefix_len p xs) 0) t) in
        omega (arith, count_cons p x (take k xs), ap {B = ℕ} (λ b. cond b 1 0) t, counted_all xs k rest)
    | inr f ↦ absurd (omega (arith, le, ap {B = ℕ} (λ b. cond b (1 + prefix_len p xs) 0) f))
  ]

  -- and where all are counted each passes
  pub all_counted : (xs : List X) (k : ℕ) → k ≤ length xs → count_by p (take k xs) ≡ k → k ≤ prefix_len p xs
  all_counted xs zero le e = omega arith
  all_counted [] (suc k) le e = absurd (omega (arith, le))
  all_counted (x ∷ xs) (suc k) le e = elim (cases_Bool (p x)) [
    | inl t ↦
        let rest : count_by p (take k xs) ≡ k = omega (arith, e, count_cons p x (take k xs), ap {B = ℕ} (λ b. cond b 1 0) t) in
        omega (arith, ap {B = ℕ} (λ b. cond b (1 + prefix_len p xs) 0) t, all_counted xs k (omega (arith, le)) rest)
    | inr f ↦ absurd (omega (arith, e, count_cons p x (take k xs), ap {B = ℕ} (λ b. cond b 1 0) f, taken_few xs k))
  ]

  -- each before the low index passes, and so many below the high index; where these are all the first that does not pass is met
  pub record IsBetween (xs : List X) (low high below : ℕ) : Type 0 where
    pub inside : high ≤ length xs
    pub front : low ≤ prefix_len p xs
    pub counted : below ≡ count_by p (take high xs)
    pub met : below ≡ high → prefix_len p xs ≡ high

  module _ (xs : List X) where
    pub between_start : (below : ℕ) → below ≡ count_by p xs → IsBetween xs 0 (length xs) below
    between_start below e =
        let all = ap (count_by p) (take_all (length xs) xs (omega arith)) in record {
          inside = omega arith;
          front = omega arith;
          counted = omega (arith, e, all);
          met = λ same. omega (arith, prefix_len-le-length p xs, all_counted xs (length xs) (omega arith) (omega (arith, same, e, all)));
        }

    module _ (low high below : ℕ) (h : IsBetween xs low high below) where
      module _ (more : below < high) where
        pub between_inside : prefix_len p xs < high
        between_inside = elim (cases_lt (prefix_len p xs) high) [
          | inl lt ↦ lt
          | inr le ↦ absurd (omega (arith, counted_all xs high le, h.counted, more))
        ]

        pub between_low : low < length xs
        between_low = omega (arith, between_inside, h.front, h.inside)

        pub between_here : (d : X) → p (get_or xs low d) ≡ false → low ≡ prefix_len p xs
        between_here d dead = elim (cases_lt low (prefix_len p xs)) [
          | inl lt ↦ absurd (false≢true (sym dead ∙ prefix_len_passes p xs low d lt))
          | inr le ↦ omega (arith, le, h.front)
        ]

        further : (d : X) → p (get_or xs low d) ≡ true → low + 1 ≤ prefix_len p xs
        further d live = elim (cases_lt low (prefix_len p xs)) [
          | inl lt ↦ omega (arith, lt)
          | inr le ↦
              let same : low ≡ prefix_len p xs = omega (arith, le, h.front) in
              let stops = prefix_len_stops p xs d (omega (arith, between_inside, h.inside)) in
              absurd (false≢true (sym stops ∙ (ap (λ k. p (get_or xs k d)) (sym same) ∙ live)))
        ]

        at_high : (f : ℕ → ℕ) → f (high - 1 + 1) ≡ f high
        at_high f = ap f (omega (arith, more))

        pub between_some : (e : X) → p (get_or xs (high - 1) e) ≡ true → 1 ≤ below
        between_some e last = omega (arith, count_by_more_yes p xs (high - 1) e (omega (arith, more, h.inside)) last, at_high (λ k. count_by p (take k xs)), h.counted)

        pub between_yes : (d e : X) → p (get_or xs low d) ≡ true → p (get_or xs (high - 1) e) ≡ true → IsBetween xs (low + 1) (high - 1) (below - 1)
        between_yes d e live last =
            let one = count_by_more_yes p xs (high - 1) e (omega (arith, more, h.inside)) last in
            let all = at_high (λ k. count_by p (take k xs)) in record {
              inside = omega (arith, h.inside);
              front = further d live;
              counted = omega (arith, one, all, h.counted);
              met = λ same. absurd (omega (arith, same, more, one, all, h.counted));
            }

        pub between_no : (d e : X) → p (get_or xs low d) ≡ true → p (get_or xs (high - 1) e) ≡ false → IsBetween xs (low + 1) (high - 1) below
        between_no d e live last =
            let one = count_by_more_no p xs (high - 1) e (omega (arith, more, h.inside)) last in
            let all = at_high (λ k. count_by p (take k xs)) in
            let counted : below ≡ count_by p (take (high - 1) xs) = omega (arith, one, all, h.counted) in record {
              inside = omega (arith, h.inside);
              front = further d live;
              counted = counted;
              met = λ same.
                  let before = all_counted xs (high - 1) (omega (arith, h.inside)) (omega (arith, counted, same)) in
                  elim (cases_lt (high - 1) (prefix_len p xs)) [
                    | inl lt ↦ absurd (false≢true (sym last ∙ prefix_len_passes p xs (high - 1) e lt))
                    | inr le ↦ omega (arith, le, before)
                  ];
            }

pub live_read : (heads : List Head) (s : ℕ) (d : Head) → s < length heads → is_live (get_or (patches_of heads) s (patch_of d)) ≡ is_live (patch_of (get_or heads s d))
live_read heads s d lt = ap is_live (get_or-map patch_of heads s d (patch_of d) lt)

-- the same of heads
module _ (heads : List Head) (low high below : ℕ) (h : IsBetween is_live (patches_of heads) low high below) (more : below < high) where
  pub low_inside : low < length heads
  low_inside = omega (arith, between_low is_live (patches_of heads) low high below h more, length-map heads patch_of)

  high_inside : high - 1 < length heads
  high_inside = omega (arith, h.inside, more, length-map heads patch_of)

  -- the head at an index passes as its patch does
  read : (s : ℕ) (x : Head) → s < length heads → x ≡ get_or heads s x → is_live (get_or (patches_of heads) s (patch_of x)) ≡ is_live (patch_of x)
  read s x lt is = live_read heads s x lt ∙ sym (ap (λ h. is_live (patch_of h)) is)

  module _ (x : Head) (first : x ≡ get_or heads low x) where
    pub low_dead : is_live (patch_of x) ≡ false → low ≡ prefix_len is_live (patches_of heads)
    low_dead dead = between_here is_live (patches_of heads) low high below h more (patch_of x) (read low x low_inside first ∙ dead)

    module _ (y : Head) (last : y ≡ get_or heads (high - 1) y) where
      pub some_below : is_live (patch_of y) ≡ true → 1 ≤ below
      some_below live = between_some is_live (patches_of heads) low high below h more (patch_of y) (read (high - 1) y high_inside last ∙ live)

      pub high_live : is_live (patch_of x) ≡ true → is_live (patch_of y) ≡ true → IsBetween is_live (patches_of heads) (low + 1) (high - 1) (below - 1)
      high_live front live = between_yes is_live (patches_of heads) low high below h more (patch_of x) (patch_of y) (read low x low_inside first ∙ front) (read (high - 1) y high_inside last ∙ live)

      pub high_dead : is_live (patch_of x) ≡ true → is_live (patch_of y) ≡ false → IsBetween is_live (patches_of heads) (low + 1) (high - 1) below
      high_dead front dead = between_no is_live (patches_of heads) low high below h more (patch_of x) (patch_of y) (read low x low_inside first ∙ front) (read (high - 1) y high_inside last ∙ dead)

-- where each of the first k passes a filter in place may begin behind them
pub filters_from : {X : Type 0} (p : X → Bool) (xs : List X) (k : ℕ) → k ≤ length xs → ((i : ℕ) (d : X) → i < k → p (get_or xs i d) ≡ true) → FiltersInPlace p xs xs k k
filters_from p xs zero le passes = record { front = refl; rest = refl; behind = omega arith; within = le; long = refl }
filters_from p xs (suc k) le passes =
    let lt : k < length xs = omega (arith, le) in
    let d = some_element xs k lt in
    let before = filters_from p xs k (omega (arith, le)) (λ i e l. passes i e (omega (arith, l))) in
    let on : k + 1 ≡ suc k = omega arith in
    subst (λ n. FiltersInPlace p xs xs n n) on (FiltersInPlace-more_here {x = get_or xs k d} before lt (passes k d (omega arith)) (any_default xs k d _ lt) refl)

abbrev pub live_head : Head → Bool
live_head h = is_live (patch_of h)

module _ (heads : List Head) (first : ℕ) (is : first ≡ prefix_len is_live (patches_of heads)) where
  pub first_inside : first ≤ length heads
  first_inside = omega (arith, is, prefix_len-le-length is_live (patches_of heads), length-map heads patch_of)

  pub live_before : (i : ℕ) (d : Head) → i < first → live_head (get_or heads i d) ≡ true
  live_before i d lt = sym (live_read heads i d (omega (arith, lt, first_inside))) ∙ prefix_len_passes is_live (patches_of heads) i (patch_of d) (omega (arith, lt, is))

  pub heads_from : FiltersInPlace live_head heads heads first first
  heads_from = filters_from live_head heads first first_inside live_before
