-- A look from both ends of a list for the last element that does not pass a test, where it is known how many do not.
use Rattle.fst_heads.proofs.Basics.{◌≡◌, ℕ, suc, ◌+◌, ◌-◌, ◌≤◌, ◌<◌, Bool, true, false, cond, List, [], ◌∷◌, ◌++◌, length, take, drop, filter, count_by, count_by-le-length, get_or, refl, sym, ap, ◌∙◌, inl, inr, arith, cases_lt, length-drop, length-map, take_all, take-append-drop, filter-append}
use Rattle.std.specs.List.{prefix_len}
use Rattle.std.proofs.lemmas.List.{get_or-drop}
use Rattle.std.proofs.lemmas.List.Sums.{prefix_len_passes, prefix_len-le-length, sum_by-drop_more, sum_by-take-drop}
use Rattle.std.proofs.lemmas.List.Filters.{FiltersInPlace}
use Rattle.fst_heads.specs.Spans.{SpansDisk}
use Rattle.fst_heads.proofs.{CountsAs.count_cons, FirstOnDisk.{all_counted, counted_all, live_head, live_read}, Indices.{any_default}}
use Rattle.fst_heads.proofs.Patches.{is_live}
use Rattle.fst_heads.proofs.Words.{Head, patch_of, patches_of}

module _ {X : Type 0} (p : X → Bool) where
  abbrev weight : X → ℕ
  weight x = cond (p x) 1 0

  -- where all are counted each passes
  counted_passes : (xs : List X) → count_by p xs ≡ length xs → (k : ℕ) (d : X) → k < length xs → p (get_or xs k d) ≡ true
  counted_passes xs e k d lt =
      let all = ap (count_by p) (take_all (length xs) xs (omega arith)) in
      prefix_len_passes p xs k d (omega (arith, lt, all_counted p xs (length xs) (omega arith) (omega (arith, all, e))))

  -- and where each passes all are counted, and stay
  passing_counted : (xs : List X) → ((k : ℕ) (d : X) → k < length xs → p (get_or xs k d) ≡ true) → count_by p xs ≡ length xs
  passing_counted [] each = refl
  passing_counted (x ∷ xs) each = omega (arith, count_cons p x xs, ap {B = ℕ} (λ b. cond b 1 0) (each 0 x (omega arith)), passing_counted xs (λ k d lt. each (suc k) d (omega (arith, lt))))

  passing_stay : (xs : List X) → ((k : ℕ) (d : X) → k < length xs → p (get_or xs k d) ≡ true) → filter p xs ≡ xs
  passing_stay [] each = refl
  passing_stay (x ∷ xs) each = rw (each 0 x (omega arith), passing_stay xs (λ k d lt. each (suc k) d (omega (arith, lt)))) refl

  module _ (xs : List X) (from : ℕ) where
    behind_read : ((k : ℕ) (d : X) → from ≤ k → k < length xs → p (get_or xs k d) ≡ true) → (k : ℕ) (d : X) → k < length (drop from xs) → p (get_or (drop from xs) k d) ≡ true
    behind_read each k d lt = ap p (get_or-drop from xs k d) ∙ each (from + k) d (omega arith) (omega (arith, lt, length-drop from xs))

    -- of the elements from an index on
    behind_counted : ((k : ℕ) (d : X) → from ≤ k → k < length xs → p (get_or xs k d) ≡ true) → count_by p (drop from xs) ≡ length xs - from
    behind_counted each = passing_counted (drop from xs) (behind_read each) ∙ length-drop from xs

    counted_behind : count_by p (drop from xs) + from ≡ length xs → (k : ℕ) (d : X) → from ≤ k → k < length xs → p (get_or xs k d) ≡ true
    counted_behind e k d le lt =
        let at : from + (k - from) ≡ k = omega (arith, le) in
        let long = length-drop from xs in
        ap (λ n. p (get_or xs n d)) (sym at) ∙ (ap p (sym (get_or-drop from xs (k - from) d))
        ∙ counted_passes (drop from xs) (omega (arith, e, long)) (k - from) d (omega (arith, le, lt, long)))

  -- a filter in place is at its end where all behind pass
  pub filtered_so_far : {xs ys : List X} {k i : ℕ} → FiltersInPlace p xs ys k i → ((j : ℕ) (d : X) → i ≤ j → j < length xs → p (get_or xs j d) ≡ true) → take k ys ++ drop i ys ≡ filter p xs
  filtered_so_far {xs} {ys} {k} {i} h each =
      ap (λ l. l ++ drop i ys) h.front
      ∙ (ap (λ l. filter p (take i xs) ++ l) (h.rest ∙ sym (passing_stay (drop i xs) (behind_read xs i each)))
      ∙ (sym (filter-append p (take i xs) (drop i xs)) ∙ ap (filter p) (take-append-drop i xs)))

  -- so many of those from the low index on do not pass, none of them from the high index on; where there are no more the last was met
  pub record IsLastBetween (xs : List X) (first low high left : ℕ) : Type 0 where
    pub begins : first ≤ low
    pub ordered : low ≤ high
    pub inside : high ≤ length xs
    pub counted : left + count_by p (drop low xs) + low ≡ length xs
    pub behind : (k : ℕ) (d : X) → high ≤ k → k < length xs → p (get_or xs k d) ≡ true
    pub met : left ≡ 0 → first < low → (d : X) → p (get_or xs (low - 1) d) ≡ false

  module _ (xs : List X) (first : ℕ) where
    pub last_start : (high live : ℕ) → high ≡ length xs → first ≡ prefix_len p xs → live ≡ count_by p xs → IsLastBetween xs first first high (high - live)
    last_start high live long is e = record {
      begins = omega arith;
      ordered = omega (arith, long, is, prefix_len-le-length p xs);
      inside = omega (arith, long);
      counted = omega (arith, long, e, count_by-le-length p xs, counted_all p xs first (omega (arith, is)), sum_by-take-drop weight xs first);
      behind = λ k d le lt. absurd (omega (arith, le, lt, long));
      met = λ none lt. absurd (omega (arith, lt));
    }

    module _ (low high left : ℕ) (h : IsLastBetween xs first low high left) (more : 0 < left) where
      pub last_apart : low < high
      last_apart = elim (cases_lt low high) [
        | inl lt ↦ lt
        | inr le ↦ absurd (omega (arith, more, h.counted, behind_counted xs low (λ k d from lt. h.behind k d (omega (arith, le, from)) lt)))
      ]

      -- the last before the high index passes
      pub last_shrunk : (e : X) → p (get_or xs (high - 1) e) ≡ true → IsLastBetween xs first low (high - 1) left
      last_shrunk e live = record {
        begins = h.begins;
        ordered = omega (arith, last_apart);
        inside = omega (arith, h.inside);
        counted = h.counted;
        behind = λ k d le lt. elim (cases_lt k high) [
          | inl before ↦
              let here : k ≡ high - 1 = omega (arith, le, before) in
              ap p (any_default xs k d e lt) ∙ (ap (λ n. p (get_or xs n e)) here ∙ live)
          | inr from ↦ h.behind k d from lt
        ];
        met = h.met;
      }

      low_counted : (d : X) → count_by p (drop low xs) ≡ cond (p (get_or xs low d)) 1 0 + count_by p (drop (low + 1) xs)
      low_counted d = sum_by-drop_more weight xs low d (omega (arith, last_apart, h.inside))

      -- and the low index is gone past
      pub last_yes : (d : X) → p (get_or xs low d) ≡ true → IsLastBetween xs first (low + 1) high left
      last_yes d live = record {
        begins = omega (arith, h.begins);
        ordered = omega (arith, last_apart);
        inside = h.inside;
        counted = omega (arith, h.counted, low_counted d, ap {B = ℕ} (λ b. cond b 1 0) live);
        behind = h.behind;
        met = λ none lt. absurd (omega (arith, none, more));
      }

      pub last_no : (d : X) → p (get_or xs low d) ≡ false → IsLastBetween xs first (low + 1) high (left - 1)
      last_no d dead = record {
        begins = omega (arith, h.begins);
        ordered = omega (arith, last_apart);
        inside = h.inside;
        counted = omega (arith, more, h.counted, low_counted d, ap {B = ℕ} (λ b. cond b 1 0) dead);
        behind = h.behind;
        met = λ none lt e.
            let here : low + 1 - 1 ≡ low = omega arith in
            ap (λ n. p (get_or xs n e)) here ∙ (ap p (any_default xs low e d (omega (arith, last_apart, h.inside))) ∙ dead);
      }

-- the same of heads
module _ (heads : List Head) (first : ℕ) (is : first ≡ prefix_len is_live (patches_of heads)) where
  abbrev Between : ℕ → ℕ → ℕ → Type 0
  Between low high left = IsLastBetween is_live (patches_of heads) first low high left

  pub disk_start : (live : ℕ) → live ≡ count_by is_live (patches_of heads) → Between first (length heads) (length heads - live)
  disk_start live e = last_start is_live (patches_of heads) first (length heads) live (sym (length-map heads patch_of)) is e

  module _ (low high left : ℕ) (h : Between low high left) where
    -- where there are no more all behind are live
    pub disk_met : left ≡ 0 → SpansDisk (patches_of heads) first low
    disk_met none = record {
      begins = is;
      ordered = h.begins;
      inside = omega (arith, h.ordered, h.inside);
      behind = counted_behind is_live (patches_of heads) low (omega (arith, none, h.counted));
      last = λ lt. h.met none lt;
    }

    module _ (more : 0 < left) where
      pub disk_apart : low < high
      disk_apart = last_apart is_live (patches_of heads) first low high left h more

      pub disk_inside : high ≤ length heads
      disk_inside = omega (arith, h.inside, length-map heads patch_of)

      -- the head at an index passes as its patch does
      read : (s : ℕ) (x : Head) (b : Bool) → s < length heads → x ≡ get_or heads s x → is_live (patch_of x) ≡ b → is_live (get_or (patches_of heads) s (patch_of x)) ≡ b
      read s x b lt same e = live_read heads s x lt ∙ (sym (ap (λ h. is_live (patch_of h)) same) ∙ e)

      module _ (y : Head) (last : y ≡ get_or heads (high - 1) y) where
        pub disk_here : is_live (patch_of y) ≡ false → SpansDisk (patches_of heads) first high
        disk_here dead = record {
          begins = is;
          ordered = omega (arith, h.begins, h.ordered);
          inside = h.inside;
          behind = h.behind;
          last = λ lt d.
              let inside : high - 1 < length (patches_of heads) = omega (arith, disk_apart, h.inside) in
              ap is_live (any_default (patches_of heads) (high - 1) d (patch_of y) inside) ∙ read (high - 1) y false (omega (arith, disk_apart, disk_inside)) last dead;
        }

        module _ (live : is_live (patch_of y) ≡ true) where
          shrunk : Between low (high - 1) left
          shrunk = last_shrunk is_live (patches_of heads) first low high left h more (patch_of y) (read (high - 1) y true (omega (arith, disk_apart, disk_inside)) last live)

          module _ (x : Head) (here : x ≡ get_or heads low x) where
            pub disk_yes : is_live (patch_of x) ≡ true → Between (low + 1) (high - 1) left
            disk_yes t = last_yes is_live (patches_of heads) first low (high - 1) left shrunk more (patch_of x) (read low x true (omega (arith, disk_apart, disk_inside)) here t)

            pub disk_no : is_live (patch_of x) ≡ false → Between (low + 1) (high - 1) (left - 1)
            disk_no f = last_no is_live (patches_of heads) first low (high - 1) left shrunk more (patch_of x) (read low x false (omega (arith, disk_apart, disk_inside)) here f)

-- where the heads on disk are known, those before and behind them are live
module _ (heads : List Head) (first end : ℕ) (s : SpansDisk (patches_of heads) first end) where
  pub end_inside : end ≤ length heads
  end_inside = omega (arith, s.inside, length-map heads patch_of)

  pub live_behind : (i : ℕ) (d : Head) → end ≤ i → i < length heads → live_head (get_or heads i d) ≡ true
  live_behind i d le lt = sym (live_read heads i d lt) ∙ s.behind i (patch_of d) le (omega (arith, lt, length-map heads patch_of))

  pub heads_left : (hs : List Head) (k : ℕ) → FiltersInPlace live_head heads hs k end → take k hs ++ drop end hs ≡ filter live_head heads
  heads_left hs k h = filtered_so_far live_head h live_behind
