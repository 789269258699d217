-- The walk along the list of a block for those of its patches that pass a test.
use Rattle.fst_heads.proofs.Basics.{All, All-weaker, filter-append, AllPairs, AllPairs-filter, All-contains, All-head, All-tail, Any-from_list_any, eqb-true, false_from_ne_true, subst, common_steps, cond, IfNone, IfSome, Option, None, Some, ◌≤◌, ◌++◌, reverse, reverse_onto, map-append, nil_from_length, ◌≡◌, ◌==◌, ◌&&◌, ℕ, Bool, true, List, [], ◌∷◌, map, filter, length, refl, sym, ap, ◌∙◌, inr, list_any, cases_Bool, and_parts, arith, inl, suc, ◌<◌, false, append-nil, append_assoc, length-append, map_push}
use Rattle.fst_heads.proofs.Patches.{PatchNo, In, Contains-from_In, In-from_Contains, In-map, In-unmap, filter_in, in_filter}
use Rattle.fst_heads.proofs.Words.{numbers_of, is_held_on, Head, Listed, IsRising, patches_of, entries_of, entries_on, entry, entry_of, is_live_on, Node, node_of, nodes_of, is_ready_on}
use Rattle.fst_heads.proofs.Words.{LiesIn, LieIn, Stretch}
use Rattle.fst_heads.proofs.Stretches.{NumbersHave}
use Rattle.fst_heads.proofs.{Listing.{any_index, numbers_on, rising_patches}, Indices.{any_default, rising_back, rising_map}}

-- the node with number n passes
abbrev pub passes_at : (Node → Bool) → List Node → ℕ → Bool
passes_at t nodes n = list_any (λ x. (x.patch.number == n) && t x) nodes

-- the numbers of the list whose nodes pass
abbrev pub passing : (Node → Bool) → List Head → List Listed → List ℕ
passing t heads list = filter (passes_at t (nodes_of heads)) (map (λ e. e.number) (entries_of list))

passing_append : (t : Node → Bool) (heads : List Head) (xs ys : List Listed) → passing t heads (xs ++ ys) ≡ passing t heads xs ++ passing t heads ys
passing_append t heads xs ys = grind (arith, map-append, filter-append)

module _ (b : ℕ) (t : Node → Bool) (inside : (x : Node) → t x ≡ true → is_live_on b x.patch ≡ true) where
  passing_each : (f : ℕ → Bool) (heads : List Head) → ((h : Head) → In heads h → f h.number ≡ t (node_of h)) → filter f (numbers_on b heads) ≡ map (λ x. x.patch.number) (filter t (nodes_of heads))
  passing_each f [] says = refl
  passing_each f (h ∷ hs) says = grind (arith, cases_Bool, passing_each f hs (λ k i. says k (inr i)))

  -- the whole list has the numbers of all that pass, in order
  pub passing_start : (heads : List Head) (list : List Listed) → IsRising heads → entries_of list ≡ entries_on b (patches_of heads) → passing t heads list ≡ map (λ x. x.patch.number) (filter t (nodes_of heads))
  passing_start heads list rising listed =
      ap (λ es. filter (passes_at t (nodes_of heads)) (map (λ e. e.number) es)) listed
      ∙ passing_each (passes_at t (nodes_of heads)) heads (λ h i.
      let c = Contains-from_In heads h i in
      any_index heads h.number c.0 t h rising (c.1, λ d. ap (λ k. k.number) (any_default heads c.0 d h c.1 ∙ c.2)) ∙ ap (λ k. t (node_of k)) c.2)

-- where the numbers of all that pass have a property, a number without it is none of them
module _ (t : Node → Bool) (heads : List Head) (P : ℕ → Type 0) (have : NumbersHave t P (nodes_of heads)) where
  none_passes : (n : ℕ) → (P n → ⊥) → passes_at t (nodes_of heads) n ≡ false
  none_passes n off = false_from_ne_true (passes_at t (nodes_of heads) n) (λ e.
      let a = Any-from_list_any (λ x. (x.patch.number == n) && t x) (nodes_of heads) e in
      let k = and_parts (a.1.patch.number == n) (t a.1) a.4 in
      off (subst P (eqb-true a.1.patch.number n k.0) (All-contains (λ x. t x ≡ true → P x.patch.number) (nodes_of heads) a.1 have (a.0, a.2, a.3) k.1)))

  passing_off : (list : List Listed) → All (λ l. P l.number → ⊥) list → passing t heads list ≡ []
  passing_off [] off = refl
  passing_off (l ∷ ls) off = rw (none_passes l.number (All-head (λ x. P x.number → ⊥) l ls off)) (passing_off ls (All-tail (λ x. P x.number → ⊥) l ls off))

  -- what comes before or behind, without it, is left out
  pub passing_before : (before rest : List Listed) → All (λ l. P l.number → ⊥) before → passing t heads (before ++ rest) ≡ passing t heads rest
  passing_before before rest off = passing_append t heads before rest ∙ ap (λ ns. ns ++ passing t heads rest) (passing_off before off)

  pub passing_behind : (rest after : List Listed) → All (λ l. P l.number → ⊥) after → passing t heads (rest ++ after) ≡ passing t heads rest
  passing_behind rest after off = passing_append t heads rest after ∙ (ap (λ ns. passing t heads rest ++ ns) (passing_off after off) ∙ append-nil (passing t heads rest))

-- where the numbers of all that pass lie in a stretch, the part of the list there has all of them
pub passing_within : (t : Node → Bool) (heads : List Head) (s : Stretch) → LieIn t (nodes_of heads) s → (list before within after : List Listed) → list ≡ before ++ (within ++ after)
    → All (λ l. l.number < s.from) before → All (λ l. s.to < l.number) after → passing t heads within ≡ passing t heads list
passing_within t heads s lie list before within after is less more =
    sym (ap (passing t heads) is
    ∙ (passing_before t heads (LiesIn s) lie before (within ++ after) (All-weaker (λ l. l.number < s.from) (λ l. LiesIn s l.number → ⊥) (λ l lt lies. omega (arith, lt, lies.0)) before less)
    ∙ passing_behind t heads (LiesIn s) lie within after (All-weaker (λ l. s.to < l.number) (λ l. LiesIn s l.number → ⊥) (λ l lt lies. omega (arith, lt, lies.1)) after more)))

-- of numbers that rise, the least is the first
least_first : (ns : List ℕ) (n : ℕ) → AllPairs (λ k m. k < m) ns → In ns n → ((m : ℕ) → In ns m → n ≤ m) → (rest : List ℕ) × (ns ≡ n ∷ rest)
least_first [] n rising i least = absurd i
least_first (m ∷ ms) n rising (inl e) least = (ms, ap (λ k. k ∷ ms) e)
least_first (m ∷ ms) n rising (inr i) least =
    let c = Contains-from_In ms n i in
    let above = rising 0 (suc c.0) n (omega arith) (omega (arith, c.1)) in
    absurd (omega (arith, above, c.2, least m (inl refl)))

-- where one that passes has the number from which on alone some do, it is the first
pub passing_least : (t : Node → Bool) (heads : List Head) (from : ℕ) → IsRising heads → All (λ x. t x ≡ true → from ≤ x.patch.number) (nodes_of heads)
    → passes_at t (nodes_of heads) from ≡ true → (rest : List ℕ) × (map (λ x. x.patch.number) (filter t (nodes_of heads)) ≡ from ∷ rest)
passing_least t heads from rising above here =
    let nodes = nodes_of heads in
    let number : Node → ℕ = λ x. x.patch.number in
    let a = Any-from_list_any (λ x. (x.patch.number == from) && t x) nodes here in
    let k = and_parts (a.1.patch.number == from) (t a.1) a.4 in
    let passes = in_filter t nodes a.1 (In-from_Contains nodes a.1 (a.0, a.2, a.3)) k.1 in
    least_first (map number (filter t nodes)) from
    (rising_map number (filter t nodes) number (λ n. n) (λ x. refl)
    (AllPairs-filter (λ x y. x.patch.number < y.patch.number) t nodes (rising_map node_of heads (λ h. h.number) number (λ h. refl) rising)))
    (In-map number (filter t nodes) a.1 from passes (eqb-true a.1.patch.number from k.0))
    (λ m i.
    let r = In-unmap number (filter t nodes) m i in
    let was = filter_in t nodes r.0 r.1 in
    let le = All-contains (λ x. t x ≡ true → from ≤ x.patch.number) nodes r.0 above (Contains-from_In nodes r.0 was.0) was.1 in
    omega (arith, le, r.2))

-- the numbers of a list rise
pub rising_list : (b : ℕ) (heads : List Head) (list : List Listed) → IsRising heads → entries_of list ≡ entries_on b (patches_of heads) → AllPairs (λ x y. x.number < y.number) list
rising_list b heads list rising listed =
    rising_back entry_of list (λ l. l.number) (λ e. e.number) (λ l. refl)
    (subst (AllPairs (λ x y. x.number < y.number)) (sym listed)
    (rising_map entry (filter (is_live_on b) (patches_of heads)) (λ p. p.number) (λ e. e.number) (λ p. refl)
    (AllPairs-filter (λ p q. p.number < q.number) (is_live_on b) (patches_of heads) (rising_patches heads rising))))

pub ready_listed : (b : ℕ) (x : Node) → is_ready_on b x ≡ true → is_live_on b x.patch ≡ true
ready_listed b x e = grind (arith, and_parts)

pub held_listed : (b : ℕ) (x : Node) → is_held_on b x ≡ true → is_live_on b x.patch ≡ true
held_listed b x e = grind (arith, and_parts)

-- what passes of the list, by its first and by its last
module _ (t : Node → Bool) (heads : List Head) (rest others : List Listed) (l : Listed) where
  pub passing_front : rest ≡ l ∷ others → passing t heads rest ≡ cond (passes_at t (nodes_of heads) l.number) (l.number ∷ passing t heads others) (passing t heads others)
  passing_front e = rw e refl

  pub passing_back : rest ≡ others ++ l ∷ [] → passing t heads rest ≡ passing t heads others ++ cond (passes_at t (nodes_of heads) l.number) (l.number ∷ []) []
  passing_back e = grind (arith, common_steps, e)

-- by whichever end it was taken
module _ (t : Node → Bool) (heads : List Head) (rest others : List Listed) (l : Listed) (from_back : Bool) (front : from_back ≡ false → rest ≡ l ∷ others) (back : from_back ≡ true → rest ≡ others ++ l ∷ []) where
  abbrev here : Bool
  here = passes_at t (nodes_of heads) l.number

  pub passing_skipped : here ≡ false → passing t heads rest ≡ passing t heads others
  passing_skipped off = elim (cases_Bool from_back) [
    | inl b ↦ passing_back t heads rest others l (back b) ∙ (ap (λ k. passing t heads others ++ cond k (l.number ∷ []) []) off ∙ append-nil (passing t heads others))
    | inr f ↦ passing_front t heads rest others l (front f) ∙ ap (λ k. cond k (l.number ∷ passing t heads others) (passing t heads others)) off
  ]

  pub passing_shorter : here ≡ true → length (passing t heads rest) ≡ suc (length (passing t heads others))
  passing_shorter on = elim (cases_Bool from_back) [
    | inl b ↦
        let e = ap length (passing_back t heads rest others l (back b) ∙ ap (λ k. passing t heads others ++ cond k (l.number ∷ []) []) on) in
        omega (arith, e, length-append (passing t heads others) (l.number ∷ []))
    | inr f ↦ ap length (passing_front t heads rest others l (front f) ∙ ap (λ k. cond k (l.number ∷ passing t heads others) (passing t heads others)) on)
  ]

-- what is found besides, at the front or at the back
pub found_front : (front middle back whole : List ℕ) (n : ℕ) → front ++ ((n ∷ middle) ++ back) ≡ whole → (front ++ n ∷ []) ++ (middle ++ back) ≡ whole
found_front front middle back whole n e = append_assoc front (n ∷ []) (middle ++ back) ∙ e

pub found_back : (front middle back whole : List ℕ) (n : ℕ) → front ++ ((middle ++ n ∷ []) ++ back) ≡ whole → front ++ (middle ++ (n ∷ back)) ≡ whole
found_back front middle back whole n e = ap (λ k. front ++ k) (sym (append_assoc middle (n ∷ []) back)) ∙ e

pub numbers_push : (front : List PatchNo) (p : PatchNo) → numbers_of (front ++ p ∷ []) ≡ numbers_of front ++ p.0 ∷ []
numbers_push front p = map_push (λ (n : PatchNo). n.0) front p

pub numbers_turned : (back : List PatchNo) (p : PatchNo) → reverse (numbers_of (back ++ p ∷ [])) ≡ p.0 ∷ reverse (numbers_of back)
numbers_turned back p = grind (arith, common_steps, reverse_onto, numbers_push back p)

-- where one of those that are left passes, there is one
pub found_some : (front back : List ℕ) (middle whole : List ℕ) (k : ℕ) → front ++ (middle ++ back) ≡ whole → length middle ≡ suc k → 0 < length whole
found_some front back middle whole k e some = omega (arith, ap length e, length-append front (middle ++ back), length-append middle back, some)

numbers_reversed : (back : List PatchNo) → numbers_of (reverse back) ≡ reverse (numbers_of back)
numbers_reversed [] = refl
numbers_reversed (x ∷ xs) = grind (arith, reverse_onto, map-append, numbers_reversed xs)

-- what was found from the front, and, newest first, from the back: that is all, where no more of the middle passes
pub all_found : (front back : List PatchNo) (middle whole : List ℕ) → numbers_of front ++ (middle ++ reverse (numbers_of back)) ≡ whole → length middle ≤ 0 → numbers_of (front ++ reverse back) ≡ whole
all_found front back middle whole found few = grind (arith, map-append, numbers_reversed, nil_from_length, found)

-- the number, if there is one, is the first of these
abbrev pub IsFirst : Option PatchNo → List ℕ → Type 0
IsFirst None ns = ns ≡ []
IsFirst (Some p) ns = (others : List ℕ) × (ns ≡ p.0 ∷ others)

-- the first of those found from the back is the first of all, where no more of the middle passes
pub first_found : (least : Option PatchNo) (middle whole : List ℕ) → (later : List ℕ) × (middle ++ later ≡ whole) × IsFirst least later → length middle ≤ 0
    → IfNone least (whole ≡ []) × IfSome least (λ p. (others : List ℕ) × (whole ≡ p.0 ∷ others))
first_found None [] whole found few = (sym found.1 ∙ found.2, tt)
first_found (Some p) [] whole found few = (tt, (found.2.0, sym found.1 ∙ found.2.1))
first_found least (n ∷ ns) whole found few = absurd (omega (arith, few))
