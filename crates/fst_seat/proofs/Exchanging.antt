-- Two blocks that exchange their places, and which blocks are the first then.
use Rattle.std.proofs.Common.{◌≡◌, ◌≢◌, ◌<◌, ◌≤◌, ◌+◌, ℕ, zero, suc, Bool, true, false, cond, List, [], ◌∷◌, map, Some, nat_lt, refl, sym, ap, ◌∙◌, inl, inr, arith, length, slice_get, slice_set, length-set, count_by}
use Rattle.std.specs.Prelude.{◌==◌}
use Rattle.std.proofs.lemmas.Bool.{cases_Bool, cases_eq, lt-ltb, ltb-true, ltb-false}
use Rattle.std.proofs.lemmas.List.{length-map}
use Rattle.std.proofs.lemmas.List.Sums.{sum_by-set}
use Rattle.std.proofs.lemmas.Option.{slice_get_within, slice_get-map, same_Some, none-some, get_or_from_slice_get}
use Rattle.std.specs.Option.{option_map}
use Rattle.fst_seat.specs.Places.{AreInverse, exchanged, are_first}
use Rattle.fst_seat.proofs.Seated.{get-set}

-- what stands where something was put, and elsewhere
pub put_here : {X : Type 0} (xs : List X) (i : ℕ) (y : X) → i < length xs → slice_get (slice_set xs i y) i ≡ Some y
put_here [] i y lt = absurd (omega (arith, lt))
put_here (x ∷ xs) zero y lt = refl
put_here (x ∷ xs) (suc i) y lt = put_here xs i y (omega (arith, lt))

pub put_other : {X : Type 0} (xs : List X) (i j : ℕ) (y : X) → j ≢ i → slice_get (slice_set xs i y) j ≡ slice_get xs j
put_other [] i j y differs = refl
put_other (x ∷ xs) zero zero y differs = absurd (differs refl)
put_other (x ∷ xs) zero (suc j) y differs = refl
put_other (x ∷ xs) (suc i) zero y differs = refl
put_other (x ∷ xs) (suc i) (suc j) y differs = put_other xs i j y (λ e. differs (ap suc e))

pub get_map : {X Y : Type 0} (f : X → Y) (xs : List X) (k : ℕ) (x : X) → slice_get xs k ≡ Some x → slice_get (map f xs) k ≡ Some (f x)
get_map f xs k x e = slice_get-map f xs k ∙ ap (option_map f) e

pub map_get : {X Y : Type 0} (f : X → Y) (xs : List X) (k : ℕ) (y : Y) → slice_get (map f xs) k ≡ Some y → (x : X) × (slice_get xs k ≡ Some x) × (f x ≡ y)
map_get f [] k y e = absurd (none-some y e)
map_get f (x ∷ xs) zero y e = (x, refl, same_Some (f x) y e)
map_get f (x ∷ xs) (suc k) y e = map_get f xs k y e

-- two lists with the same items
pub same_items : {X : Type 0} (xs ys : List X) → length xs ≡ length ys → ((k : ℕ) (x : X) → slice_get xs k ≡ Some x → slice_get ys k ≡ Some x) → xs ≡ ys
same_items [] [] long each = refl
same_items [] (y ∷ ys) long each = absurd (omega (arith, long))
same_items (x ∷ xs) [] long each = absurd (omega (arith, long))
same_items (x ∷ xs) (y ∷ ys) long each =
    let rest = same_items xs ys (omega (arith, long)) (λ k z e. each (suc k) z e) in
    let first : y ≡ x = same_Some y x (each 0 x refl) in
    ap (λ (zs : List _). x ∷ zs) rest ∙ ap (λ z. z ∷ ys) (sym first)

same_number : (c : ℕ) → (c == c) ≡ true
same_number c = grind arith

other_number : (c k : ℕ) → c ≢ k → (c == k) ≡ false
other_number c k differs = elim (cases_Bool (c == k)) [ inl same ↦ absurd (differs (grind (arith, same))) | inr other ↦ other ]

first_moves : (i j : ℕ) → exchanged i j i ≡ j
first_moves i j = ap (λ t. cond t j (cond (i == j) i i)) (same_number i)

second_moves : (i j : ℕ) → exchanged i j j ≡ i
second_moves i j =
    elim (cases_eq j i) [
      | inl same ↦ ap (exchanged i j) same ∙ (first_moves i j ∙ same)
      | inr other ↦ ap (λ t. cond t j (cond (j == j) i j)) (other_number j i other) ∙ ap (λ t. cond t i j) (same_number j)
    ]

others_stay : (i j k : ℕ) → k ≢ i → k ≢ j → exchanged i j k ≡ k
others_stay i j k not_i not_j = ap (λ t. cond t j (cond (k == j) i k)) (other_number k i not_i) ∙ ap (λ t. cond t i k) (other_number k j not_j)

module _ (order at : List ℕ) (I : AreInverse order at) (i j a b : ℕ) (at_i : slice_get order i ≡ Some a) (at_j : slice_get order j ≡ Some b) where
  a_stands : slice_get at a ≡ Some i
  a_stands = I.forth i a at_i

  b_stands : slice_get at b ≡ Some j
  b_stands = I.forth j b at_j

  a_within : a < length at
  a_within = slice_get_within at a i a_stands

  b_within : b < length at
  b_within = slice_get_within at b j b_stands

  -- what stands at i is a, and nothing else
  not_first : (c k : ℕ) → slice_get at c ≡ Some k → c ≢ a → k ≢ i
  not_first c k at_c differs e = differs (same_Some c a (sym (I.back c k at_c) ∙ (ap (slice_get order) e ∙ at_i)))

  not_second : (c k : ℕ) → slice_get at c ≡ Some k → c ≢ b → k ≢ j
  not_second c k at_c differs e = differs (same_Some c b (sym (I.back c k at_c) ∙ (ap (slice_get order) e ∙ at_j)))

  pub exchange_is : slice_set (slice_set at a j) b i ≡ map (exchanged i j) at
  exchange_is = same_items (slice_set (slice_set at a j) b i) (map (exchanged i j) at) (rw (length-set, length-set, length-map) refl) each
    where
      each : (c k : ℕ) → slice_get (slice_set (slice_set at a j) b i) c ≡ Some k → slice_get (map (exchanged i j) at) c ≡ Some k
      each c k e =
          elim (get-set (slice_set at a j) b c i k e) [
            | inl h ↦ ap (slice_get (map (exchanged i j) at)) h.0 ∙ (get_map (exchanged i j) at b j b_stands ∙ ap Some (second_moves i j ∙ h.1))
            | inr h ↦ elim (get-set at a c j k h.1) [
              | inl l ↦ ap (slice_get (map (exchanged i j) at)) l.0 ∙ (get_map (exchanged i j) at a i a_stands ∙ ap Some (first_moves i j ∙ l.1))
              | inr l ↦ get_map (exchanged i j) at c k l.1 ∙ ap Some (others_stay i j k (not_first c k l.1 l.0) (not_second c k l.1 h.0))
            ]
          ]

  pub exchange_keeps : AreInverse (slice_set (slice_set order i b) j a) (slice_set (slice_set at a j) b i)
  exchange_keeps = record {
    long = rw (length-set, length-set, length-set, length-set) I.long;
    forth = forth;
    back = back;
  }
    where
      i_within : i < length order
      i_within = slice_get_within order i a at_i

      j_within : j < length order
      j_within = slice_get_within order j b at_j

      a_moved : slice_get (slice_set (slice_set at a j) b i) a ≡ Some j
      a_moved =
          elim (cases_eq a b) [
            | inl same ↦
                let one : i ≡ j = same_Some i j (sym a_stands ∙ (ap (slice_get at) same ∙ b_stands)) in
                ap (slice_get (slice_set (slice_set at a j) b i)) same ∙ (put_here (slice_set at a j) b i (rw length-set b_within) ∙ ap Some one)
            | inr other ↦ put_other (slice_set at a j) b a i other ∙ put_here at a j a_within
          ]

      b_moved : slice_get (slice_set (slice_set at a j) b i) b ≡ Some i
      b_moved = put_here (slice_set at a j) b i (rw length-set b_within)

      order_second : slice_get (slice_set (slice_set order i b) j a) j ≡ Some a
      order_second = put_here (slice_set order i b) j a (rw length-set j_within)

      order_first : slice_get (slice_set (slice_set order i b) j a) i ≡ Some b
      order_first =
          elim (cases_eq i j) [
            | inl same ↦
                let one : a ≡ b = same_Some a b (sym at_i ∙ (ap (slice_get order) same ∙ at_j)) in
                ap (slice_get (slice_set (slice_set order i b) j a)) same ∙ (order_second ∙ ap Some one)
            | inr other ↦ put_other (slice_set order i b) j i a other ∙ put_here order i b i_within
          ]

      forth : (k c : ℕ) → slice_get (slice_set (slice_set order i b) j a) k ≡ Some c → slice_get (slice_set (slice_set at a j) b i) c ≡ Some k
      forth k c e =
          elim (get-set (slice_set order i b) j k a c e) [
            | inl h ↦ ap (slice_get (slice_set (slice_set at a j) b i)) (sym h.1) ∙ (a_moved ∙ ap Some (sym h.0))
            | inr h ↦ elim (get-set order i k b c h.1) [
              | inl l ↦ ap (slice_get (slice_set (slice_set at a j) b i)) (sym l.1) ∙ (b_moved ∙ ap Some (sym l.0))
              | inr l ↦
                  let stands = I.forth k c l.1 in
                  let not_a : c ≢ a = λ q. l.0 (same_Some k i (sym stands ∙ (ap (slice_get at) q ∙ a_stands))) in
                  let not_b : c ≢ b = λ q. h.0 (same_Some k j (sym stands ∙ (ap (slice_get at) q ∙ b_stands))) in
                  put_other (slice_set at a j) b c i not_b ∙ (put_other at a c j not_a ∙ stands)
            ]
          ]

      back : (c k : ℕ) → slice_get (slice_set (slice_set at a j) b i) c ≡ Some k → slice_get (slice_set (slice_set order i b) j a) k ≡ Some c
      back c k e =
          elim (get-set (slice_set at a j) b c i k e) [
            | inl h ↦ ap (slice_get (slice_set (slice_set order i b) j a)) (sym h.1) ∙ (order_first ∙ ap Some (sym h.0))
            | inr h ↦ elim (get-set at a c j k h.1) [
              | inl l ↦ ap (slice_get (slice_set (slice_set order i b) j a)) (sym l.1) ∙ (order_second ∙ ap Some (sym l.0))
              | inr l ↦ put_other (slice_set order i b) j k a (not_second c k l.1 h.0) ∙ (put_other order i k b (not_first c k l.1 l.0) ∙ I.back c k l.1)
            ]
          ]

-- two that are both among the first n, or both after them: the first are the same as they were
pub first_stay : (n i j : ℕ) (at : List ℕ) → nat_lt i n ≡ nat_lt j n → are_first n (map (exchanged i j) at) ≡ are_first n at
first_stay n i j [] same = refl
first_stay n i j (k ∷ ks) same =
    ap (λ t. t ∷ are_first n (map (exchanged i j) ks)) (one k) ∙ ap (λ (ts : List Bool). nat_lt k n ∷ ts) (first_stay n i j ks same)
  where
    one : (k : ℕ) → nat_lt (exchanged i j k) n ≡ nat_lt k n
    one k =
        elim (cases_eq k i) [
          | inl is_i ↦ ap (λ m. nat_lt m n) (ap (exchanged i j) is_i ∙ first_moves i j) ∙ (sym same ∙ ap (λ m. nat_lt m n) (sym is_i))
          | inr not_i ↦ elim (cases_eq k j) [
            | inl is_j ↦ ap (λ m. nat_lt m n) (ap (exchanged i j) is_j ∙ second_moves i j) ∙ (same ∙ ap (λ m. nat_lt m n) (sym is_j))
            | inr not_j ↦ ap (λ m. nat_lt m n) (others_stay i j k not_i not_j)
          ]
        ]

-- two tests that differ at one place alone differ for the one block that stands there
one_differs : (f g : ℕ → Bool) (at : List ℕ) (block i : ℕ) → slice_get at block ≡ Some i → ((o : ℕ) → slice_get at o ≡ Some i → o ≡ block) → ((k : ℕ) → k ≢ i → f k ≡ g k)
    → map f at ≡ slice_set (map g at) block (f i)
one_differs f g at block i stands alone same = same_items (map f at) (slice_set (map g at) block (f i)) (rw (length-set, length-map, length-map) refl) each
  where
    each : (k : ℕ) (t : Bool) → slice_get (map f at) k ≡ Some t → slice_get (slice_set (map g at) block (f i)) k ≡ Some t
    each k t e =
        let m = map_get f at k t e in
        elim (cases_eq k block) [
          | inl here ↦
              let is_i : m.0 ≡ i = same_Some m.0 i (sym m.1 ∙ (ap (slice_get at) here ∙ stands)) in
              ap (slice_get (slice_set (map g at) block (f i))) here ∙ (put_here (map g at) block (f i) (rw length-map (slice_get_within at block i stands)) ∙ ap Some (ap f (sym is_i) ∙ m.2))
          | inr there ↦
              let not_i : m.0 ≢ i = λ q. there (alone k (m.1 ∙ ap Some q)) in
              put_other (map g at) block k (f i) there ∙ (get_map g at k m.0 m.1 ∙ ap Some (sym (same m.0 not_i) ∙ m.2))
        ]

map_map : {X Y Z : Type 0} (f : Y → Z) (h : X → Y) (xs : List X) → map f (map h xs) ≡ map (λ (x : X). f (h x)) xs
map_map f h [] = refl
map_map f h (x ∷ xs) = ap (λ (r : List _). f (h x) ∷ r) (map_map f h xs)

same_test : (m n k l : ℕ) → (m < n → k < l) → (k < l → m < n) → nat_lt m n ≡ nat_lt k l
same_test m n k l forth back =
    elim (cases_Bool (nat_lt m n)) [
      | inl less ↦ less ∙ sym (lt-ltb k l (forth (ltb-true m n less)))
      | inr more ↦ elim (cases_Bool (nat_lt k l)) [
        | inl wrong ↦ absurd (let le = ltb-false m n more in let lt = back (ltb-true k l wrong) in omega (arith, le, lt))
        | inr right ↦ more ∙ sym right
      ]
    ]

pub both_first : (n i j : ℕ) → i < n → j < n → nat_lt i n ≡ nat_lt j n
both_first n i j one other = same_test i n j n (λ lt. other) (λ lt. one)

pub both_after : (n i j : ℕ) → n ≤ i → n ≤ j → nat_lt i n ≡ nat_lt j n
both_after n i j one other = same_test i n j n (λ lt. absurd (omega (arith, lt, one))) (λ lt. absurd (omega (arith, lt, other)))

-- where a block stands that was put into another's place, and that nothing else does
pub moved_stands : (at : List ℕ) (block i j : ℕ) → slice_get at block ≡ Some i → slice_get (map (exchanged i j) at) block ≡ Some j
moved_stands at block i j stands = get_map (exchanged i j) at block i stands ∙ ap Some (first_moves i j)

pub moved_alone : (at : List ℕ) (block i j : ℕ) → ((o : ℕ) → slice_get at o ≡ Some i → o ≡ block) → (o : ℕ) → slice_get (map (exchanged i j) at) o ≡ Some j → o ≡ block
moved_alone at block i j alone o there =
    let m = map_get (exchanged i j) at o j there in
    elim (cases_eq m.0 i) [
      | inl is_i ↦ alone o (m.1 ∙ ap Some is_i)
      | inr not_i ↦ elim (cases_eq m.0 j) [
        | inl is_j ↦ alone o (m.1 ∙ ap Some (is_j ∙ sym (sym (second_moves i j) ∙ (ap (exchanged i j) (sym is_j) ∙ m.2))))
        | inr not_j ↦ absurd (not_j (sym (others_stay i j m.0 not_i not_j) ∙ m.2))
      ]
    ]

module _ (count : ℕ) (at : List ℕ) (block i : ℕ) (stands : slice_get at block ≡ Some i) (alone : (o : ℕ) → slice_get at o ≡ Some i → o ≡ block) where
  -- a block that was not among the first is the next of them
  pub first_added : count ≤ i → are_first (count + 1) (map (exchanged i count) at) ≡ slice_set (are_first count at) block true
  first_added past =
      map_map (λ k. nat_lt k (count + 1)) (exchanged i count) at
      ∙ (one_differs (λ k. nat_lt (exchanged i count k) (count + 1)) (λ k. nat_lt k count) at block i stands alone same
      ∙ ap (slice_set (are_first count at) block) (ap (λ m. nat_lt m (count + 1)) (first_moves i count) ∙ lt-ltb count (count + 1) (omega arith)))
    where
      same : (k : ℕ) → k ≢ i → nat_lt (exchanged i count k) (count + 1) ≡ nat_lt k count
      same k not_i =
          elim (cases_eq k count) [
            | inl is_count ↦ ap (λ m. nat_lt m (count + 1)) (ap (exchanged i count) is_count ∙ second_moves i count) ∙ same_test i (count + 1) k count (λ lt. absurd (not_i (omega (arith, lt, past, is_count)))) (λ lt. omega (arith, lt, is_count))
            | inr not_count ↦ ap (λ m. nat_lt m (count + 1)) (others_stay i count k not_i not_count) ∙ same_test k (count + 1) k count (λ lt. omega (arith, lt, not_count)) (λ lt. omega (arith, lt))
          ]

  -- and one that was is the last, and no longer among them
  pub first_removed : i ≤ count → are_first count (map (exchanged i count) at) ≡ slice_set (are_first (count + 1) at) block false
  first_removed among =
      map_map (λ k. nat_lt k count) (exchanged i count) at
      ∙ (one_differs (λ k. nat_lt (exchanged i count k) count) (λ k. nat_lt k (count + 1)) at block i stands alone same
      ∙ ap (slice_set (are_first (count + 1) at) block) (ap (λ m. nat_lt m count) (first_moves i count) ∙ same_test count count 1 0 (λ lt. omega (arith, lt)) (λ lt. omega (arith, lt))))
    where
      same : (k : ℕ) → k ≢ i → nat_lt (exchanged i count k) count ≡ nat_lt k (count + 1)
      same k not_i =
          elim (cases_eq k count) [
            | inl is_count ↦ ap (λ m. nat_lt m count) (ap (exchanged i count) is_count ∙ second_moves i count) ∙ same_test i count k (count + 1) (λ lt. omega (arith, is_count)) (λ lt. differ k is_count not_i)
            | inr not_count ↦ ap (λ m. nat_lt m count) (others_stay i count k not_i not_count) ∙ same_test k count k (count + 1) (λ lt. omega (arith, lt)) (λ lt. omega (arith, lt, not_count))
          ]
        where
          differ : (k : ℕ) → k ≡ count → k ≢ i → i < count
          differ k is not_i = elim (cases_eq i count) [ inl last ↦ absurd (not_i (is ∙ sym last)) | inr before ↦ omega (arith, among, before) ]

-- how many there are, where one is noted anew
pub count_noted : (flags : List Bool) (block : ℕ) (old new : Bool) → slice_get flags block ≡ Some old
    → count_by (λ (t : Bool). t) (slice_set flags block new) + cond old 1 0 ≡ count_by (λ (t : Bool). t) flags + cond new 1 0
count_noted flags block old new e =
    let r = sum_by-set (λ (t : Bool). cond t 1 0) flags block new old (slice_get_within flags block old e) in
    rw (get_or_from_slice_get flags block old old e) at r
