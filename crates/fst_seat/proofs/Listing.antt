-- The blocks in memory, and the dirty ones among them, are the first of all in their places: as one comes and one goes, and as one becomes dirty and one clean.
use Rattle.std.proofs.Common.{◌≡◌, ◌<◌, ◌≤◌, ◌+◌, ◌-◌, ℕ, Bool, true, false, List, [], ◌∷◌, map, Some, None, nat_lt, is_some, refl, sym, ap, subst, ◌∙◌, inl, inr, arith, length, replicate, slice_get, slice_set, count_by}
use Rattle.std.specs.Prelude.{Result, Ok, Err, IsErr, IsSome, OnOk, is_ok}
use Rattle.std.proofs.lemmas.Bool.{cases_Bool, lt-ltb, ltb-true, ltb-false}
use Rattle.std.proofs.lemmas.List.{set-get_or, length-map}
use Rattle.std.proofs.lemmas.Option.{same_Some, get_or_from_slice_get}
use Rattle.fst_seat.specs.Places.{exchanged, are_first, StandInRuns}
use Rattle.fst_seat.specs.Seats.{SeatView}
use Rattle.fst_seat.specs.Residing.{are_loaded, count_loaded}
use Rattle.fst_seat.proofs.Counts.{count_mapped}
use Rattle.fst_seat.proofs.Exchanging.{get_map, first_stay, both_first, both_after, moved_stands, moved_alone, first_added, first_removed, count_noted}

-- what a list says of a block, and of its place
past_of : (count : ℕ) (at : List ℕ) (block i : ℕ) (t : Bool) → slice_get at block ≡ Some i → slice_get (are_first count at) block ≡ Some t → nat_lt i count ≡ t
past_of count at block i t stands listed = same_Some (nat_lt i count) t (sym (get_map (λ k. nat_lt k count) at block i stands) ∙ listed)

pub among : (count : ℕ) (at : List ℕ) (block i : ℕ) → slice_get at block ≡ Some i → slice_get (are_first count at) block ≡ Some true → i < count
among count at block i stands there = ltb-true i count (past_of count at block i true stands there)

pub after : (count : ℕ) (at : List ℕ) (block i : ℕ) → slice_get at block ≡ Some i → slice_get (are_first count at) block ≡ Some false → count ≤ i
after count at block i stands away = ltb-false i count (past_of count at block i false stands away)

pub there_at : (count : ℕ) (at : List ℕ) (block i : ℕ) → slice_get at block ≡ Some i → i < count → slice_get (are_first count at) block ≡ Some true
there_at count at block i stands lt = get_map (λ k. nat_lt k count) at block i stands ∙ ap Some (lt-ltb i count lt)

pub away_at : (count : ℕ) (at : List ℕ) (block i : ℕ) → slice_get at block ≡ Some i → count ≤ i → slice_get (are_first count at) block ≡ Some false
away_at count at block i stands past =
    get_map (λ k. nat_lt k count) at block i stands
    ∙ ap Some (elim (cases_Bool (nat_lt i count)) [
      | inl less ↦ absurd (let lt = ltb-true i count less in omega (arith, lt, past))
      | inr not ↦ not
    ])

pub same_noted : {X : Type 0} (xs : List X) (b : ℕ) (x : X) → slice_get xs b ≡ Some x → slice_set xs b x ≡ xs
same_noted xs b x e = ap (slice_set xs b) (sym (get_or_from_slice_get xs b x x e)) ∙ set-get_or xs b x

none_before : (k : ℕ) → nat_lt k 0 ≡ false
none_before k = elim (cases_Bool (nat_lt k 0)) [
  | inl less ↦ absurd (let lt = ltb-true k 0 less in omega (arith, lt))
  | inr not ↦ not
]

-- none of them is in memory
pub none_first : (at : List ℕ) (n : ℕ) → length at ≡ n → are_first 0 at ≡ replicate n false
none_first at n long = subst (λ (m : ℕ). are_first 0 at ≡ replicate m false) long (each at)
  where
    each : (at : List ℕ) → are_first 0 at ≡ replicate (length at) false
    each [] = refl
    each (k ∷ ks) = ap (λ (t : Bool). t ∷ are_first 0 ks) (none_before k) ∙ ap (λ (ts : List Bool). false ∷ ts) (each ks)

pub none_counted : (at : List ℕ) → 0 ≡ count_by (λ (t : Bool). t) (are_first 0 at)
none_counted [] = refl
none_counted (k ∷ ks) = none_counted ks ∙ ap (λ (t : Bool). count_by (λ (u : Bool). u) (t ∷ are_first 0 ks)) (sym (none_before k))

abbrev IsRun : ℕ → List ℕ → Type 0
IsRun n at = n ≡ count_by (λ (t : Bool). t) (are_first n at)

module _ (at : List ℕ) (block i : ℕ) (stands : slice_get at block ≡ Some i) (alone : (o : ℕ) → slice_get at o ≡ Some i → o ≡ block) where
  -- a run is one longer, or one shorter, by this block
  longer : (n : ℕ) (now : List ℕ) → n ≤ i → IsRun n at → are_first (n + 1) now ≡ slice_set (are_first n at) block true → IsRun (n + 1) now
  longer n now past run is = let r = count_noted (are_first n at) block false true (away_at n at block i stands past) in rw is (omega (arith, r, run))

  shorter : (n : ℕ) (now : List ℕ) → i < n → IsRun n at → are_first (n - 1) now ≡ slice_set (are_first n at) block false → IsRun (n - 1) now
  shorter n now lt run is = let r = count_noted (are_first n at) block true false (there_at n at block i stands lt) in rw is (omega (arith, r, run, lt))

  -- the last of a run takes the block's place, and the block the place after it
  left : (n : ℕ) → i < n → are_first (n - 1) (map (exchanged i (n - 1)) at) ≡ slice_set (are_first n at) block false
  left n lt =
      let one : n - 1 + 1 ≡ n = omega (arith, lt) in
      first_removed (n - 1) at block i stands alone (omega (arith, lt)) ∙ ap (λ (m : ℕ). slice_set (are_first m at) block false) one

  module _ (dirty hand count : ℕ) (R : StandInRuns at dirty hand count) where
    -- the block comes into memory, and is put where the hand was
    module _ (past : count ≤ i) where
      abbrev pub once_added : List ℕ
      once_added = map (exchanged count hand) (map (exchanged i count) at)

      pub added : are_first (count + 1) once_added ≡ slice_set (are_first count at) block true
      added =
          let lt : hand < count + 1 = omega (arith, R.hand_within) in
          first_stay (count + 1) count hand (map (exchanged i count) at) (both_first (count + 1) count hand (omega arith) lt) ∙ first_added count at block i stands alone past

      pub added_dirty : are_first dirty once_added ≡ are_first dirty at
      added_dirty =
          let behind : dirty ≤ count = omega (arith, R.before_hand, R.hand_within) in
          first_stay dirty count hand (map (exchanged i count) at) (both_after dirty count hand behind R.before_hand) ∙ first_stay dirty i count at (both_after dirty i count (omega (arith, behind, past)) behind)

      pub added_runs : StandInRuns once_added dirty (hand + 1) (count + 1)
      added_runs = record {
        before_hand = omega (arith, R.before_hand);
        hand_within = omega (arith, R.hand_within);
        all_dirty = rw added_dirty R.all_dirty;
        all_there = longer count once_added past R.all_there added;
        few = rw (length-map, length-map) R.few;
      }

    -- the block, which is clean, leaves the memory
    module _ (clean : dirty ≤ i) (there : i < count) where
      abbrev pub once_removed : List ℕ
      once_removed = map (exchanged i (count - 1)) at

      pub removed : are_first (count - 1) once_removed ≡ slice_set (are_first count at) block false
      removed = left count there

      pub removed_dirty : are_first dirty once_removed ≡ are_first dirty at
      removed_dirty = first_stay dirty i (count - 1) at (both_after dirty i (count - 1) clean (omega (arith, clean, there)))

      pub removed_runs : StandInRuns once_removed dirty i (count - 1)
      removed_runs = record {
        before_hand = clean;
        hand_within = omega (arith, there);
        all_dirty = rw removed_dirty R.all_dirty;
        all_there = shorter count once_removed there R.all_there removed;
        few = rw length-map R.few;
      }

      -- the block becomes dirty, through a place that the hand has passed
      module _ (through : ℕ) (first : dirty ≤ through) (last : through ≤ i) where
        abbrev pub once_dirty : List ℕ
        once_dirty = map (exchanged through dirty) (map (exchanged i through) at)

        pub marked : are_first (dirty + 1) once_dirty ≡ slice_set (are_first dirty at) block true
        marked =
            first_added dirty (map (exchanged i through) at) block through (moved_stands at block i through stands) (moved_alone at block i through alone) first
            ∙ ap (λ (ts : List Bool). slice_set ts block true) (first_stay dirty i through at (both_after dirty i through clean first))

        pub marked_there : are_first count once_dirty ≡ are_first count at
        marked_there =
            let within : through < count = omega (arith, last, there) in
            first_stay count through dirty (map (exchanged i through) at) (both_first count through dirty within (omega (arith, first, within)))
            ∙ first_stay count i through at (both_first count i through there within)

        pub marked_runs : (next : ℕ) → dirty + 1 ≤ next → next ≤ count → StandInRuns once_dirty (dirty + 1) next count
        marked_runs next more within = record {
          before_hand = more;
          hand_within = within;
          all_dirty = longer dirty once_dirty clean R.all_dirty marked;
          all_there = rw marked_there R.all_there;
          few = rw (length-map, length-map) R.few;
        }

    -- the block becomes clean
    module _ (was : i < dirty) where
      abbrev pub once_clean : List ℕ
      once_clean = map (exchanged i (dirty - 1)) at

      pub cleaned : are_first (dirty - 1) once_clean ≡ slice_set (are_first dirty at) block false
      cleaned = left dirty was

      pub cleaned_there : are_first count once_clean ≡ are_first count at
      cleaned_there =
          let few : dirty ≤ count = omega (arith, R.before_hand, R.hand_within) in
          first_stay count i (dirty - 1) at (both_first count i (dirty - 1) (omega (arith, was, few)) (omega (arith, was, few)))

      pub cleaned_runs : StandInRuns once_clean (dirty - 1) hand count
      cleaned_runs = record {
        before_hand = omega (arith, R.before_hand);
        hand_within = R.hand_within;
        all_dirty = shorter dirty once_clean was R.all_dirty cleaned;
        all_there = rw cleaned_there R.all_there;
        few = rw length-map R.few;
      }

-- as many are listed as are in memory
pub loaded_counted : (flags : List Bool) (seats : List SeatView) → flags ≡ are_loaded seats → count_by (λ (t : Bool). t) flags ≡ count_loaded seats
loaded_counted flags seats listed = ap (count_by (λ (t : Bool). t)) listed ∙ count_mapped (λ (t : Bool). t) (λ (t : SeatView). is_some t.loaded) seats

-- what is listed of one seat
pub listed_at : (flags : List Bool) (seats : List SeatView) (b : ℕ) (seat : SeatView) → flags ≡ are_loaded seats → slice_get seats b ≡ Some seat → slice_get flags b ≡ Some (is_some seat.loaded)
listed_at flags seats b seat listed at_b = ap (λ (ts : List Bool). slice_get ts b) listed ∙ get_map (λ (t : SeatView). is_some t.loaded) seats b seat at_b

-- a block is in memory where its read succeeded
pub read_noted : {T E : Type 0} (r : Result T E) (new : SeatView) {P : Type 0} → OnOk r (IsSome new.loaded) → (IsErr r → P × (new.loaded ≡ None)) → is_some new.loaded ≡ is_ok r
read_noted (Ok x) new there away = there
read_noted (Err x) new there away = ap is_some (away refl).1
