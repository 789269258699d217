-- Which of the rings that were looked at has a free place and the fewest jobs out.
use Rattle.std.proofs.Common.{◌≡◌, ◌<◌, ◌≤◌, ◌+◌, ◌-◌, ◌⊎◌, ℕ, List, Option, Some, None, length, map, refl, sym, ap, subst, ◌∙◌, inl, inr, arith}
use Rattle.std.proofs.lemmas.Bool.{cases_lt, cases_eq}
use Rattle.std.proofs.lemmas.List.{length-map, length-set}
use Rattle.std.specs.Prelude.{MatchOption, slice_index_or, slice_set}
use Rattle.fst_pairs.specs.declared.lane.Lane.{Lane}
use Rattle.fst_pairs.specs.LaneView.{ends_of, free_of, HasRoom}
use Rattle.fst_pairs.specs.Places.{HasPlace, IsFull, IsRoomiest, Looks, outs}
use Rattle.fst_pairs.proofs.Deskwork.{index_map, map_set, set_here, set_there}

-- of the rings before the n-th, the best one, which has so many jobs out
pub record IsBest (out free : List ℕ) (n i few : ℕ) : Type 0 where
  pub before : i < n
  pub place : HasPlace out free i
  pub many : slice_index_or out i 0 ≡ few
  pub fewest : (j : ℕ) → j < n → HasPlace out free j → few ≤ slice_index_or out j 0
  pub lowest : (j : ℕ) → j < n → HasPlace out free j → slice_index_or out j 0 ≡ few → i ≤ j

-- no ring before the n-th has a place
pub record NoneBefore (out free : List ℕ) (n fewest : ℕ) : Type 0 where
  pub most : fewest ≡ 64
  pub none : (j : ℕ) → j < n → HasPlace out free j → ⊥

abbrev pub Best : (out free : List ℕ) → ℕ → Option ℕ → ℕ → Type 0
Best out free n best fewest = MatchOption best (NoneBefore out free n fewest) (λ i. IsBest out free n i fewest)

module _ (out free : List ℕ) (n f : ℕ) where
  abbrev new : List ℕ
  new = slice_set free n f

  -- the look at the n-th ring tells nothing of those before it
  place_before : (j : ℕ) → j < n → HasPlace out new j → HasPlace out free j
  place_before j lt h = (h.0, h.1, subst (λ k. 0 < k) (set_there free n j f 0 (λ e. omega (arith, e, lt))) h.2)

  place_kept : (j : ℕ) → j < n → HasPlace out free j → HasPlace out new j
  place_kept j lt h = (h.0, h.1, subst (λ k. 0 < k) (sym (set_there free n j f 0 (λ e. omega (arith, e, lt)))) h.2)

  -- one before the n-th, or the n-th
  last_or : (j : ℕ) → j < n + 1 → (j < n) ⊎ (j ≡ n)
  last_or j lt = elim (cases_lt j n) [ inl before ↦ inl before | inr past ↦ inr (omega (arith, lt, past)) ]

  -- the n-th ring has a place and fewer jobs out than the best before it
  pub takes_it : (best : Option ℕ) (fewest : ℕ) → Best out free n best fewest → HasPlace out new n → slice_index_or out n 0 < fewest → IsBest out new (n + 1) n (slice_index_or out n 0)
  takes_it best fewest b here less = record {
    before = omega arith;
    place = here;
    many = refl;
    fewest = λ j lt h. elim (last_or j lt) [
      | inl before ↦ let more = above best b j before (place_before j before h) in omega (arith, more, less)
      | inr same ↦ rw same (omega arith)
    ];
    lowest = λ j lt h e. elim (last_or j lt) [
      | inl before ↦ let more = above best b j before (place_before j before h) in absurd (omega (arith, more, less, e))
      | inr same ↦ omega (arith, same)
    ];
  }
    where
      above : (best : Option ℕ) → Best out free n best fewest → (j : ℕ) → j < n → HasPlace out free j → fewest ≤ slice_index_or out j 0
      above None b j lt h = absurd (b.none j lt h)
      above (Some i) b j lt h = b.fewest j lt h

  -- it has no place, or not fewer
  pub passes_it : (best : Option ℕ) (fewest : ℕ) → Best out free n best fewest → (HasPlace out new n → fewest ≤ slice_index_or out n 0) → Best out new (n + 1) best fewest
  passes_it None fewest b more = record {
    most = b.most;
    none = λ j lt h. elim (last_or j lt) [
      | inl before ↦ b.none j before (place_before j before h)
      | inr same ↦ let here = subst (HasPlace out new) same h in let many = more here in let few = here.1 in let most = b.most in omega (arith, many, few, most)
    ];
  }
  passes_it (Some i) fewest b more = record {
    before = let lt = b.before in omega (arith, lt);
    place = place_kept i b.before b.place;
    many = b.many;
    fewest = λ j lt h. elim (last_or j lt) [
      | inl before ↦ b.fewest j before (place_before j before h)
      | inr same ↦ subst (λ k. fewest ≤ slice_index_or out k 0) (sym same) (more (subst (HasPlace out new) same h))
    ];
    lowest = λ j lt h e. elim (last_or j lt) [
      | inl before ↦ b.lowest j before (place_before j before h) e
      | inr same ↦ let lt = b.before in omega (arith, lt, same)
    ];
  }

-- all rings were looked at
pub best_is : (out free : List ℕ) (best : Option ℕ) (fewest : ℕ) (n : ℕ) → length out ≤ n → Best out free n best fewest → MatchOption best (IsFull out free) (λ i. IsRoomiest out free i)
best_is out free None fewest n all b = λ i h. b.none i (let lt = h.0 in omega (arith, lt, all)) h
best_is out free (Some i) fewest n all b = record {
  place = b.place;
  fewest = λ j h. let few = b.fewest j (let lt = h.0 in omega (arith, lt, all)) h in let many = b.many in omega (arith, few, many);
  lowest = λ j h e. b.lowest j (let lt = h.0 in omega (arith, lt, all)) h (e ∙ b.many);
}

-- a look at one ring
pub looks_one : (old now : List ℕ) (n f : ℕ) → Looks old now → n < length now → slice_index_or now n 0 ≤ f → Looks old (slice_set now n f)
looks_one old now n f l inside more = record {
  many = length-set now n f ∙ l.many;
  kept = λ i. elim (cases_eq i n) [
    | inl same ↦ subst (λ k. slice_index_or old k 0 ≤ slice_index_or (slice_set now n f) k 0) (sym same) (let before = l.kept n in let is = set_here now n f 0 inside in omega (arith, before, more, is))
    | inr other ↦ subst (λ k. slice_index_or old i 0 ≤ k) (sym (set_there now n i f 0 other)) (l.kept i)
  ];
}

pub looks_same : (xs : List ℕ) → Looks xs xs
looks_same xs = record { many = refl; kept = λ i. omega arith }

module _ {S : Type 0} where
  -- how many jobs are out with the i-th worker
  pub out_at : {A : Type 0} (lanes : List (Lane S A)) (i : ℕ) (lane : Lane S A) → i < length lanes → lane ≡ slice_index_or lanes i lane → slice_index_or (outs (map ends_of lanes)) i 0 ≡ length lane.out.items
  out_at lanes i lane lt at =
      index_map (λ ends. length ends.out) (map ends_of lanes) i (ends_of lane) 0 (subst (λ n. i < n) (sym (length-map lanes ends_of)) lt)
      ∙ ap (λ ends. length ends.out) (index_map ends_of lanes i lane (ends_of lane) lt ∙ ap ends_of (sym at))

  pub free_at : {A : Type 0} (lanes : List (Lane S A)) (i : ℕ) (lane : Lane S A) → i < length lanes → lane ≡ slice_index_or lanes i lane → slice_index_or (map free_of lanes) i 0 ≡ free_of lane
  free_at lanes i lane lt at = index_map free_of lanes i lane 0 lt ∙ ap free_of (sym at)

  pub outs_length : {A : Type 0} (lanes : List (Lane S A)) → length (outs (map ends_of lanes)) ≡ length lanes
  outs_length lanes = length-map (map ends_of lanes) (λ ends. length ends.out) ∙ length-map lanes ends_of

  -- a look at the ring of one lane
  module _ {A : Type 0} (before lanes : List (Lane S A)) (n : ℕ) (lane seen : Lane S A) (same : map ends_of lanes ≡ map ends_of before) (lt : n < length lanes) (at : lane ≡ slice_index_or lanes n lane) (kept : ends_of seen ≡ ends_of lane) where
    abbrev out : List ℕ
    out = outs (map ends_of before)

    abbrev free : List ℕ
    free = map free_of lanes

    out_here : slice_index_or out n 0 ≡ length lane.out.items
    out_here = subst (λ xs. slice_index_or (outs xs) n 0 ≡ length lane.out.items) same (out_at lanes n lane lt at)

    free_here : slice_index_or (slice_set free n (free_of seen)) n 0 ≡ free_of seen
    free_here = set_here free n (free_of seen) 0 (subst (λ k. n < k) (sym (length-map lanes free_of)) lt)

    within : n < length out
    within = subst (λ k. n < k) (sym (outs_length before ∙ (sym (length-map before ends_of) ∙ (ap length (sym same) ∙ length-map lanes ends_of)))) lt

    has_place : HasRoom seen → HasPlace out (slice_set free n (free_of seen)) n
    has_place room = let noted = ap (λ ends. length ends.out) kept in let few = room.0 in (within, omega (arith, out_here, noted, few), subst (λ k. 0 < k) (sym free_here) room.1)

    has_room : HasPlace out (slice_set free n (free_of seen)) n → HasRoom seen
    has_room place = let noted = ap (λ ends. length ends.out) kept in let few = place.1 in (omega (arith, out_here, noted, few), subst (λ k. 0 < k) free_here place.2)

    pub room_taken : (best : Option ℕ) (fewest : ℕ) → Best out free n best fewest → HasRoom seen → length lane.out.items < fewest → IsBest out (map free_of (slice_set lanes n seen)) (n + 1) n (length lane.out.items)
    room_taken best fewest b room less =
        rw (map_set free_of lanes n seen, ← out_here) (takes_it out free n (free_of seen) best fewest b (has_place room) (omega (arith, out_here, less)))

    pub room_passed : (best : Option ℕ) (fewest : ℕ) → Best out free n best fewest → (HasRoom seen → fewest ≤ length lane.out.items) → Best out (map free_of (slice_set lanes n seen)) (n + 1) best fewest
    room_passed best fewest b more =
        rw (map_set free_of lanes n seen) (passes_it out free n (free_of seen) best fewest b (λ place. let many = more (has_room place) in omega (arith, out_here, many)))

    pub room_looked : (old : List ℕ) → Looks old free → free_of lane ≤ free_of seen → Looks old (map free_of (slice_set lanes n seen))
    room_looked old l more =
        let inside : n < length free = subst (λ k. n < k) (sym (length-map lanes free_of)) lt in
        let is = free_at lanes n lane lt at in
        rw (map_set free_of lanes n seen) (looks_one old free n (free_of seen) l inside (omega (arith, is, more)))

  -- the lane of a ring with a place has room
  pub room_there : {A : Type 0} (lanes : List (Lane S A)) (i : ℕ) (lane : Lane S A) → i < length lanes → lane ≡ slice_index_or lanes i lane → HasPlace (outs (map ends_of lanes)) (map free_of lanes) i → HasRoom lane
  room_there lanes i lane lt at place =
      let few = place.1 in
      let some = place.2 in
      let out = out_at lanes i lane lt at in
      let free = free_at lanes i lane lt at in
      (omega (arith, few, out), omega (arith, some, free))

  -- the lane of the roomiest ring
  pub inside_of : {A : Type 0} (before lanes : List (Lane S A)) (i : ℕ) → map ends_of lanes ≡ map ends_of before → i < length (outs (map ends_of before)) → i < length lanes
  inside_of before lanes i same lt =
      let many : length lanes ≡ length before = sym (length-map lanes ends_of) ∙ (ap length same ∙ length-map before ends_of) in
      let all = outs_length before in
      omega (arith, lt, many, all)

  pub roomiest_there : {A : Type 0} (before lanes : List (Lane S A)) (i : ℕ) (lane : Lane S A) → map ends_of lanes ≡ map ends_of before → lane ≡ slice_index_or lanes i lane → HasPlace (outs (map ends_of before)) (map free_of lanes) i → HasRoom lane
  roomiest_there before lanes i lane same at place =
      room_there lanes i lane (inside_of before lanes i same place.0) at (subst (λ xs. HasPlace (outs xs) (map free_of lanes) i) (sym same) place)

  -- a job took a place of it
  pub free_taken : {A : Type 0} (lanes : List (Lane S A)) (i : ℕ) (lane sent : Lane S A) → i < length lanes → lane ≡ slice_index_or lanes i lane → free_of lane ≡ free_of sent + 1
      → map free_of (slice_set lanes i sent) ≡ slice_set (map free_of lanes) i (slice_index_or (map free_of lanes) i 0 - 1)
  free_taken lanes i lane sent lt at one =
      let is = free_at lanes i lane lt at in
      let left : free_of sent ≡ slice_index_or (map free_of lanes) i 0 - 1 = omega (arith, is, one) in
      map_set free_of lanes i sent ∙ ap (slice_set (map free_of lanes) i) left
