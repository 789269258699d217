-- Along a run a block's image, and what a crash leaves of it, are its first bytes with the changes that are out.
use Rattle.std.proofs.Common.{◌≡◌, ◌⊎◌, ℕ, ◌+◌, ◌<◌, Bool, true, false, cond, not, List, [], ◌∷◌, length, map, filter, Contains, Option, Some, None, refl, sym, ap, subst, ◌∙◌, inl, inr}
use Rattle.std.specs.Prelude.{◌==◌, ◌&&◌}
use Rattle.std.proofs.lemmas.Bool.{cases_Bool, cases_lt, eqb-true}
use Rattle.fst_types.specs.declared.place.Place.TheVariants as place
use Rattle.fst_types.specs.Patches.{Patch, IsOn}
use Rattle.fst_types.specs.Tests.{is_change_at}
use Rattle.fst_types.specs.Fold.{Write, fold}
use Rattle.fst_types.specs.State.{State, Flight, committed, flight_of}
use Rattle.fst_types.specs.Bytes.{write_of, changes_at}
use Rattle.fst_types.specs.Crash.{crash}
use Rattle.fst_types.specs.Run.{ChangeMade, ShareByte}
use Rattle.fst_types.proofs.Finite.{In, In-from_Contains, Contains-from_In}
use Rattle.fst_types.proofs.Crash.{same_number}
use Rattle.fst_types.proofs.Landing.{change_at, at_change}
use Rattle.fst_types.proofs.Dropping.{filter_in, in_filter}
use Rattle.fst_types.proofs.Folds.{Apart, AllApart, Sorts, fold_parts}
use Rattle.fst_types.proofs.Ascends.{Ascends, ascends_from, ascends_filter, filter_same, filter_within, same_items}
use Rattle.fst_types.proofs.Numbers.{is_live_number, is_number_in_memory, clash, both, in_flight, memory_disk, memory_flight, flight_disk, one_block, live_cases, memory_cases, equal_test, true_not}
use Rattle.fst_types.proofs.Along.{is_down, down_of, is_out, out_of, Along, on_block, part_fits}

apart_all : {X : Type 0} (v : Write) (of : X → Write) (xs : List X) → ((x : X) → In xs x → Apart v (of x)) → AllApart v (map of xs)
apart_all v of [] f = tt
apart_all v of (x ∷ xs) f = (f x (inl refl), apart_all v of xs (λ y h. f y (inr h)))

sorts_from : {X : Type 0} (number : X → ℕ) (of : X → Write) (late : X → Bool) (xs : List X) → Ascends number xs
    → ((x y : X) → In xs x → In xs y → number x < number y → late x ≡ true → late y ≡ false → Apart (of x) (of y)) → Sorts of late xs
sorts_from number of late [] a f = tt
sorts_from number of late (x ∷ xs) a f = (
  λ is_late. apart_all (of x) of (filter (λ y. not (late y)) xs) (λ y h. let k = filter_in (λ y. not (late y)) xs y h in f x y (inl refl) (inr k.0) (a.0 y k.0) is_late (untrue (late y) k.1)),
  sorts_from number of late xs a.1 (λ y z i j. f y z (inr i) (inr j)),
)
  where
    untrue : (x : Bool) → not x ≡ true → x ≡ false
    untrue true e = sym e
    untrue false e = refl

-- two writes share a byte, or are apart
byte_cases : (c d : ChangeMade) → c.block ≡ d.block → ShareByte c d ⊎ Apart c.write d.write
byte_cases c d same =
    elim (cases_lt c.write.at (d.write.at + length d.write.bytes)) [
      | inl before ↦ elim (cases_lt d.write.at (c.write.at + length c.write.bytes)) [
        | inl after ↦ inl (record { block = d.block; first = ap Some same; second = refl; starts_before = before; ends_after = after })
        | inr past ↦ inr (inl past)
      ]
      | inr past ↦ inr (inr past)
    ]

all_true : (x y z : Bool) → x ≡ true → y ≡ false → z ≡ true → ((x && not y) && z) ≡ true
all_true x y z a b c = rw (a, b, c) refl

-- what is live and not in memory is left out either way
out_and_down : (x m l : Bool) → (m ≡ true → l ≡ true) → ((x && not m) && not l) ≡ (x && not l)
out_and_down false m l f = refl
out_and_down true true l f = sym (ap not (f refl))
out_and_down true false l f = refl

module _ (first s : State) (made : List ChangeMade) (A : Along first s made) where
  -- a number in memory is live
  memory_lives : (n : ℕ) → is_number_in_memory s.heads n ≡ true → is_live_number s.heads n ≡ true
  memory_lives n e =
      elim (live_cases s.heads n) [
        | inl r ↦ r.4
        | inr d ↦ elim (memory_cases s.heads n) [
          | inl r ↦ absurd (memory_disk r.0.place r.3 (d.0 r.0 r.1 r.2))
          | inr m ↦ absurd (clash (is_number_in_memory s.heads n) e m.1)
        ]
      ]

  module _ (b : ℕ) where
    abbrev is_late : ChangeMade → Bool
    is_late c = is_live_number s.heads c.number

    -- a change of b in flight
    abbrev is_flown : ChangeMade → Bool
    is_flown c = is_out s b c && is_late c

    sorted : Sorts (λ c. c.write) is_late (filter (is_out s b) made)
    sorted =
        sorts_from (λ c. c.number) (λ c. c.write) is_late (filter (is_out s b) made) (ascends_filter (λ c. c.number) (is_out s b) made A.ascends)
        (λ c d i j lt late early.
        let k = filter_in (is_out s b) made c i in
        let l = filter_in (is_out s b) made d j in
        let on_c = eqb-true c.block b (both (c.block == b) (not (is_number_in_memory s.heads c.number)) k.1).0 in
        let on_d = eqb-true d.block b (both (d.block == b) (not (is_number_in_memory s.heads d.number)) l.1).0 in
        elim (byte_cases c d (on_c ∙ sym on_d)) [
          | inr apart ↦ apart
          | inl share ↦ elim (live_cases s.heads d.number) [
            | inl r ↦ absurd (clash (is_late d) r.4 early)
            | inr e ↦ elim (live_cases s.heads c.number) [
              | inl r ↦ absurd (r.3 (A.order c d k.0 l.0 lt share e.0 r.0 r.1 r.2))
              | inr f ↦ absurd (clash (is_late c) late f.1)
            ]
          ]
        ])

    -- what is in flight of b wrote what the heads have
    flown_writes : map (λ c. c.write) (filter is_flown made) ≡ map (write_of s) (changes_at s place.Flight b)
    flown_writes =
        same_items (λ c. c.number) (λ p. p.number) (λ c. c.write) (write_of s) (filter is_flown made) (changes_at s place.Flight b)
        (ascends_filter (λ c. c.number) is_flown made A.ascends)
        (ascends_filter (λ p. p.number) (is_change_at place.Flight b) s.heads (ascends_from (λ p. p.number) s.heads A.lawful.heads.one_place_each.rising))
        into back
        (λ c p i j e. let m = A.kept c p (filter_in is_flown made c i).0 (Contains-from_In s.heads p (filter_in (is_change_at place.Flight b) s.heads p j).0) (sym e) in rw (m.at, m.bytes) refl)
      where
        into : (c : ChangeMade) → In (filter is_flown made) c → (p : Patch) × In (changes_at s place.Flight b) p × (p.number ≡ c.number)
        into c i =
            let k = filter_in is_flown made c i in
            let out = both (is_out s b c) (is_late c) k.1 in
            let on_b = both (c.block == b) (not (is_number_in_memory s.heads c.number)) out.0 in
            elim (live_cases s.heads c.number) [
              | inr d ↦ absurd (clash (is_late c) out.1 d.1)
              | inl r ↦ elim (memory_cases s.heads c.number) [
                | inl m ↦ absurd (clash (is_number_in_memory s.heads c.number) m.4 (true_not (is_number_in_memory s.heads c.number) on_b.1))
                | inr m ↦ (
                  r.0,
                  in_filter (is_change_at place.Flight b) s.heads r.0 (In-from_Contains s.heads r.0 r.1)
                      (at_change place.Flight b r.0 (subst (IsOn r.0) (eqb-true c.block b on_b.0) (A.kept c r.0 k.0 r.1 r.2).block) (in_flight r.0.place r.3 (m.0 r.0 r.1 r.2))),
                  r.2,
                )
              ]
            ]

        back : (p : Patch) → In (changes_at s place.Flight b) p → (c : ChangeMade) × In (filter is_flown made) c × (c.number ≡ p.number)
        back p i =
            let k = filter_in (is_change_at place.Flight b) s.heads p i in
            let h = Contains-from_In s.heads p k.0 in
            let at = change_at place.Flight b p k.1 in
            let c = A.known p b h at.0 in
            let on_b = one_block p c.0.block b (A.kept c.0 p c.1 h (sym c.2)).block at.0 in
            (c.0, in_filter is_flown made c.0 c.1 (all_true (c.0.block == b) (is_number_in_memory s.heads c.0.number) (is_late c.0) (equal_test c.0.block b on_b) (no_memory p c.0 h at.1 c.2) (lives p c.0 h at.1 c.2)), c.2)
          where
            no_memory : (p : Patch) (c : ChangeMade) → Contains s.heads p → p.place ≡ place.Flight → c.number ≡ p.number → is_number_in_memory s.heads c.number ≡ false
            no_memory p c h flight e =
                elim (memory_cases s.heads c.number) [
                  | inl m ↦ absurd (memory_flight m.0.place m.3 (ap (λ x. x.place) (same_number s.heads m.0 p A.lawful.heads.one_place_each.rising m.1 h (m.2 ∙ e)) ∙ flight))
                  | inr m ↦ m.1
                ]

            lives : (p : Patch) (c : ChangeMade) → Contains s.heads p → p.place ≡ place.Flight → c.number ≡ p.number → is_live_number s.heads c.number ≡ true
            lives p c h flight e = elim (live_cases s.heads c.number) [ inl r ↦ r.4 | inr d ↦ absurd (flight_disk p.place flight (d.0 p h (sym e))) ]

    -- what is on disk or in flight, in order, is what is on disk and what is in flight over it
    out_in_parts : fold (committed first b) (out_of s b made) ≡ fold (fold (committed first b) (down_of s b made)) (map (write_of s) (changes_at s place.Flight b))
    out_in_parts =
        fold_parts (λ c. c.write) is_late (committed first b) (filter (is_out s b) made)
        (part_fits first s made A b (is_out s b) (λ c e. eqb-true c.block b (both (c.block == b) (not (is_number_in_memory s.heads c.number)) e).0)) sorted
        ∙ (ap (λ cs. fold (fold (committed first b) (map (λ c. c.write) cs)) (map (λ c. c.write) (filter is_late (filter (is_out s b) made))))
        (filter_within (λ c. not (is_late c)) (is_out s b) (is_down s b) made (λ c i. out_and_down (c.block == b) (is_number_in_memory s.heads c.number) (is_late c) (memory_lives c.number)))
        ∙ ap (fold (fold (committed first b) (down_of s b made))) (ap (map (λ c. c.write)) (filter_within is_late (is_out s b) is_flown made (λ c i. refl)) ∙ flown_writes))

    pub image_folded : (f : Flight) → flight_of s b ≡ Some f → f.image ≡ fold (committed first b) (out_of s b made)
    image_folded f e = A.lawful.images b f e ∙ (ap (λ base. fold base (map (write_of s) (changes_at s place.Flight b))) (A.folded b) ∙ sym out_in_parts)

-- where nothing of b is in flight, what is on disk or in flight is on disk
out_at_home : (first s : State) (made : List ChangeMade) → Along first s made → (b : ℕ) → flight_of s b ≡ None → out_of s b made ≡ down_of s b made
out_at_home first s made A b home =
    ap (map (λ c. c.write)) (filter_same (is_out s b) (is_down s b) made
    (λ c i. on_block (c.block == b) (is_number_in_memory s.heads c.number) (is_live_number s.heads c.number) (λ e. lives_in_memory c i (eqb-true c.block b e))))
  where
    none_flies : (f : Flight) → flight_of s b ≡ Some f → ⊥
    none_flies f e = none_some f (sym home ∙ e)
      where
        none_some : (f : Flight) → None ≡ Some f → ⊥
        none_some f e = cc

    lives_in_memory : (c : ChangeMade) → In made c → c.block ≡ b → is_number_in_memory s.heads c.number ≡ is_live_number s.heads c.number
    lives_in_memory c i on_b =
        elim (memory_cases s.heads c.number) [
          | inl m ↦ m.4 ∙ sym (memory_lives first s made A c.number m.4)
          | inr m ↦ elim (live_cases s.heads c.number) [
            | inr d ↦ m.1 ∙ sym d.1
            | inl r ↦
                let w = A.lawful.flights_have_changes.kept b r.0 (record { head = r.1; change = subst (IsOn r.0) on_b (A.kept c r.0 i r.1 r.2).block; flight = in_flight r.0.place r.3 (m.0 r.0 r.1 r.2) }) in
                absurd (none_flies w.0 w.1)
          ]
        ]

flight_cases : (o : Option Flight) → (o ≡ None) ⊎ ((f : Flight) × (o ≡ Some f))
flight_cases None = inl refl
flight_cases (Some f) = inr (f, refl)

pub crash_folded : (first s : State) (made : List ChangeMade) → Along first s made → (finished : ℕ → Bool) (b : ℕ)
    → crash s finished b ≡ fold (committed first b) (cond (finished b) (out_of s b made) (down_of s b made))
crash_folded first s made A finished b =
    elim (cases_Bool (finished b)) [
      | inr not_in ↦ rw not_in (A.folded b)
      | inl in_it ↦ elim (flight_cases (flight_of s b)) [
        | inl home ↦ rw (in_it, home, out_at_home first s made A b home) (A.folded b)
        | inr f ↦ rw (in_it, f.1) (image_folded first s made A b f.0 f.1)
      ]
    ]
