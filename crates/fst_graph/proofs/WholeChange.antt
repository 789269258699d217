-- A new change with a sparse row is one with its whole row, which is kept beside, and which the patches tell once the change is among them.
use Rattle.std.proofs.Common.{◌≡◌, ◌≢◌, ◌⊎◌, ◌↔◌, ℕ, ◌+◌, ◌≤◌, true, List, [], ◌∷◌, ◌++◌, map, Contains, refl, sym, ap, subst, ◌∙◌, inl, inr, arith, ◌==◌, ◌&&◌, ◌<◌, nat_lt, Bool, false, filter}
use Rattle.std.specs.Prelude.{◌||◌}
use Rattle.std.proofs.lemmas.{Bool.{and_parts, cases_Bool, or_cases, or_right}, Bool.Decides.nat_tests, List.{length-map, get_or-map}, List.Elements.Contains-push_cases, List.Kept.AllPairs-filter}
use Rattle.fst_types.specs.{Closure.{one, join}, Dependencies.{DirectlyOn, DependsOn, IsLiveNumber}, Facts.IsOnDiskWithAll, Gating.gains, Grades.{FollowsRule, IsGradedHard}, Lists.Lists}
use Rattle.fst_types.specs.{Making.{fresh, ChangeIsMade}, Patches.{Kind, Change, Patch, IsRising}, Tests.{is_live, is_among}, declared.grade.Grade.Grade}
use Rattle.fst_heads.specs.Rows.{touches, IsTouched, IsDependency}
use Rattle.fst_graph.specs.{Rows.{row_of_kind, whole, IsSparseOf, AreWhole, whole_row}, Sparse.SparseChangeIsMade}
use Rattle.fst_types.proofs.{Adding.on_disk_with_all_added, Alike.closure_map, Dropping.{filter_in, in_filter}, Finite.{In-from_Contains, Contains-from_In, In-append_left, In-append_right, In-map}}
use Rattle.fst_types.proofs.{Contents.content_more, Fits.content_end, GateGains.In-unmap, Heads.heads_changed, Issuing.{among_in, in_among}, Loosened.loosened}
use Rattle.fst_heads.proofs.{Placed.map_alike, Listing.numbers_rise, Forgetting.{live_place_of}, Touching.depends_exactly}
use Rattle.fst_graph.proofs.{WholeRows.named, Wholes.{swap_pushed, is, was, live_number, blocked, need_is, need_was, reaches, returns}}
use Rattle.fst_types.specs.declared.grade.Grade.TheVariants as grades
use Rattle.fst_types.proofs.Numbers.{not_disk}

pub rule_same : (g : Grade) (P Q : Type 0) → (P ↔ Q) → FollowsRule g P → FollowsRule g Q
rule_same grades.Hard P Q k r = k.0 r
rule_same grades.Soft P Q k r = λ q. r (k.1 q)

-- a row more is that of its number alone
kind_more : (rows : List (ℕ × List ℕ)) (number : ℕ) (row : List ℕ) (k : Kind) (n : ℕ) (own : List ℕ) → number ≢ n → row_of_kind (rows ++ (number, row) ∷ []) k n own ≡ row_of_kind rows k n own
kind_more rows number row (Change block at len grade) n own other = content_more rows number n row other
kind_more rows number row k n own other = refl

-- what a change of those bytes touches does not depend on rows
pub touched_whole : (rows : List (ℕ × List ℕ)) (heads : List Patch) (b at len n : ℕ) → IsTouched heads b at len n ↔ IsTouched (map (whole rows) heads) b at len n
touched_whole rows heads b at len n = (
  λ t. record { patch = whole rows t.patch; head = is rows heads t.patch t.head; numbered = t.numbered; shares = t.shares },
  λ t.
      let w = was rows heads t.patch t.head in
      let k = subst (λ (x : Patch). (x.number ≡ n) × (touches b at len x ≡ true)) (sym w.2) (t.numbered, t.shares) in
      record { patch = w.0; head = w.1; numbered = k.0; shares = k.1 },
)

pub row_whole : (rows : List (ℕ × List ℕ)) (heads : List Patch) (after : List ℕ) (b at len : ℕ) (row : List ℕ) → Lists (IsDependency heads after b at len) row → Lists (IsDependency (map (whole rows) heads) after b at len) row
row_whole rows heads after b at len row l = record {
  rising = l.rising;
  only = λ n c. elim (l.only n c) [ inl k ↦ inl ((live_number rows heads n).0 k.0, k.1) | inr t ↦ inr ((touched_whole rows heads b at len n).0 t) ];
  each = λ n d. l.each n (elim d [ inl k ↦ inl ((live_number rows heads n).1 k.0, k.1) | inr t ↦ inr ((touched_whole rows heads b at len n).1 t) ]);
}

module _ (rows : List (ℕ × List ℕ)) (T : List Patch) (numbers : ℕ) (W : AreWhole rows T numbers) (b at len : ℕ) (after : List ℕ) (number : ℕ) (grade : Grade) (new : List Patch) (s : SparseChangeIsMade T numbers b at len after number grade new) (row : List ℕ) (L : Lists (IsDependency T after b at len) row) where
  abbrev pub more : List (ℕ × List ℕ)
  more = rows ++ (number, row) ∷ []

  abbrev F : List Patch
  F = map (whole rows) T

  abbrev kept : Patch
  kept = fresh number (Change b at len grade) s.dependencies

  abbrev made : Patch
  made = fresh number (Change b at len grade) row

  next : number ≡ numbers + 1
  next = s.next

  small : (p : Patch) → Contains T p → p.number ≤ numbers
  small p h = (W.lawful.one_place_each.numbered (whole rows p) (is rows T p h)).1

  old_row : (p : Patch) → Contains T p → whole more p ≡ whole rows p
  old_row p h =
      let few = small p h in
      let n = next in
      ap (λ ds. record p { dependencies = ds }) (kind_more rows number row p.kind p.number p.dependencies (λ e. omega (arith, few, n, e)))

  new_row : whole more kept ≡ made
  new_row = ap (λ ds. record made { dependencies = ds }) (content_end rows number row (λ e h same. let few = W.sparse.given e (Contains-from_In rows e h) in let n = next in omega (arith, few, n, same)))

  later_is : map (whole more) new ≡ F ++ made ∷ []
  later_is =
      let old = map_alike (whole more) (whole rows) T (λ p h. old_row p (Contains-from_In T p h)) in
      let pushed = ap (map (whole more)) s.added ∙ swap_pushed more T kept in
      let same = new_row in
      cc

  -- the row is of patches that were there
  row_small : (q : ℕ) → Contains row q → q ≤ numbers
  row_small q c = elim (L.only q c) [
    | inl k ↦ let few = small k.0.patch k.0.head in let e = k.0.numbered in omega (arith, few, e)
    | inr t ↦ let few = small t.patch t.head in let e = t.numbered in omega (arith, few, e)
  ]

  disk : IsOnDiskWithAll (map (whole more) new)
  disk = subst IsOnDiskWithAll (sym later_is) (on_disk_with_all_added F numbers (loosened W.lawful) made next row_small refl (λ f. f))

  found : (p : Patch) → Contains new p → Contains T p ⊎ (p ≡ kept)
  found p h = elim (Contains-push_cases T kept p (subst (λ heads. Contains heads p) s.added h)) [ inl o ↦ inl o | inr e ↦ inr (sym e) ]

  old_in : (p : Patch) → Contains T p → Contains new p
  old_in p h = subst (λ heads. Contains heads p) (sym s.added) (Contains-from_In (T ++ kept ∷ []) p (In-append_left T (kept ∷ []) p (In-from_Contains T p h)))

  new_in : Contains new kept
  new_in = subst (λ heads. Contains heads kept) (sym s.added) (Contains-from_In (T ++ kept ∷ []) kept (In-append_right T (kept ∷ []) kept (inl refl)))

  depends_over : (x y : ℕ) → DependsOn T x y → DependsOn new x y
  depends_over = closure_map (DirectlyOn T) (DirectlyOn new) (λ x y d. record { patch = d.patch; head = old_in d.patch d.head; numbered = d.numbered; named = d.named })

  lived_before : (q : ℕ) → q ≤ numbers → IsLiveNumber new q → IsLiveNumber T q
  lived_before q few l = elim (found l.patch l.head) [
    | inl o ↦ record { patch = l.patch; head = o; numbered = l.numbered; live = l.live }
    | inr e ↦ let n = next in let same = ap (λ x. x.number) e in let k = l.numbered in absurd (omega (arith, n, same, k, few))
  ]

  below_new : (q : ℕ) → Contains row q → DependsOn new number q
  below_new q c = elim (L.only q c) [
    | inl k ↦ direct q (s.sparse.named q k.0 k.1)
    | inr t ↦ elim (s.sparse.above q t) [ inl d ↦ direct q d | inr m ↦ join (direct m.0 m.1) (depends_over m.0 q m.2) ]
  ]
    where
      direct : (m : ℕ) → Contains s.dependencies m → DependsOn new number m
      direct m d = one (record { patch = kept; head = new_in; numbered = refl; named = d })

  sparse_over : IsSparseOf more new number
  sparse_over = record {
    only = λ p q h c. elim (found p h) [
      | inl o ↦ subst (λ (x : Patch). Contains x.dependencies q) (sym (old_row p o)) (W.sparse.only p q o c)
      | inr e ↦
          let d = subst (λ (x : Patch). Contains x.dependencies q) e c in
          subst (λ (x : Patch). Contains x.dependencies q) (sym (ap (whole more) e ∙ new_row)) (L.each q (s.sparse.only q d))
    ];
    below = λ p q h c live. elim (found p h) [
      | inl o ↦
          let d = subst (λ (x : Patch). Contains x.dependencies q) (old_row p o) c in
          depends_over p.number q (W.sparse.below p q o d (lived_before q (named rows T numbers W p q o d) live))
      | inr e ↦ subst (λ n. DependsOn new n q) (sym (ap (λ x. x.number) e)) (below_new q (subst (λ (x : Patch). Contains x.dependencies q) (ap (whole more) e ∙ new_row) c))
    ];
    given = λ e h. elim (Contains-push_cases rows (number, row) e h) [
      | inl o ↦ let few = W.sparse.given e o in let n = next in omega (arith, few, n)
      | inr same ↦ let k = ap (λ (x : ℕ × List ℕ). x.0) same in omega (arith, k)
    ];
  }

  graded_same : IsGradedHard T new b number ↔ IsGradedHard F (map (whole more) new) b number
  graded_same = (
    λ h. record {
      free = λ k. h.free ((blocked more new number sparse_over disk number).1 k);
      straight = λ r. h.straight ((returns more new number sparse_over disk b number).1 r);
      open_ended = λ q c n live off r.
          let p = need_was more new number sparse_over disk number q c n live in
          h.open_ended p.0 c p.1 (λ e. live (sym (ap (λ x. x.place) p.2) ∙ e)) off ((reaches rows T numbers W.sparse W.lawful.on_disk_with_all c b).1 r);
    },
    λ h. record {
      free = λ k. h.free ((blocked more new number sparse_over disk number).0 k);
      straight = λ r. h.straight ((returns more new number sparse_over disk b number).0 r);
      open_ended = λ q c n live off r.
          h.open_ended (whole more q) c (need_is more new number sparse_over disk number q c n) live off ((reaches rows T numbers W.sparse W.lawful.on_disk_with_all c b).0 r);
    },
  )

  pub change_is : ChangeIsMade F numbers b at len after number grade (map (whole more) new)
  change_is = record {
    next = next;
    dependencies = row;
    depends = depends_exactly F after b at len number grade row row (row_whole rows T after b at len row L);
    added = later_is;
    graded = rule_same grade (IsGradedHard T new b number) (IsGradedHard F (map (whole more) new) b number) graded_same s.graded;
  }

  pub change_over : AreWhole more new number
  change_over = record { lawful = heads_changed F (map (whole more) new) numbers b at len after number grade change_is W.lawful; sparse = sparse_over }

-- patches stand in the same order with whole rows and with sparse ones
pub rising_whole : (rows : List (ℕ × List ℕ)) (heads : List Patch) → IsRising (map (whole rows) heads) → IsRising heads
rising_whole rows heads rising i j d lt inside =
    let long = length-map heads (whole rows) in
    let r = rising i j (whole rows d) lt (omega (arith, inside, long)) in
    let e = ap (λ x. x.number) (get_or-map (whole rows) heads i d (whole rows d) (omega (arith, lt, inside))) in
    let f = ap (λ x. x.number) (get_or-map (whole rows) heads j d (whole rows d) inside) in
    omega (arith, r, e, f)

module _ (number : ℕ) (after : List ℕ) (b at len : ℕ) where
  abbrev listed : Patch → Bool
  listed p = nat_lt p.number number && (touches b at len p || (is_live p && is_among after p.number))

  pub row_lists : (heads : List Patch) → IsRising heads → ((p : Patch) → Contains heads p → p.number < number) → Lists (IsDependency heads after b at len) (whole_row heads number after b at len)
  row_lists heads rising small = record {
    rising = numbers_rise (filter listed heads) (AllPairs-filter (λ (p q : Patch). p.number < q.number) listed heads rising);
    only = λ n c. only n c;
    each = λ n d. each n d;
  }
    where
      only : (n : ℕ) → Contains (whole_row heads number after b at len) n → IsDependency heads after b at len n
      only n c =
          let p = In-unmap (λ (x : Patch). x.number) (filter listed heads) n (In-from_Contains (whole_row heads number after b at len) n c) in
          let k = filter_in listed heads p.0 p.1 in
          let h = Contains-from_In heads p.0 k.0 in
          elim (or_cases (touches b at len p.0) (is_live p.0 && is_among after p.0.number) (and_parts (nat_lt p.0.number number) _ k.1).1) [
            | inl t ↦ inr (record { patch = p.0; head = h; numbered = p.2; shares = t })
            | inr l ↦
                let m = and_parts (is_live p.0) (is_among after p.0.number) l in
                inl (record { patch = p.0; head = h; numbered = p.2; live = not_disk p.0.place m.0 }, subst (Contains after) p.2 (Contains-from_In after p.0.number (among_in after p.0.number m.1)))
          ]

      has : (p : Patch) → Contains heads p → (touches b at len p || (is_live p && is_among after p.number)) ≡ true → Contains (whole_row heads number after b at len) p.number
      has p h e =
          let few = small p h in
          let lt : nat_lt p.number number ≡ true = grind (arith, nat_tests, few) in
          Contains-from_In (whole_row heads number after b at len) p.number (In-map (λ (x : Patch). x.number) (filter listed heads) p p.number (in_filter listed heads p (In-from_Contains heads p h) (rw (lt, e) refl)) refl)

      each : (n : ℕ) → IsDependency heads after b at len n → Contains (whole_row heads number after b at len) n
      each n (inl k) =
          let p = k.0.patch in
          let live = live_place_of p.place k.0.live in
          let among = in_among after p.number (In-from_Contains after p.number (subst (Contains after) (sym k.0.numbered) k.1)) in
          subst (Contains (whole_row heads number after b at len)) k.0.numbered (has p k.0.head (or_right (touches b at len p) (is_live p && is_among after p.number) (rw (live, among) refl)))
      each n (inr t) = subst (Contains (whole_row heads number after b at len)) t.numbered (has t.patch t.head (rw t.shares refl))

  -- the change itself is not in its row
  pub row_pushed : (heads : List Patch) (p : Patch) → p.number ≡ number → whole_row (heads ++ p ∷ []) number after b at len ≡ whole_row heads number after b at len
  row_pushed [] p e = let own : nat_lt p.number number ≡ false = grind (arith, nat_tests, e) in rw own refl
  row_pushed (x ∷ xs) p e = let rest = row_pushed xs p e in elim (cases_Bool (listed x)) [ inl t ↦ rw (t, rest) refl | inr f ↦ rw (f, rest) refl ]

  -- and what a gate gains is nothing to it
  pub row_gained : (g : ℕ) (names : List ℕ) (heads : List Patch) → whole_row (map (gains g names) heads) number after b at len ≡ whole_row heads number after b at len
  row_gained g names [] = refl
  row_gained g names (x ∷ xs) =
      let rest = row_gained g names xs in
      elim (cases_Bool (x.number == g)) [
        | inl here ↦ elim (cases_Bool (listed x)) [ inl t ↦ rw (here, t, rest) refl | inr f ↦ rw (here, f, rest) refl ]
        | inr away ↦ elim (cases_Bool (listed x)) [ inl t ↦ rw (away, t, rest) refl | inr f ↦ rw (away, f, rest) refl ]
      ]

-- so the row of a new change is the whole one
pub lawful_row : (rows : List (ℕ × List ℕ)) (heads : List Patch) (numbers number : ℕ) (after : List ℕ) (b at len : ℕ) → AreWhole rows heads numbers → number ≡ numbers + 1 → Lists (IsDependency heads after b at len) (whole_row heads number after b at len)
lawful_row rows heads numbers number after b at len W next =
    row_lists number after b at len heads (rising_whole rows heads W.lawful.one_place_each.rising) (λ p h. let few = (W.lawful.one_place_each.numbered (whole rows p) (is rows heads p h)).1 in omega (arith, few, next))
