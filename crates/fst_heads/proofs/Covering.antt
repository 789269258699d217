-- What the covers of the blocks keep from call to call.
use Rattle.std.proofs.lemmas.Option.{same_Some}
use Rattle.fst_heads.proofs.Basics.{◌≡◌, ◌⊎◌, ◌<◌, ◌≤◌, ◌+◌, ◌==◌, ◌||◌, ◌++◌, ◌∷◌, ◌∙◌, [], ℕ, true, false, nat_lt, nat_tests, List, map, filter, get_or, set, Contains, refl, sym, ap, subst, inl, inr, arith, cases_lt, cases_eq, length-set, or_parts, rules, get_or-set_other, Contains-push_cases, common_steps, Contains-append_left}
use Rattle.fst_heads.proofs.Basics.{Contains-append_right}
use Rattle.fst_heads.proofs.{Words.{Covering, IsOver, IsCovered, AreCovered, Covers, SaysTheSame, IsPut, newest_over, newest_in, max_from, IsSparseRow}, Newest.over_touched}
use Rattle.fst_heads.proofs.{Forgetting.live_place_of}
use Rattle.std.proofs.lemmas.Grind.{get_or-set_at}
use Rattle.fst_types.specs.Closure.{one, join}
use Rattle.fst_types.proofs.{Depending.{Grown, grown}, Alike.{Alike, at_same, len_same, on_back, on_forth, back_alike, forth_alike, closure_map}}
use Rattle.fst_heads.proofs.Patches.{Grade, DirectlyOn, DependsOn, IsLiveNumber, IsOnDiskWithAll, gains, fresh, Patch, Change, IsOn, at_of, len_of, IsLive, Rising as IsRising, block_of_kind, is_live, filter_in, in_filter, same_number, In-from_Contains, Contains-from_In, In-map, In-unmap}

-- each live change of the new heads was one of the old ones, and what is over a byte, and is or depends on what is live there, still does
module _ (old new : List Patch)
    (back : (b x q : ℕ) → IsOver new b x q → IsOver old b x q)
    (forth : (b x c q : ℕ) → IsOver old b x c → IsOver new b x q → (c ≡ q) ⊎ DependsOn old c q → IsOver new b x c × ((c ≡ q) ⊎ DependsOn new c q))
    (bytes : (p : Patch) (b : ℕ) → Contains new p → IsLive p → IsOn p b → (o : Patch) × Contains old o × IsLive o × IsOn o b × (len_of o.kind ≡ len_of p.kind)) where
  covered_one : (b : ℕ) (cover : Covering) → IsCovered old b cover → IsCovered new b cover
  covered_one b cover C = record {
    each = λ none q x o.
        let k = C.each none q x (back b x q o) in
        let n = forth b x (newest_over cover x) q k.over o k.above in
        record { some = k.some; over = n.0; above = n.1 };
    bytes = λ none p h live on. let o = bytes p b h live on in subst (λ n. 1 ≤ n) o.4 (C.bytes none o.0 o.1 o.2 o.3);
  }

  pub covered_by : (blocks : ℕ) (covers : List Covering) → AreCovered old blocks covers → AreCovered new blocks covers
  covered_by blocks covers A = record { long = A.long; each = λ b d inside. covered_one b (get_or covers b d) (A.each b d inside) }

-- what depends on a live patch is live, where what is on disk has all that it depends on there
pub live_over : (heads : List Patch) → IsOnDiskWithAll heads → (m n : ℕ) → DependsOn heads m n → IsLiveNumber heads n → IsLiveNumber heads m
live_over heads disk m n (one d) l = record { patch = d.patch; head = d.head; numbered = d.numbered; live = λ e. l.live (disk.disk d.patch d.head e n d.named l.patch l.head l.numbered) }
live_over heads disk m n (join {q = k} c d) l = live_over heads disk m k c (live_over heads disk k n d l)

over_live : (heads : List Patch) (b x q : ℕ) → IsOver heads b x q → IsLiveNumber heads q
over_live heads b x q o = record { patch = o.patch; head = o.head; numbered = o.numbered; live = o.live }

-- what is over a byte is so in other heads too, as a patch with its number that is live on the same bytes of the block
over_as : (b x q : ℕ) (heads other : List Patch) (o : IsOver heads b x q) (p : Patch) → Contains other p → p.number ≡ o.patch.number → IsLive p → IsOn p b
    → at_of p.kind ≡ at_of o.patch.kind → len_of p.kind ≡ len_of o.patch.kind → IsOver other b x q
over_as b x q heads other o p h number live on at len = search rules

-- patches moved on, with the rows that they had
module _ (old new : List Patch) (A : Alike old new) where
  direct_forth : (a b : ℕ) → DirectlyOn old a b → DirectlyOn new a b
  direct_forth a b d =
      let r = forth_alike old new A d.patch d.head in
      record { patch = r.0; head = r.1; numbered = r.2.number ∙ d.numbered; named = subst (λ ds. Contains ds b) (sym r.2.dependencies) d.named }

  pub depends_forth : (a b : ℕ) → DependsOn old a b → DependsOn new a b
  depends_forth = closure_map (DirectlyOn old) (DirectlyOn new) direct_forth

module _ (old new : List Patch) (A : Alike old new) (disk : IsOnDiskWithAll new) (rising : IsRising new) where
  over_back : (b x q : ℕ) → IsOver new b x q → IsOver old b x q
  over_back b x q o =
      let r = back_alike old new A o.patch o.head in
      let live = r.2.live b o.change o.live in
      over_as b x q new old o r.0 r.1 (sym r.2.number) live (on_back r.0 o.patch r.2 b o.change) (sym (at_same r.0 o.patch r.2)) (sym (len_same r.0 o.patch r.2))

  over_forth : (b x c q : ℕ) → IsOver old b x c → IsOver new b x q → (c ≡ q) ⊎ DependsOn old c q → IsOver new b x c × ((c ≡ q) ⊎ DependsOn new c q)
  over_forth b x c q o n (inl same) = (subst (IsOver new b x) (sym same) n, inl same)
  over_forth b x c q o n (inr d) =
      let r = forth_alike old new A o.patch o.head in
      let path = depends_forth old new A c q d in
      let l = live_over new disk c q path (over_live new b x q n) in
      let same = same_number new l.patch r.0 rising l.head r.1 (l.numbered ∙ (sym o.numbered ∙ sym r.2.number)) in
      let live = subst IsLive same l.live in
      (over_as b x c old new o r.0 r.1 r.2.number live (on_forth o.patch r.0 r.2 b o.change) (at_same o.patch r.0 r.2) (len_same o.patch r.0 r.2), inr path)

  pub covered_alike : (blocks : ℕ) (covers : List Covering) → AreCovered old blocks covers → AreCovered new blocks covers
  covered_alike = covered_by old new over_back over_forth (λ p b h live on.
      let r = back_alike old new A p h in
      (r.0, r.1, r.2.live b on live, on_back r.0 p r.2 b on, sym (len_same r.0 p r.2)))

-- a gate gains names
module _ (old : List Patch) (g : ℕ) (names : List ℕ) where
  abbrev gained : List Patch
  gained = map (gains g names) old

  pub was_gained : (p : Patch) → Contains gained p → (o : Patch) × Contains old o × Grown g names o p
  was_gained p h =
      let r = In-unmap (gains g names) old p (In-from_Contains gained p h) in
      (r.0, Contains-from_In old r.0 r.1, subst (Grown g names r.0) r.2 (grown g names r.0))

  is_gained : (o : Patch) → Contains old o → (p : Patch) × Contains gained p × Grown g names o p
  is_gained o h = (gains g names o, Contains-from_In gained (gains g names o) (In-map (gains g names) old o (gains g names o) (In-from_Contains old o h) refl), grown g names o)

  pub depends_gained : (a b : ℕ) → DependsOn old a b → DependsOn gained a b
  depends_gained = closure_map (DirectlyOn old) (DirectlyOn gained) (λ a b d.
      let r = is_gained d.patch d.head in
      record { patch = r.0; head = r.1; numbered = r.2.number ∙ d.numbered; named = r.2.kept b d.named })

  over_grown : (b x q : ℕ) (heads other : List Patch) (o : IsOver heads b x q) (p : Patch) → Contains other p → p.number ≡ o.patch.number → p.kind ≡ o.patch.kind → p.place ≡ o.patch.place → IsOver other b x q
  over_grown b x q heads other o p h number kind at = grind arith

  pub covered_gained : (blocks : ℕ) (covers : List Covering) → AreCovered old blocks covers → AreCovered gained blocks covers
  covered_gained = covered_by old gained
      (λ b x q o. let r = was_gained o.patch o.head in over_grown b x q gained old o r.0 r.1 (sym r.2.number) (sym r.2.kind) (sym r.2.place))
      (λ b x c q o n above. let r = is_gained o.patch o.head in (over_grown b x c old gained o r.0 r.1 r.2.number r.2.kind r.2.place, elim above [ inl e ↦ inl e | inr d ↦ inr (depends_gained c q d) ]))
      (λ p b h live on. let r = was_gained p h in (r.0, r.1, λ d. live (r.2.place ∙ d), sym (ap block_of_kind r.2.kind) ∙ on, sym (ap len_of r.2.kind)))

-- one patch more
module _ (old : List Patch) (p : Patch) where
  abbrev with_one : List Patch
  with_one = old ++ p ∷ []

  pub depends_with : (a b : ℕ) → DependsOn old a b → DependsOn with_one a b
  depends_with = closure_map (DirectlyOn old) (DirectlyOn with_one) (λ a b d. record { patch = d.patch; head = Contains-append_left old (p ∷ []) d.patch d.head; numbered = d.numbered; named = d.named })

  over_with : (b x q : ℕ) → IsOver old b x q → IsOver with_one b x q
  over_with b x q o = record { patch = o.patch; head = Contains-append_left old (p ∷ []) o.patch o.head; numbered = o.numbered; live = o.live; change = o.change; starts = o.starts; ends = o.ends }

  over_cases : (b x q : ℕ) (o : IsOver with_one b x q) → IsOver old b x q ⊎ (p ≡ o.patch)
  over_cases b x q o = grind (arith, common_steps)

  -- which is no change of that block
  covered_beside : (b : ℕ) → (IsOn p b → ⊥) → (cover : Covering) → IsCovered old b cover → IsCovered with_one b cover
  covered_beside b off cover C = record {
    each = λ none q x o. elim (over_cases b x q o) [
      | inl was ↦
          let k = C.each none q x was in
          record { some = k.some; over = over_with b x (newest_over cover x) k.over; above = elim k.above [ inl e ↦ inl e | inr d ↦ inr (depends_with (newest_over cover x) q d) ] }
      | inr own ↦ absurd (off (subst (λ y. IsOn y b) (sym own) o.change))
    ];
    bytes = λ none y h live on. elim (Contains-push_cases old p y h) [ inl was ↦ C.bytes none y was live on | inr own ↦ absurd (off (subst (λ z. IsOn z b) (sym own) on)) ];
  }

  pub covered_push : ((b : ℕ) → IsOn p b → ⊥) → (blocks : ℕ) (covers : List Covering) → AreCovered old blocks covers → AreCovered with_one blocks covers
  covered_push off blocks covers A = record { long = A.long; each = λ b d inside. covered_beside b (off b) (get_or covers b d) (A.each b d inside) }

-- what is on disk is forgotten
module _ (old : List Patch) (disk : IsOnDiskWithAll old) where
  abbrev left : List Patch
  left = filter is_live old

  live_told : (p : Patch) → IsLive p → is_live p ≡ true
  live_told p live = live_place_of p.place live

  was_left : (p : Patch) → Contains left p → Contains old p
  was_left p h = Contains-from_In old p (filter_in is_live old p (In-from_Contains left p h)).0

  is_left : (p : Patch) → Contains old p → IsLive p → Contains left p
  is_left p h live = Contains-from_In left p (in_filter is_live old p (In-from_Contains old p h) (live_told p live))

  pub depends_left : (m n : ℕ) → DependsOn old m n → IsLiveNumber old n → DependsOn left m n
  depends_left m n (one d) l =
      one (record { patch = d.patch; head = is_left d.patch d.head (λ e. l.live (disk.disk d.patch d.head e n d.named l.patch l.head l.numbered)); numbered = d.numbered; named = d.named })
  depends_left m n (join {q = k} c d) l = join (depends_left m k c (live_over old disk k n d l)) (depends_left k n d l)

  over_was : (b x q : ℕ) → IsOver left b x q → IsOver old b x q
  over_was b x q o = record { patch = o.patch; head = was_left o.patch o.head; numbered = o.numbered; live = o.live; change = o.change; starts = o.starts; ends = o.ends }

  pub covered_left : (blocks : ℕ) (covers : List Covering) → AreCovered old blocks covers → AreCovered left blocks covers
  covered_left = covered_by old left over_was
      (λ b x c q o n above. (
        record { patch = o.patch; head = is_left o.patch o.head o.live; numbered = o.numbered; live = o.live; change = o.change; starts = o.starts; ends = o.ends },
        elim above [ inl e ↦ inl e | inr d ↦ inr (depends_left c q d (over_live old b x q (over_was b x q n))) ],
      ))
      (λ p b h live on. (p, was_left p h, live, on, refl))

-- a cover that means the same stands in its place
module _ (heads : List Patch) (blocks : ℕ) (covers : List Covering) (A : AreCovered heads blocks covers) (b : ℕ) (cover d : Covering) (inside : b < blocks) (L : SaysTheSame (get_or covers b d) cover) where
  same_cover : IsCovered heads b cover
  same_cover =
      let C = A.each b d inside in
      let over : (x : ℕ) → newest_over cover x ≡ newest_over (get_or covers b d) x = λ x. ap (λ rs. newest_in 0 rs x) L.runs in
      record {
        each = λ none q x o.
            let k = C.each (sym L.untold ∙ none) q x o in
            let same = over x in
            record {
              some = subst (λ n. 1 ≤ n) (sym same) k.some;
              over = subst (IsOver heads b x) (sym same) k.over;
              above = subst (λ n. (n ≡ q) ⊎ DependsOn heads n q) (sym same) k.above;
            };
        bytes = λ none. C.bytes (sym L.untold ∙ none);
      }

  pub covered_same : AreCovered heads blocks (set covers b cover)
  covered_same = record {
    long = length-set covers b cover ∙ A.long;
    each = λ c e within. elim (cases_eq c b) [
      | inl here ↦ subst (IsCovered heads c) (sym (get_or-set_at covers b c cover e here (let l = A.long in omega (arith, inside, l)))) (subst (λ k. IsCovered heads k cover) (sym here) same_cover)
      | inr away ↦ subst (IsCovered heads c) (sym (get_or-set_other covers b c cover e away)) (A.each c e within)
    ];
  }

-- a new change with a sparse row, which is the newest over its bytes
module _ (old : List Patch) (n b at len : ℕ) (grade : Grade) (names row : List ℕ) (some : 1 ≤ n) (S : IsSparseRow old names b at len row)
    (blocks : ℕ) (covers : List Covering) (A : AreCovered old blocks covers) (inside : b < blocks) (d : Covering) (cover : Covering)
    (put : IsPut (get_or covers b d) at len n cover) where
  abbrev p : Patch
  p = fresh n (Change b at len grade) row

  abbrev new : List Patch
  new = old ++ p ∷ []

  abbrev was : Covering
  was = get_or covers b d

  C : IsCovered old b was
  C = A.each b d inside

  there : Contains new p
  there = Contains-append_right old (p ∷ []) p (0, omega arith, refl)

  direct : (m : ℕ) → Contains row m → DependsOn new n m
  direct m c = one (record { patch = p; head = there; numbered = refl; named = c })

  -- what it shares a byte with is below it
  below : (x q : ℕ) → at ≤ x → x < at + len → IsOver old b x q → DependsOn new n q
  below x q lo hi o = elim (S.above q (over_touched old b at len x q lo hi o)) [
    | inl c ↦ direct q c
    | inr m ↦ join (direct m.0 m.1) (depends_with old p m.0 q m.2)
  ]

  -- where the runs tell of all, they did before, and this change ends where a run may begin
  told : cover.untold ≡ false → (was.untold ≡ false) × (1 ≤ len) × (at + len ≤ max_from)
  told none =
      let parts = or_parts was.untold ((len == 0) || nat_lt max_from (at + len)) (sym put.untold ∙ none) in
      let both = or_parts (len == 0) (nat_lt max_from (at + len)) parts.1 in
      (parts.0, grind (arith, nat_tests), grind (arith, nat_tests))

  own : cover.untold ≡ false → (x q : ℕ) → at ≤ x → x < at + len → IsOver new b x q → Covers new b cover x q
  own none x q lo hi o =
      let same = put.own (told none).2 x lo hi in
      record {
        some = subst (λ k. 1 ≤ k) (sym same) some;
        over = subst (IsOver new b x) (sym same) (record { patch = p; head = there; numbered = refl; live = λ e. cc; change = refl; starts = lo; ends = hi });
        above = subst (λ k. (k ≡ q) ⊎ DependsOn new k q) (sym same) (elim (over_cases old p b x q o) [
          | inl w ↦ inr (below x q lo hi w)
          | inr e ↦ inl (ap (λ (y : Patch). y.number) e ∙ o.numbered)
        ]);
      }

  beside : cover.untold ≡ false → (x q : ℕ) → (x < at) ⊎ (at + len ≤ x) → IsOver new b x q → Covers new b cover x q
  beside none x q off o = elim (over_cases old p b x q o) [
    | inl w ↦
        let k = C.each (told none).0 q x w in
        let same = put.beside x off in
        record {
          some = subst (λ m. 1 ≤ m) (sym same) k.some;
          over = subst (IsOver new b x) (sym same) (over_with old p b x (newest_over was x) k.over);
          above = subst (λ m. (m ≡ q) ⊎ DependsOn new m q) (sym same) (elim k.above [ inl e ↦ inl e | inr e ↦ inr (depends_with old p (newest_over was x) q e) ]);
        }
    | inr e ↦ grind arith
  ]

  own_cover : IsCovered new b cover
  own_cover = record {
    each = λ none q x o. elim (cases_lt x at) [
      | inl before ↦ beside none x q (inl before) o
      | inr lo ↦ elim (cases_lt x (at + len)) [ inl hi ↦ own none x q (omega (arith, lo)) hi o | inr after ↦ beside none x q (inr (omega (arith, after))) o ]
    ];
    bytes = grind (arith, common_steps, told);
  }

  pub covered_put : AreCovered new blocks (set covers b cover)
  covered_put = record {
    long = length-set covers b cover ∙ A.long;
    each = λ c e within. elim (cases_eq c b) [
      | inl here ↦ subst (IsCovered new c) (sym (get_or-set_at covers b c cover e here (let l = A.long in omega (arith, inside, l)))) (subst (λ k. IsCovered new k cover) (sym here) own_cover)
      | inr away ↦ subst (IsCovered new c) (sym (get_or-set_other covers b c cover e away)) (covered_beside old p c (λ on. away (sym (same_Some b c on))) (get_or covers c e) (A.each c e within))
    ];
  }
