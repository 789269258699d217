-- The row of a new change, from the newest changes over its bytes.
use Rattle.fst_heads.proofs.Basics.{◌≡◌, ◌⊎◌, ℕ, ◌+◌, ◌<◌, ◌≤◌, true, false, List, length, get_or, Contains, refl, sym, subst, ◌∙◌, inl, inr, arith, cases_lt, IsStrictlyIncreasing, rules}
use Rattle.fst_heads.proofs.Patches.{DependsOn, IsLiveNumber, Lists, Patch, at_of, len_of}
use Rattle.fst_heads.proofs.Words.{Head, Covering, newest_over, IsOver, IsCovered, GainsTouched, IsRising, patch_of, patches_of, HasIndex, HasNone, Gains, touches, IsTouched, IsDependency, IsSparseRow}
use Rattle.fst_heads.proofs.{Indices.{any_default, index_in, none_index, patch_at, patch_index, patch_is}, Touching.{touch_parts, touch_whole}}

-- a number is touched as the head at its index is
module _ (heads : List Head) (b at len n : ℕ) where
  pub touched_at : (s : ℕ) (d : Head) → IsRising heads → HasIndex heads n s
      → record { 0 : touches b at len (patch_of (get_or heads s d)) ≡ true → IsTouched (patches_of heads) b at len n; 1 : IsTouched (patches_of heads) b at len n → touches b at len (patch_of (get_or heads s d)) ≡ true }
  touched_at s d rising index = record {
    0 = λ e. record { patch = patch_of (get_or heads s d); head = patch_at heads s d index.0; numbered = index.1 d; shares = e };
    1 = λ t.
        let same = patch_is heads t.patch s d rising t.head (subst (λ m. HasIndex heads m s) (sym t.numbered) index) in
        subst (λ p. touches b at len p ≡ true) (sym same) t.shares;
  }

  pub touched_none : HasNone heads n → IsTouched (patches_of heads) b at len n → ⊥
  touched_none none t =
      let s = index_in heads t.patch t.head in none_index heads n s.0 none (subst (λ m. HasIndex heads m s.0) t.numbered (patch_index heads t.patch s.0 s.1 s.2))

-- the row as far as the numbers were looked at, of which `last` was the last
pub record GainsUpTo (heads : List Patch) (numbers : List ℕ) (b at len i last : ℕ) (old row : List ℕ) : Type 0 where
  pub rising : IsStrictlyIncreasing row
  pub only : (n : ℕ) → Contains row n → Contains old n ⊎ IsTouched heads b at len n
  pub kept : (n : ℕ) → Contains old n → Contains row n
  pub each : (k : ℕ) → k < i → 1 ≤ get_or numbers k 0 → IsTouched heads b at len (get_or numbers k 0) → Contains row (get_or numbers k 0)
  pub again : 1 ≤ last → IsTouched heads b at len last → Contains row last

module _ (heads : List Patch) (numbers : List ℕ) (b at len i last : ℕ) (old row : List ℕ) (x : GainsUpTo heads numbers b at len i last old row) where
  -- one number more
  up : (new : List ℕ) → ((n : ℕ) → Contains row n → Contains new n) → (1 ≤ get_or numbers i 0 → IsTouched heads b at len (get_or numbers i 0) → Contains new (get_or numbers i 0))
      → (k : ℕ) → k < i + 1 → 1 ≤ get_or numbers k 0 → IsTouched heads b at len (get_or numbers k 0) → Contains new (get_or numbers k 0)
  up new kept here k lt some t = elim (cases_lt k i) [
    | inl l ↦ kept (get_or numbers k 0) (x.each k l some t)
    | inr ge ↦
        let same : i ≡ k = omega (arith, lt, ge) in
        subst (λ j. Contains new (get_or numbers j 0)) same (here (subst (λ j. 1 ≤ get_or numbers j 0) (sym same) some) (subst (λ j. IsTouched heads b at len (get_or numbers j 0)) (sym same) t))
  ]

  pub gains_same : get_or numbers i 0 ≡ last → GainsUpTo heads numbers b at len (i + 1) last old row
  gains_same e = record {
    rising = x.rising;
    only = x.only;
    kept = x.kept;
    each = up row (λ n c. c) (λ some t. subst (Contains row) (sym e) (x.again (omega (arith, some, e)) (subst (IsTouched heads b at len) e t)));
    again = x.again;
  }

  pub gains_more : (new : List ℕ) → IsTouched heads b at len (get_or numbers i 0) → Gains row (get_or numbers i 0) new → GainsUpTo heads numbers b at len (i + 1) (get_or numbers i 0) old new
  gains_more new t g = record {
    rising = g.rising;
    only = λ n c. elim (g.only n c) [ inl o ↦ x.only n o | inr same ↦ inr (subst (IsTouched heads b at len) (sym same) t) ];
    kept = λ n c. g.kept n (x.kept n c);
    each = up new g.kept (λ some touched. g.gained);
    again = λ some touched. g.gained;
  }

  pub gains_skip : (IsTouched heads b at len (get_or numbers i 0) → ⊥) → GainsUpTo heads numbers b at len (i + 1) (get_or numbers i 0) old row
  gains_skip off = record {
    rising = x.rising;
    only = x.only;
    kept = x.kept;
    each = up row (λ n c. c) (λ some t. absurd (off t));
    again = λ some t. absurd (off t);
  }

  pub gains_all : length numbers ≤ i → GainsTouched heads numbers b at len old row
  gains_all past = record {
    rising = x.rising;
    only = x.only;
    kept = x.kept;
    each = λ n some c t.
        let here : get_or numbers c.0 0 ≡ n = any_default numbers c.0 0 n c.1 ∙ c.2 in
        subst (Contains row) here (x.each c.0 (omega (arith, past, c.1)) (omega (arith, some, here)) (subst (IsTouched heads b at len) (sym here) t));
  }

-- a whole row is a sparse one
pub whole_is_sparse : (heads : List Patch) (names : List ℕ) (b at len : ℕ) (row : List ℕ) → Lists (IsDependency heads names b at len) row → IsSparseRow heads names b at len row
whole_is_sparse heads names b at len row l = record {
  rising = l.rising;
  only = l.only;
  named = λ n live c. l.each n (inl (live, c));
  above = λ n t. inl (l.each n (inr t));
}

-- a change that shares a byte with the span is over one of its bytes, if each of the two has a byte
pub touched_over : (heads : List Patch) (b at len : ℕ) (t : Patch) → Contains heads t → touches b at len t ≡ true → 1 ≤ len → 1 ≤ len_of t.kind
    → (x : ℕ) × (at ≤ x) × (x < at + len) × IsOver heads b x t.number
touched_over heads b at len t h shares own other =
    let k = touch_parts b at len t.kind t.place shares in
    let over : (x : ℕ) → at_of t.kind ≤ x → x < at_of t.kind + len_of t.kind → IsOver heads b x t.number = λ x lo hi. record { patch = t; head = h; numbered = refl; live = k.0; change = k.1; starts = lo; ends = hi } in
    elim (cases_lt at (at_of t.kind)) [
      | inl before ↦ (at_of t.kind, omega (arith, before), k.2, over (at_of t.kind) (omega arith) (omega (arith, other)))
      | inr after ↦ (at, omega arith, omega (arith, own), over at after k.3)
    ]

-- and a change over one of its bytes shares it
pub over_touched : (heads : List Patch) (b at len x n : ℕ) → at ≤ x → x < at + len → IsOver heads b x n → IsTouched heads b at len n
over_touched heads b at len x n lo hi o = search (rules, touch_whole)

-- the named with the newest over each byte are a sparse row
module _ (heads : List Patch) (names : List ℕ) (b at len : ℕ) (cover : Covering) (C : IsCovered heads b cover) (numbers named row : List ℕ) where
  pub newest_are_sparse : 1 ≤ len → cover.untold ≡ false
      → Lists (λ n. IsLiveNumber heads n × Contains names n) named
      → ((x : ℕ) → at ≤ x → x < at + len → 1 ≤ newest_over cover x → Contains numbers (newest_over cover x))
      → GainsTouched heads numbers b at len named row
      → IsSparseRow heads names b at len row
  newest_are_sparse own none live over gained = record {
    rising = gained.rising;
    only = λ n c. elim (gained.only n c) [ inl o ↦ inl (live.only n o) | inr t ↦ inr t ];
    named = λ n l c. gained.kept n (live.each n (l, c));
    above = λ n t.
        let k = touch_parts b at len t.patch.kind t.patch.place t.shares in
        let p = touched_over heads b at len t.patch t.head t.shares own (C.bytes none t.patch t.head k.0 k.1) in
        let m = C.each none t.patch.number p.0 p.3 in
        let there = gained.each _ m.some (over p.0 p.1 p.2 m.some) (over_touched heads b at len p.0 _ p.1 p.2 m.over) in
        elim m.above [
          | inl same ↦ inl (subst (Contains row) (same ∙ t.numbered) there)
          | inr d ↦ inr (newest_over cover p.0, there, subst (DependsOn heads (newest_over cover p.0)) t.numbered d)
        ];
  }
