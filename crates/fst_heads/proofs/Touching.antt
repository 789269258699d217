-- What a new change depends on.
use Rattle.std.proofs.lemmas.Option.{same_Some}
use Rattle.fst_heads.proofs.Basics.{◌≡◌, ◌⊎◌, ℕ, ◌+◌, ◌<◌, ◌≤◌, ◌==◌, ◌&&◌, nat_lt, Bool, true, false, not, List, [], ◌∷◌, ◌++◌, Contains, Some, refl, sym, ap, subst, inl, inr, arith, None, cases_Bool, eqb-true, eq-eqb, false≢true, nat_tests, length_push, Contains-push_cases, rules, IsStrictlyIncreasing}
use Rattle.fst_heads.proofs.Patches.{Place, Grade, Lists, Kind, Change, Empty, Patch, IsOn, IsHard, block_of_kind, at_of, len_of, IsLiveNumber, IsGradedHard, FollowsRule, SparseAreLawful, fresh, is_at, is_on, In, In-from_Contains, Contains-from_In, IsWithin, hard_kept}
use Rattle.fst_heads.proofs.Words.{Entry, entry, is_live_on, entries_on, Gains, kind_touches, touches, shares, IsTouched, IsDependency, IsSparseRow, MayBeHard, Keeps}
use Rattle.fst_heads.proofs.{Graded.{graded_rule}, Making.keeps_added, Indices.{place_live, live_place}}
use Rattle.fst_types.specs.Overlaps.{IsOverlapped}
use Rattle.fst_types.proofs.Adding.{one_place_added, acyclic_added, on_disk_with_all_added, alone_added}
use Rattle.fst_heads.proofs.Patches.place

parts : (a b c d : Bool) → (a && b && c && d) ≡ true → (a ≡ true) × (b ≡ true) × (c ≡ true) × (d ≡ true)
parts true true true true e = (refl, refl, refl, refl)
parts a b c d e = absurd (false≢true e)

whole : (a b c d : Bool) → a ≡ true → b ≡ true → c ≡ true → d ≡ true → (a && b && c && d) ≡ true
whole a b c d e f g h = rw (e, f, g, h) refl

pub touch_parts : (b at len : ℕ) (k : Kind) (p : Place) → kind_touches b at len k p ≡ true → (p ≡ place.Disk → ⊥) × (block_of_kind k ≡ Some b) × (at_of k < at + len) × (at < at_of k + len_of k)
touch_parts b at len (Change on own_at own_len grade) p e = grind (arith, parts, nat_lt, live_place, eqb-true, nat_tests)
touch_parts b at len Empty p e = absurd (false≢true e)
touch_parts b at len k p e = absurd (false≢true e)

pub touch_whole : (b at len : ℕ) (k : Kind) (p : Place) → (p ≡ place.Disk → ⊥) → block_of_kind k ≡ Some b → at_of k < at + len → at < at_of k + len_of k → kind_touches b at len k p ≡ true
touch_whole b at len (Change on own_at own_len grade) p live on_b lo hi = grind (arith, whole, nat_lt, place_live, eq-eqb, same_Some, nat_tests)
touch_whole b at len Empty p live on_b lo hi = cc
touch_whole b at len k p live on_b lo hi = cc

module _ (heads : List Patch) (b at len number : ℕ) (grade : Grade) (deps : List ℕ) (n : ℕ) where
  abbrev p : Patch
  p = fresh number (Change b at len grade) deps

  pub touched_overlaps : IsTouched heads b at len n → IsOverlapped heads p n
  touched_overlaps t = grind (arith, touch_parts)

  pub overlaps_touched : IsOverlapped heads p n → IsTouched heads b at len n
  overlaps_touched o = grind (arith, same_Some, touch_whole)

pub depends_exactly : (heads : List Patch) (names : List ℕ) (b at len number : ℕ) (grade : Grade) (deps row : List ℕ) → Lists (IsDependency heads names b at len) row → Lists (λ n. (IsLiveNumber heads n × Contains names n) ⊎ IsOverlapped heads (fresh number (Change b at len grade) deps) n) row
depends_exactly heads names b at len number grade deps row l = search (rules, touched_overlaps, overlaps_touched)

-- a change that is touched is listed by its block, and its entry shares a byte
pub touch_entry : (b at len : ℕ) (k : Kind) (p : Place) → kind_touches b at len k p ≡ true → ((not (is_at p place.Disk) && is_on b k) ≡ true) × (shares at len (at_of k) (len_of k) ≡ true)
touch_entry b at len (Change on own_at own_len grade) place.Memory e = let k = parts true (on == b) (nat_lt own_at (at + len)) (nat_lt at (own_at + own_len)) e in (k.1, rw (k.2, k.3) refl)
touch_entry b at len (Change on own_at own_len grade) place.Flight e = let k = parts true (on == b) (nat_lt own_at (at + len)) (nat_lt at (own_at + own_len)) e in (k.1, rw (k.2, k.3) refl)
touch_entry b at len k p e = absurd (false≢true e)

and_false : (a : Bool) → (a && false) ≡ true → ⊥
and_false true e = false≢true e
and_false false e = false≢true e

pub entry_touch : (b at len : ℕ) (k : Kind) (p : Place) → (not (is_at p place.Disk) && is_on b k) ≡ true → shares at len (at_of k) (len_of k) ≡ true → kind_touches b at len k p ≡ true
entry_touch b at len (Change on own_at own_len grade) place.Memory e s = rw e s
entry_touch b at len (Change on own_at own_len grade) place.Flight e s = rw e s
entry_touch b at len (Change on own_at own_len grade) place.Disk e s = absurd (false≢true e)
entry_touch b at len k p e s = absurd (and_false (not (is_at p place.Disk)) e)

-- the list of a block has its live changes, and no others
pub in_entries : (b : ℕ) (ps : List Patch) (p : Patch) → In ps p → is_live_on b p ≡ true → In (entries_on b ps) (entry p)
in_entries b [] p i live = absurd i
in_entries b (q ∷ qs) p (inl e) live = rw (subst (λ x. is_live_on b x ≡ true) (sym e) live) (inl (ap entry e))
in_entries b (q ∷ qs) p (inr i) live = elim (cases_Bool (is_live_on b q)) [ inl f ↦ rw f (inr (in_entries b qs p i live)) | inr f ↦ rw f (in_entries b qs p i live) ]

pub record IsEntry (b : ℕ) (ps : List Patch) (e : Entry) : Type 0 where
  pub patch : Patch
  pub head : In ps patch
  pub live : is_live_on b patch ≡ true
  pub same : entry patch ≡ e

pub entries_in : (b : ℕ) (ps : List Patch) (e : Entry) → In (entries_on b ps) e → IsEntry b ps e
entries_in b [] e i = absurd i
entries_in b (q ∷ qs) e i = elim (cases_Bool (is_live_on b q)) [
  | inl f ↦ elim (rw f at i) [ inl same ↦ record { patch = q; head = inl refl; live = f; same = same } | inr j ↦ let r = entries_in b qs e j in record { patch = r.patch; head = inr r.head; live = r.live; same = r.same } ]
  | inr f ↦ let r = entries_in b qs e (rw f at i) in record { patch = r.patch; head = inr r.head; live = r.live; same = r.same }
]

-- the row with what is touched besides, where the entries of rest are still to come
pub record Touches (heads : List Patch) (rest : List Entry) (b at len : ℕ) (old row : List ℕ) : Type 0 where
  pub rising : IsStrictlyIncreasing row
  pub only : (n : ℕ) → Contains row n → Contains old n ⊎ IsTouched heads b at len n
  pub kept : (n : ℕ) → Contains old n → Contains row n
  pub live : (e : Entry) → In rest e → In (entries_on b heads) e
  pub each : (p : Patch) → Contains heads p → touches b at len p ≡ true → In rest (entry p) ⊎ Contains row p.number

pub touches_none : (heads : List Patch) (list : List Entry) (b at len : ℕ) (row : List ℕ) → list ≡ entries_on b heads → IsStrictlyIncreasing row → Touches heads list b at len row row
touches_none heads list b at len row listed rising = record {
  rising = rising;
  only = λ n c. inl c;
  kept = λ n c. c;
  live = λ e i. subst (λ es. In es e) listed i;
  each = λ p c t. inl (subst (λ es. In es (entry p)) (sym listed) (in_entries b heads p (In-from_Contains heads p c) (touch_entry b at len p.kind p.place t).0));
}

module _ (heads : List Patch) (rest : List Entry) (b at len : ℕ) (old row : List ℕ) (e : Entry) (left : List Entry) (next : rest ≡ e ∷ left) (x : Touches heads rest b at len old row) where
  touched_here : shares at len e.at e.len ≡ true → IsTouched heads b at len e.number
  touched_here s =
      let l = entries_in b heads e (x.live e (subst (λ es. In es e) (sym next) (inl refl))) in
      record {
        patch = l.patch;
        head = Contains-from_In heads l.patch l.head;
        numbered = ap (λ f. f.number) l.same;
        shares = entry_touch b at len l.patch.kind l.patch.place l.live (subst (λ f. shares at len f.at f.len ≡ true) (sym l.same) s);
      }

  pub touches_more : (new : List ℕ) → shares at len e.at e.len ≡ true → Gains row e.number new → Touches heads left b at len old new
  touches_more new s g = record {
    rising = g.rising;
    only = λ n c. elim (g.only n c) [ inl o ↦ x.only n o | inr same ↦ inr (subst (IsTouched heads b at len) (sym same) (touched_here s)) ];
    kept = λ n c. g.kept n (x.kept n c);
    live = λ f i. x.live f (subst (λ es. In es f) (sym next) (inr i));
    each = grind arith;
  }

  pub touches_skip : shares at len e.at e.len ≡ false → Touches heads left b at len old row
  touches_skip none = search (rules, false≢true, touch_entry)

module _ (heads : List Patch) (numbers blocks : ℕ) (marks : List Bool) (K : Keeps heads numbers blocks marks)
    (b at len : ℕ) (names : List ℕ) (grade : Grade) (deps : List ℕ) (depends : IsSparseRow heads names b at len deps) where
  abbrev new_change : Patch
  new_change = fresh (numbers + 1) (Change b at len grade) deps

  named : (q : ℕ) → Contains deps q → q ≤ numbers
  named q c = elim (depends.only q c) [
    | inl l ↦ let k = (K.lawful.one_place_each.numbered l.0.patch l.0.head).1 in omega (arith, k, l.0.numbered)
    | inr t ↦ let k = (K.lawful.one_place_each.numbered t.patch t.head).1 in omega (arith, k, t.numbered)
  ]

  within : IsWithin heads numbers
  within = λ x h. ((K.lawful.one_place_each.numbered x h).1, λ q c. K.lawful.one_place_each.named x q h c)

  pub change_lawful : (IsHard new_change → IsGradedHard heads (heads ++ new_change ∷ []) b (numbers + 1)) → SparseAreLawful (heads ++ new_change ∷ []) (numbers + 1)
  change_lawful graded = record {
    one_place_each = one_place_added heads numbers K.lawful new_change refl named refl;
    no_cycle = acyclic_added heads numbers K.lawful new_change refl named refl;
    on_disk_with_all = on_disk_with_all_added heads numbers K.lawful new_change refl named refl (λ f. f);
    flights_stand_alone = alone_added heads numbers K.lawful new_change refl named refl;
    hard_never_hold = hard_kept heads numbers within new_change refl named b refl K.lawful.hard_never_hold graded;
  }

  -- the grade by the row is the grade of the new change
  pub graded_change : FollowsRule grade (MayBeHard heads None b deps) → FollowsRule grade (IsGradedHard heads (heads ++ new_change ∷ []) b (numbers + 1))
  graded_change follows = graded_rule heads numbers within b at len grade deps named follows

  pub keeps_change : b < blocks → (IsHard new_change → IsGradedHard heads (heads ++ new_change ∷ []) b (numbers + 1)) → Keeps (heads ++ new_change ∷ []) (numbers + 1) blocks (marks ++ false ∷ [])
  keeps_change inside graded =
      keeps_added heads numbers blocks marks K (heads ++ new_change ∷ []) (change_lawful graded) (length_push heads new_change)
      (λ x c h on. elim (Contains-push_cases heads new_change x h) [ inl o ↦ K.inside x c o on | inr e ↦ subst (λ m. m < blocks) (same_Some b c (subst (λ y. IsOn y c) (sym e) on)) inside ])
