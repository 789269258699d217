-- What a cascade leaves of the list of those that landed.
use Rattle.fst_heads.proofs.Basics.{◌≡◌, ◌≢◌, ◌⊎◌, ◌<◌, ◌≤◌, ◌+◌, ◌==◌, ◌&&◌, ◌++◌, ◌∷◌, [], ◌∙◌, ℕ, Bool, true, false, not, List, length, map, Contains, AllPairs, cond, if◌then◌else◌, refl, sym, ap, subst, inl, inr, arith, cases_Bool, cases_eq, and_parts, and_from, false≢true, length-map, length-append, append-nil, Contains-append_left, Contains-push, Contains-push_cases}
use Rattle.fst_heads.proofs.Patches.{is_among, In-map, In-from_Contains, Contains-from_In}
use Rattle.fst_heads.proofs.Words.{Node, Pending, at_number, is_pending, is_waiting, now, follows, rested, plus, minus, recorded, updated, notified, AreLanded, is_landed}
use Rattle.fst_heads.proofs.{AtNumber.{at_other, at_same}, Beside.is_nothing, Placed.unmapped, Waiting.{once_append, once_fits, same_node}}
use Rattle.fst_heads.proofs.Patches.place
use Rattle.fst_heads.proofs.Words.pending

-- y has the number of x, the same is pending of it, and it is forgotten where x is
pub record IsAs (x y : Node) : Type 0 where
  pub number : y.patch.number ≡ x.patch.number
  pub pending : y.pending ≡ x.pending
  pub forgotten : y.forgotten ≡ x.forgotten

landed_as : (x y : Node) → IsAs x y → is_landed y ≡ is_landed x
landed_as x y s = rw (s.forgotten, s.pending) refl

-- the list stays where all nodes stay so
pub landed_map : (f : Node → Node) (nodes : List Node) (landed : List ℕ) → ((x : Node) → IsAs x (f x)) → AreLanded nodes landed → AreLanded (map f nodes) landed
landed_map f nodes landed same A = record {
  gone = λ y c e. let r = unmapped f nodes y c in let s = subst (IsAs r.0) r.2 (same r.0) in s.pending ∙ A.gone r.0 r.1 (sym s.forgotten ∙ e);
  only = λ n c.
      let o = A.only n c in
      let there = Contains-from_In (map f nodes) (f o.0) (In-map f nodes o.0 (f o.0) (In-from_Contains nodes o.0 o.1) refl) in
      (f o.0, there, (same o.0).number ∙ o.2, landed_as o.0 (f o.0) (same o.0) ∙ o.3);
  each = λ y c e.
      let r = unmapped f nodes y c in
      let s = subst (IsAs r.0) r.2 (same r.0) in
      subst (Contains landed) (sym s.number) (A.each r.0 r.1 (sym (landed_as r.0 y s) ∙ e));
  once = A.once;
}

-- no more landed than there are heads
pub landed_few : (nodes : List Node) (landed : List ℕ) → AreLanded nodes landed → length landed ≤ length nodes
landed_few nodes landed A =
    let number = λ (x : Node). x.patch.number in
    let few = once_fits landed (map number nodes) A.once (λ n h. let o = A.only n (Contains-from_In landed n h) in In-map number nodes o.0 n (In-from_Contains nodes o.0 o.1) o.2) in
    omega (arith, few, length-map nodes number)

alone : (q n : ℕ) → Contains (q ∷ []) n → n ≡ q
alone q n h = elim (Contains-push_cases [] q n h) [ inl o ↦ absurd (omega (arith, o.1)) | inr same ↦ sym same ]

-- a new node, whose number no other has
module _ (nodes : List Node) (y : Node) (landed : List ℕ) (free : (x : Node) → Contains nodes x → x.patch.number ≢ y.patch.number) (kept : y.forgotten ≡ false) (A : AreLanded nodes landed) where
  gone_with : (x : Node) → Contains (nodes ++ y ∷ []) x → x.forgotten ≡ true → x.pending ≡ pending.Nothing
  gone_with x c t = elim (Contains-push_cases nodes y x c) [
    | inl old ↦ A.gone x old t
    | inr new ↦ absurd (false≢true (sym kept ∙ (ap (λ (z : Node). z.forgotten) new ∙ t)))
  ]

  only_with : (n : ℕ) → Contains landed n → (x : Node) × Contains (nodes ++ y ∷ []) x × (x.patch.number ≡ n) × (is_landed x ≡ true)
  only_with n h = let o = A.only n h in (o.0, Contains-append_left nodes (y ∷ []) o.0 o.1, o.2, o.3)

  -- it waits for the disk
  pub landed_push_waiting : is_pending y.pending pending.Nothing ≡ false → AreLanded (nodes ++ y ∷ []) landed
  landed_push_waiting waits = record {
    gone = gone_with;
    only = only_with;
    each = λ x c t. elim (Contains-push_cases nodes y x c) [
      | inl old ↦ A.each x old t
      | inr new ↦ absurd (false≢true (sym waits ∙ (and_parts (not y.forgotten) _ (ap is_landed new ∙ t)).1))
    ];
    once = A.once;
  }

  -- it is on disk at once
  pub landed_push : is_pending y.pending pending.Nothing ≡ true → AreLanded (nodes ++ y ∷ []) (landed ++ y.patch.number ∷ [])
  landed_push rests = record {
    gone = gone_with;
    only = λ n h. elim (Contains-push_cases landed y.patch.number n h) [
      | inl old ↦ only_with n old
      | inr new ↦ (y, Contains-push nodes y, new, and_from _ _ (ap not kept) rests)
    ];
    each = λ x c t. elim (Contains-push_cases nodes y x c) [
      | inl old ↦ Contains-append_left landed (y.patch.number ∷ []) x.patch.number (A.each x old t)
      | inr new ↦ subst (Contains (landed ++ y.patch.number ∷ [])) (ap (λ (z : Node). z.patch.number) new) (Contains-push landed y.patch.number)
    ];
    once = once_append landed (y.patch.number ∷ []) A.once (λ i j d lt inside. absurd (omega (arith, lt, inside))) (λ n h one.
        let o = A.only n h in
        free o.0 o.1 (o.2 ∙ alone y.patch.number n one));
  }

-- those that hear stay so
to_disk : (t : Bool) (x : Node) → IsAs x (if t then record x { patch = record x.patch { place = place.Disk } } else x)
to_disk true x = record { number = refl; pending = refl; forgotten = refl }
to_disk false x = record { number = refl; pending = refl; forgotten = refl }

pub rested_as : (x : Node) → IsAs x (rested x)
rested_as x = to_disk (follows x.patch.kind && (x.sums.count == 0)) x

notified_if : (t : Bool) (old new : Pending) (x : Node) → IsAs x (if t then updated old new x else x)
notified_if true old new x = let k = rested_as (record x { sums = plus new (minus old x.sums) }) in record { number = k.number; pending = k.pending; forgotten = k.forgotten }
notified_if false old new x = record { number = refl; pending = refl; forgotten = refl }

notified_as : (row : List ℕ) (old new : Pending) (x : Node) → IsAs x (notified row old new x)
notified_as row old new x = notified_if (is_among row x.patch.number) old new x

pub length_if : (ns : List ℕ) (t : Bool) (n : ℕ) → length (ns ++ (if t then n ∷ [] else [])) ≡ length ns + cond t 1 0
length_if ns true n = omega (arith, length-append ns (n ∷ []))
length_if ns false n = omega (arith, length-append ns [])

-- what is pending of one is told: where that is nothing, it landed
module _ (nodes : List Node) (landed : List ℕ) (q : ℕ) (here : Node) (rising : AllPairs (λ a b. a.patch.number < b.patch.number) nodes)
    (A : AreLanded nodes landed) (c : Contains nodes here) (e : here.patch.number ≡ q) (waits : is_waiting here ≡ true) where
  abbrev next : List Node
  next = map (at_number q recorded) nodes

  waits_not : here.pending ≡ pending.Nothing → ⊥
  waits_not none = false≢true (sym (ap (λ p. not (is_pending p pending.Nothing)) none) ∙ waits)

  kept : here.forgotten ≡ false
  kept = elim (cases_Bool here.forgotten) [ inl t ↦ absurd (waits_not (A.gone here c t)) | inr f ↦ f ]

  landed_not : is_landed here ≡ false
  landed_not = elim (cases_Bool (is_landed here)) [ inl t ↦ absurd (waits_not (is_nothing here.pending (and_parts (not here.forgotten) _ t).1)) | inr f ↦ f ]

  -- a node was the one that is settled, or is as it was
  was : (y : Node) → Contains next y → (y ≡ recorded here) ⊎ (Contains nodes y × (y.patch.number ≢ q))
  was y k =
      let r = unmapped (at_number q recorded) nodes y k in
      elim (cases_eq r.0.patch.number q) [
        | inl same ↦ inl (sym r.2 ∙ (at_same q recorded r.0 same ∙ ap recorded (same_node nodes r.0 here rising r.1 c (same ∙ sym e))))
        | inr other ↦ let is = sym r.2 ∙ at_other q recorded r.0 other in inr (subst (Contains nodes) (sym is) r.1, λ n. other (sym (ap (λ (z : Node). z.patch.number) is) ∙ n))
      ]

  there : (x : Node) → Contains nodes x → x.patch.number ≢ q → Contains next x
  there x k other = Contains-from_In next x (In-map (at_number q recorded) nodes x x (In-from_Contains nodes x k) (at_other q recorded x other))

  there_now : Contains next (recorded here)
  there_now = Contains-from_In next (recorded here) (In-map (at_number q recorded) nodes here (recorded here) (In-from_Contains nodes here c) (at_same q recorded here e))

  -- it was none of those that landed
  off : Contains landed q → ⊥
  off h =
      let o = A.only q h in
      let is = same_node nodes o.0 here rising o.1 c (o.2 ∙ sym e) in
      false≢true (sym landed_not ∙ (sym (ap is_landed is) ∙ o.3))

  gone_next : (y : Node) → Contains next y → y.forgotten ≡ true → y.pending ≡ pending.Nothing
  gone_next y k t = elim (was y k) [
    | inl same ↦ absurd (false≢true (sym kept ∙ (ap (λ (z : Node). z.forgotten) (sym same) ∙ t)))
    | inr o ↦ A.gone y o.0 t
  ]

  only_next : (n : ℕ) → Contains landed n → (x : Node) × Contains next x × (x.patch.number ≡ n) × (is_landed x ≡ true)
  only_next n h = let o = A.only n h in (o.0, there o.0 o.1 (λ same. off (subst (Contains landed) (sym o.2 ∙ same) h)), o.2, o.3)

  -- where nothing is pending of it now, it landed
  recorded_landed : is_pending (now here) pending.Nothing ≡ true → AreLanded next (landed ++ q ∷ [])
  recorded_landed none = record {
    gone = gone_next;
    only = λ n h. elim (Contains-push_cases landed q n h) [
      | inl o ↦ only_next n o
      | inr same ↦ (recorded here, there_now, e ∙ same, and_from _ _ (ap not kept) none)
    ];
    each = λ y k t. elim (was y k) [
      | inl same ↦ subst (Contains (landed ++ q ∷ [])) (sym (ap (λ (z : Node). z.patch.number) same ∙ e)) (Contains-push landed q)
      | inr o ↦ Contains-append_left landed (q ∷ []) y.patch.number (A.each y o.0 t)
    ];
    once = once_append landed (q ∷ []) A.once (λ i j d lt inside. absurd (omega (arith, lt, inside))) (λ n h one. off (subst (Contains landed) (alone q n one) h));
  }

  recorded_waiting : is_pending (now here) pending.Nothing ≡ false → AreLanded next landed
  recorded_waiting some = record {
    gone = gone_next;
    only = only_next;
    each = λ y k t. elim (was y k) [
      | inl same ↦ absurd (false≢true (sym some ∙ (and_parts (not here.forgotten) _ (sym (ap is_landed same) ∙ t)).1))
      | inr o ↦ A.each y o.0 t
    ];
    once = A.once;
  }

  recorded_noted : AreLanded next (landed ++ (if is_pending (now here) pending.Nothing then q ∷ [] else []))
  recorded_noted = elim (cases_Bool (is_pending (now here) pending.Nothing)) [ inl t ↦ rw t (recorded_landed t) | inr f ↦ rw (f, append-nil landed) (recorded_waiting f) ]

  -- and those that hear of it stay so
  pub notified_noted : (row : List ℕ) (old new : Pending) → AreLanded (map (notified row old new) next) (landed ++ (if is_pending (now here) pending.Nothing then q ∷ [] else []))
  notified_noted row old new = landed_map (notified row old new) next _ (notified_as row old new) recorded_noted

  -- it has a place among them
  pub place_noted : is_pending (now here) pending.Nothing ≡ true → length landed < length nodes
  place_noted none = omega (arith, landed_few next (landed ++ q ∷ []) (recorded_landed none), length-append landed (q ∷ []), length-map nodes (at_number q recorded))
