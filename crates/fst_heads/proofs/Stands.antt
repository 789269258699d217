-- How the counts of each block follow what becomes of patches.
use Rattle.fst_heads.proofs.Basics.{◌≡◌, ◌≢◌, ◌&&◌, ◌+◌, ◌<◌, ◌≤◌, ℕ, Bool, true, false, not, cond, List, map, filter, count_by, set, get_or, All, AllPairs, refl, sym, ap, subst, ◌∙◌, inl, inr, arith, cases_Bool, cases_eq, cases_lt, and_parts, eq-eqb, ne_eqb, false≢true, false_from_ne_true, rules, All-contains, All-filter, All-push}
use Rattle.fst_heads.proofs.Patches.{Grade, Place, HasOnePlaceEach, IsOpenNumber, Kind, Patch, Change, OpenGate, SealedGate, is_among, is_at, is_change_at, is_live, is_on, same_number, filter_in, in_filter, In, Contains-from_In, In-get_or, In-map, In-unmap, among_in, in_among}
use Rattle.fst_heads.proofs.Words.{Pending, Sums, Standing, IsInside, Node, patches_in, at_number, linked_to, gains_names, is_pending, notified, seals, lands, launches, AllStand, is_ready_on, is_held_on, is_flying_on, ready_on, standing_of, readied, entered, sent, arrived, LieAsTold, LiesIn, NoneHeldBelow, nowhere, is_hard_kind}
use Rattle.fst_heads.proofs.{Added.{with_node, new_node, with_names}, AtNumber.{at_same, at_other}}
use Rattle.fst_heads.proofs.CountsAs.{CountsAs, StandsAs, counts, count_cons, count_append, count_map, count_nothing, count_none, count_kept, standing_same, stands_as, stand_as, stand_map, stand_set, off_place, off_ready, off_held, off_as, like_as, self_as, rested_as, on_one}
use Rattle.fst_heads.proofs.Stretches.{NumbersHave, numbers_map, numbers_none, widened_here, lie_wider}
use Rattle.fst_heads.proofs.{Waiting.same_node, Indices.rising_back}
use Rattle.fst_heads.proofs.Patches.place
use Rattle.fst_heads.proofs.Words.pending

-- those that hear of another keep their places in the counts
pub stand_notified : (nodes : List Node) (blocks : ℕ) (standings : List Standing) (row : List ℕ) (old new : Pending) → AllStand nodes blocks standings → AllStand (map (notified row old new) nodes) blocks standings
stand_notified nodes blocks standings row old new S = stand_map (notified row old new) nodes blocks standings (λ x b i lt. one b x) S
  where
    one : (b : ℕ) (x : Node) → CountsAs b (notified row old new x) x
    one b x = grind (arith, cases_Bool, rested_as, self_as)

pub stand_sealed : (nodes : List Node) (numbers blocks g : ℕ) (standings : List Standing) → HasOnePlaceEach (patches_in nodes) numbers → IsOpenNumber (patches_in nodes) g
    → AllStand nodes blocks standings → AllStand (map (at_number g seals) nodes) blocks standings
stand_sealed nodes numbers blocks g standings H gate S = stand_map (at_number g seals) nodes blocks standings (λ x b i lt. one b x i) S
  where
    open_gate : (x : Node) → In nodes x → x.patch.number ≡ g → x.patch.kind ≡ OpenGate
    open_gate x i e =
        let there = Contains-from_In (patches_in nodes) x.patch (In-map (λ (y : Node). y.patch) nodes x x.patch i refl) in
        ap (λ (p : Patch). p.kind) (same_number (patches_in nodes) x.patch gate.patch H.rising there gate.head (e ∙ sym gate.numbered)) ∙ gate.is_open

    one : (b : ℕ) (x : Node) → In nodes x → CountsAs b (at_number g seals x) x
    one b x i = elim (cases_eq x.patch.number g) [
      | inl same ↦
          let off : is_on b x.patch.kind ≡ false = ap (is_on b) (open_gate x i same) in
          let shut : Node = record x { patch = record x.patch { kind = SealedGate } } in
          let sealed_as = off_as b shut x refl off in
          let all = rested_as b shut in
          rw (at_same g seals x same) (record { ready = all.ready ∙ sealed_as.ready; held = all.held ∙ sealed_as.held; flying = all.flying ∙ sealed_as.flying; number = all.number })
      | inr ne ↦ rw (at_other g seals x ne) (self_as b x)
    ]

-- a landing of b changes no count of another block
landed_other : (b c : ℕ) (x : Node) → c ≢ b → CountsAs c (lands b x) x
landed_other b c x ne = grind (arith, cases_Bool, on_one, off_as, self_as)

-- a block without changes in it has nothing in flight
pub stand_landed_outside : (nodes : List Node) (blocks b : ℕ) (standings : List Standing) → IsInside (patches_in nodes) blocks → blocks ≤ b
    → AllStand nodes blocks standings → AllStand (map (lands b) nodes) blocks standings
stand_landed_outside nodes blocks b standings inside outside S = stand_map (lands b) nodes blocks standings (λ x c i lt. landed_other b c x (λ same. omega (arith, lt, same, outside))) S

in_flight : (p : Place) (on : Bool) → (is_at p place.Flight && on) ≡ true → (is_at p place.Memory) ≡ false
in_flight place.Flight on e = refl
in_flight p on e = absurd (false≢true e)

pub stand_landed : (nodes : List Node) (blocks b : ℕ) (standings : List Standing) (d : Standing) → b < blocks
    → AllStand nodes blocks standings → AllStand (map (lands b) nodes) blocks (set standings b (arrived (get_or standings b d)))
stand_landed nodes blocks b standings d lt S = stand_set (map (lands b) nodes) nodes blocks b standings _ lt S own
    (record {
      held = numbers_map (is_held_on b) (is_held_on b) (λ n. (get_or standings b d).held_from ≤ n) (lands b) nodes (λ x i e. (sym (held_stays x) ∙ e, lands_number x)) (S.lie b d lt).held;
      ready = numbers_map (is_ready_on b) (is_ready_on b) (LiesIn (get_or standings b d).ready_in) (lands b) nodes (λ x i e. (sym (ready_stays x) ∙ e, lands_number x)) (S.lie b d lt).ready;
      flying = numbers_map (is_flying_on b) (λ x. false) (LiesIn nowhere) (lands b) nodes (λ x i e. absurd (false≢true (sym (none_flies x) ∙ e))) (numbers_none (λ x. false) (LiesIn nowhere) nodes (λ x i. refl));
    })
    (λ c inside ne. stands_as (lands b) nodes c (λ x i. landed_other b c x ne))
  where
    -- what flies is in memory neither before nor after
    ready_stays : (x : Node) → is_ready_on b (lands b x) ≡ is_ready_on b x
    ready_stays x = grind (arith, cases_Bool, in_flight)

    held_stays : (x : Node) → is_held_on b (lands b x) ≡ is_held_on b x
    held_stays x = elim (cases_Bool (is_flying_on b x)) [ inl e ↦ rw (e, in_flight x.patch.place (is_on b x.patch.kind) e) refl | inr e ↦ rw e refl ]

    none_flies : (x : Node) → is_flying_on b (lands b x) ≡ false
    none_flies x = elim (cases_Bool (is_flying_on b x)) [ inl e ↦ rw e refl | inr e ↦ rw e e ]

    lands_number : (x : Node) → (lands b x).patch.number ≡ x.patch.number
    lands_number x = elim (cases_Bool (is_flying_on b x)) [ inl e ↦ rw e refl | inr e ↦ rw e refl ]

    own : arrived (get_or standings b d) ≡ standing_of (map (lands b) nodes) b (arrived (get_or standings b d))
    own = standing_same _ _ _ _ _ _ (arrived (get_or standings b d))
        (ap (λ (s : Standing). s.ready) (S.each b d lt) ∙ sym (count_map (is_ready_on b) (is_ready_on b) (lands b) nodes (λ x i. ready_stays x)))
        (ap (λ (s : Standing). s.held) (S.each b d lt) ∙ sym (count_map (is_held_on b) (is_held_on b) (lands b) nodes (λ x i. held_stays x)))
        (sym (count_map (is_flying_on b) (λ x. false) (lands b) nodes (λ x i. none_flies x) ∙ count_nothing (λ x. false) nodes (λ x i. refl)))

-- one number, one node
pub rising_in : (nodes : List Node) → AllPairs (λ p q. p.number < q.number) (patches_in nodes) → AllPairs (λ x y. x.patch.number < y.patch.number) nodes
rising_in nodes rising = rising_back (λ (x : Node). x.patch) nodes (λ x. x.patch.number) (λ p. p.number) (λ x. refl) rising

-- where one block launches what is ready of it
module _ (nodes : List Node) (rising : AllPairs (λ x y. x.patch.number < y.patch.number) nodes) (b : ℕ) where
  -- a number is one of those that are ready exactly if its node is
  pub among_ready : (x : Node) → In nodes x → is_among (ready_on b nodes) x.patch.number ≡ is_ready_on b x
  among_ready x i = elim (cases_Bool (is_ready_on b x)) [
    | inl e ↦ in_among (ready_on b nodes) x.patch.number (In-map (λ (y : Node). y.patch.number) (filter (is_ready_on b) nodes) x x.patch.number (in_filter (is_ready_on b) nodes x i e) refl) ∙ sym e
    | inr e ↦ elim (cases_Bool (is_among (ready_on b nodes) x.patch.number)) [
      | inl m ↦
          let r = In-unmap (λ (y : Node). y.patch.number) (filter (is_ready_on b) nodes) x.patch.number (among_in (ready_on b nodes) x.patch.number m) in
          let k = filter_in (is_ready_on b) nodes r.0 r.1 in
          let same = same_node nodes r.0 x rising (Contains-from_In nodes r.0 k.0) (Contains-from_In nodes x i) r.2 in
          absurd (false≢true (sym e ∙ subst (λ z. is_ready_on b z ≡ true) same k.1))
      | inr n ↦ n ∙ sym e
    ]
  ]

  pub goes : (x : Node) → In nodes x → is_ready_on b x ≡ true → launches (ready_on b nodes) x ≡ record x { patch = record x.patch { place = place.Flight } }
  goes x i e = ap (λ t. record x { patch = cond t (record x.patch { place = place.Flight }) x.patch }) (among_ready x i ∙ e)

  pub stays : (x : Node) → In nodes x → is_ready_on b x ≡ false → launches (ready_on b nodes) x ≡ x
  stays x i e = ap (λ t. record x { patch = cond t (record x.patch { place = place.Flight }) x.patch }) (among_ready x i ∙ e)

  pub none_ready : (x : Node) → In nodes x → is_ready_on b (launches (ready_on b nodes) x) ≡ false
  none_ready x i = elim (cases_Bool (is_ready_on b x)) [ inl e ↦ ap (is_ready_on b) (goes x i e) | inr e ↦ ap (is_ready_on b) (stays x i e) ∙ e ]

  pub held_as : (x : Node) → In nodes x → is_held_on b (launches (ready_on b nodes) x) ≡ is_held_on b x
  held_as x i = grind (arith, cases_Bool, and_parts, goes, stays)

  flies_as : (x : Node) → In nodes x → is_flying_on b x ≡ false → is_flying_on b (launches (ready_on b nodes) x) ≡ is_ready_on b x
  flies_as x i none = grind (arith, cases_Bool, and_parts, goes, stays)

  pub launched_other : (c : ℕ) (x : Node) → In nodes x → c ≢ b → CountsAs c (launches (ready_on b nodes) x) x
  launched_other c x i ne = grind (arith, cases_Bool, and_parts, on_one, goes, off_as, stays, self_as)

launches_number : (row : List ℕ) (x : Node) → (launches row x).patch.number ≡ x.patch.number
launches_number row x = elim (cases_Bool (is_among row x.patch.number)) [ inl e ↦ rw e refl | inr e ↦ rw e refl ]

-- all that is ready of the block goes, and nothing else
pub stand_launched : (nodes : List Node) (numbers blocks b : ℕ) (standings : List Standing) (d : Standing) → HasOnePlaceEach (patches_in nodes) numbers → b < blocks → (get_or standings b d).flying ≡ 0
    → AllStand nodes blocks standings
    → AllStand (map (launches (ready_on b nodes)) nodes) blocks (set standings b (sent (get_or standings b d)))
stand_launched nodes numbers blocks b standings d H lt rest S = stand_set (map (launches (ready_on b nodes)) nodes) nodes blocks b standings _ lt S own
    (record {
      held = numbers_map (is_held_on b) (is_held_on b) (λ n. (get_or standings b d).held_from ≤ n) (launches (ready_on b nodes)) nodes (λ x i e. (sym (held_as nodes rising b x i) ∙ e, launches_number (ready_on b nodes) x)) (S.lie b d lt).held;
      ready = numbers_map (is_ready_on b) (λ x. false) (LiesIn nowhere) (launches (ready_on b nodes)) nodes (λ x i e. absurd (false≢true (sym (none_ready nodes rising b x i) ∙ e))) (numbers_none (λ x. false) (LiesIn nowhere) nodes (λ x i. refl));
      flying = numbers_map (is_flying_on b) (is_ready_on b) (LiesIn (get_or standings b d).ready_in) (launches (ready_on b nodes)) nodes (λ x i e. (sym (flies_as nodes rising b x i (resting x i)) ∙ e, launches_number (ready_on b nodes) x)) (S.lie b d lt).ready;
    })
    (λ c inside ne. stands_as (launches (ready_on b nodes)) nodes c (λ x i. launched_other nodes rising b c x i ne))
  where
    rising : AllPairs (λ x y. x.patch.number < y.patch.number) nodes
    rising = grind (arith, rising_in)

    resting : (x : Node) → In nodes x → is_flying_on b x ≡ false
    resting x i = count_none (is_flying_on b) nodes (sym (ap (λ (s : Standing). s.flying) (S.each b d lt)) ∙ rest) x i

    own : sent (get_or standings b d) ≡ standing_of (map (launches (ready_on b nodes)) nodes) b (sent (get_or standings b d))
    own = standing_same _ _ _ _ _ _ (sent (get_or standings b d))
        (sym (count_map (is_ready_on b) (λ x. false) (launches (ready_on b nodes)) nodes (λ x i. none_ready nodes rising b x i) ∙ count_nothing (λ x. false) nodes (λ x i. refl)))
        (ap (λ (s : Standing). s.held) (S.each b d lt) ∙ sym (count_map (is_held_on b) (is_held_on b) (launches (ready_on b nodes)) nodes (λ x i. held_as nodes rising b x i)))
        (ap (λ (s : Standing). s.ready) (S.each b d lt) ∙ sym (count_map (is_flying_on b) (is_ready_on b) (launches (ready_on b nodes)) nodes (λ x i. flies_as nodes rising b x i (resting x i))))

-- what is dropped was on disk, and counts for no block
pub stand_dropped : (nodes : List Node) (blocks : ℕ) (standings : List Standing) → AllStand nodes blocks standings → AllStand (filter (λ x. is_live x.patch) nodes) blocks standings
stand_dropped nodes blocks standings S = stand_as (filter (λ x. is_live x.patch) nodes) nodes blocks standings (λ b lt. record {
  counted = λ s. search (rules, standing_same, count_kept);
  lie = λ s L. record {
    held = All-filter (λ x. is_live x.patch) (λ x. is_held_on b x ≡ true → s.held_from ≤ x.patch.number) nodes L.held;
    ready = All-filter (λ x. is_live x.patch) (λ x. is_ready_on b x ≡ true → LiesIn s.ready_in x.patch.number) nodes L.ready;
    flying = All-filter (λ x. is_live x.patch) (λ x. is_flying_on b x ≡ true → LiesIn s.flying_in x.patch.number) nodes L.flying;
  };
}) S

-- a link keeps what a node counts as
linked_as : (row : List ℕ) (n b : ℕ) (x : Node) → CountsAs b (linked_to row n x) x
linked_as row n b x = elim (cases_Bool (is_among row x.patch.number)) [ inl e ↦ rw e (like_as b _ x refl refl refl refl) | inr e ↦ rw e (self_as b x) ]

-- a count where there is a new node
count_made : (t : Node → Bool) (nodes : List Node) (p : Patch) → ((x : Node) → t (linked_to p.dependencies p.number x) ≡ t x) → count_by t (with_node nodes p) ≡ count_by t nodes + cond (t (new_node nodes p)) 1 0
count_made t nodes p same = grind (arith, count_cons, new_node, count_map, count_append)

standing_made : (nodes : List Node) (p : Patch) (b : ℕ) (s : Standing)
    → standing_of (with_node nodes p) b s
    ≡ counts (count_by (is_ready_on b) nodes + cond (is_ready_on b (new_node nodes p)) 1 0) (count_by (is_held_on b) nodes + cond (is_held_on b (new_node nodes p)) 1 0)
    (count_by (is_flying_on b) nodes + cond (is_flying_on b (new_node nodes p)) 1 0) s
standing_made nodes p b s = grind (arith, standing_same, count_made, linked_as)

linked_number : (row : List ℕ) (n : ℕ) (x : Node) → (linked_to row n x).patch.number ≡ x.patch.number
linked_number row n x = elim (cases_Bool (is_among row x.patch.number)) [ inl e ↦ rw e refl | inr e ↦ rw e refl ]

-- the numbers of those that pass where there is a new node
numbers_made : (t : Node → Bool) (P : ℕ → Type 0) (nodes : List Node) (p : Patch) → ((x : Node) → t (linked_to p.dependencies p.number x) ≡ t x) → (t (new_node nodes p) ≡ true → P p.number)
    → NumbersHave t P nodes → NumbersHave t P (with_node nodes p)
numbers_made t P nodes p same new all = All-push (λ x. t x ≡ true → P x.patch.number) (map (linked_to p.dependencies p.number) nodes) (new_node nodes p)
    (numbers_map t t P (linked_to p.dependencies p.number) nodes (λ x i e. (sym (same x) ∙ e, linked_number p.dependencies p.number x)) all) new

-- what is told of the numbers with a new patch, where that says of it what it has to
lie_made : (nodes : List Node) (p : Patch) (b : ℕ) (s : Standing) → (is_held_on b (new_node nodes p) ≡ true → s.held_from ≤ p.number)
    → (is_ready_on b (new_node nodes p) ≡ true → LiesIn s.ready_in p.number) → (is_flying_on b (new_node nodes p) ≡ true → LiesIn s.flying_in p.number)
    → LieAsTold nodes b s → LieAsTold (with_node nodes p) b s
lie_made nodes p b s held ready flying L = record {
  held = numbers_made (is_held_on b) (λ n. s.held_from ≤ n) nodes p (λ x. (linked_as p.dependencies p.number b x).held) held L.held;
  ready = numbers_made (is_ready_on b) (LiesIn s.ready_in) nodes p (λ x. (linked_as p.dependencies p.number b x).ready) ready L.ready;
  flying = numbers_made (is_flying_on b) (LiesIn s.flying_in) nodes p (λ x. (linked_as p.dependencies p.number b x).flying) flying L.flying;
}

none_more : (n : ℕ) (t : Bool) → t ≡ false → n + cond t 1 0 ≡ n
none_more n t e = ap (λ u. n + cond u 1 0) e ∙ omega arith

-- a new patch that is no change of the block
made_off : (nodes : List Node) (p : Patch) (b : ℕ) → is_on b p.kind ≡ false → StandsAs b (with_node nodes p) nodes
made_off nodes p b off = record {
  counted = λ s. standing_made nodes p b s ∙ standing_same _ _ _ _ _ _ s
      (none_more _ _ (off_ready b (new_node nodes p) off))
      (none_more _ _ (off_held b (new_node nodes p) off))
      (none_more _ _ (off_place b place.Flight (new_node nodes p) off));
  lie = λ s. lie_made nodes p b s
      (λ e. absurd (false≢true (sym (off_held b (new_node nodes p) off) ∙ e)))
      (λ e. absurd (false≢true (sym (off_ready b (new_node nodes p) off) ∙ e)))
      (λ e. absurd (false≢true (sym (off_place b place.Flight (new_node nodes p) off) ∙ e)));
}

-- a new patch that is no change
pub stand_made : (nodes : List Node) (blocks : ℕ) (standings : List Standing) (p : Patch) → ((b : ℕ) → is_on b p.kind ≡ false) → AllStand nodes blocks standings → AllStand (with_node nodes p) blocks standings
stand_made nodes blocks standings p off S = stand_as (with_node nodes p) nodes blocks standings (λ b lt. made_off nodes p b (off b)) S

off_block : (b c : ℕ) (k : Kind) (at len : ℕ) (grade : Grade) → k ≡ Change b at len grade → c ≢ b → is_on c k ≡ false
off_block b c k at len grade kind ne = ap (is_on c) kind ∙ ne_eqb b c (λ e. ne (sym e))

-- how many more are ready and held with a new change
entered_counts : (hard ready : Bool) (number : ℕ) (s : Standing)
    → entered hard ready number s ≡ counts (s.ready + cond ready 1 0) (s.held + cond (hard && not ready) 1 0) s.flying (entered hard ready number s)
entered_counts true true number s = standing_same _ _ _ _ _ _ (entered true true number s) refl (omega arith) refl
entered_counts false true number s = standing_same _ _ _ _ _ _ (entered false true number s) refl (omega arith) refl
entered_counts true false number s = standing_same _ _ _ _ _ _ (entered true false number s) (omega arith) refl refl
entered_counts false false number s = standing_same _ _ _ _ _ _ s (omega arith) (omega arith) refl

more_counted : (k n : ℕ) (t u : Bool) → k ≡ n → u ≡ t → k + cond t 1 0 ≡ n + cond u 1 0
more_counted k n t u e same = rw (e, same) refl

-- where a new patch has the greatest number
module _ (nodes : List Node) (b : ℕ) (p : Patch) (s : Standing) (counted : s.held ≡ count_by (is_held_on b) nodes) (newest : All (λ x. x.patch.number < p.number) nodes) (L : LieAsTold nodes b s) where
  none_held : s.held ≡ 0 → NoneHeldBelow nodes b p.number
  none_held none k d lt held = absurd (false≢true (sym (count_none (is_held_on b) nodes (sym counted ∙ none) _ (In-get_or nodes k d lt)) ∙ held))

  some_held : s.held ≢ 0 → s.held_from ≤ p.number
  some_held some = elim (cases_lt p.number s.held_from) [
    | inl less ↦ absurd (some (counted ∙ count_nothing (is_held_on b) nodes (λ x i. false_from_ne_true (is_held_on b x) (λ held.
        let c = Contains-from_In nodes x i in
        let from = All-contains (λ x. is_held_on b x ≡ true → s.held_from ≤ x.patch.number) nodes x L.held c held in
        let below = All-contains (λ x. x.patch.number < p.number) nodes x newest c in
        omega (arith, from, below, less)))))
    | inr le ↦ le
  ]

  -- where it is ready
  lie_entered_ready : is_held_on b (new_node nodes p) ≡ false → is_flying_on b (new_node nodes p) ≡ false → LieAsTold (with_node nodes p) b (readied p.number s)
  lie_entered_ready off none = lie_made nodes p b (readied p.number s) (λ e. absurd (false≢true (sym off ∙ e))) (λ e. widened_here p.number s.ready_in) (λ e. absurd (false≢true (sym none ∙ e)))
      (record { held = L.held; ready = lie_wider (is_ready_on b) nodes p.number s.ready_in L.ready; flying = L.flying })

  -- what is told of the numbers with it, in memory
  entered_lie : (hard ready : Bool) → is_held_on b (new_node nodes p) ≡ (hard && not ready) → is_ready_on b (new_node nodes p) ≡ ready → is_flying_on b (new_node nodes p) ≡ false
      → LieAsTold (with_node nodes p) b (entered hard ready p.number s)
  entered_lie true true off on none = lie_entered_ready off none
  entered_lie false true off on none = lie_entered_ready off none
  entered_lie false false off on none =
      lie_made nodes p b s (λ e. absurd (false≢true (sym off ∙ e))) (λ e. absurd (false≢true (sym on ∙ e))) (λ e. absurd (false≢true (sym none ∙ e))) L
  entered_lie true false off on none = elim (cases_eq s.held 0) [
    | inl zero ↦ rw (eq-eqb s.held 0 zero) (lie_made nodes p b _ (λ e. omega arith) (λ e. absurd (false≢true (sym on ∙ e))) (λ e. absurd (false≢true (sym none ∙ e))) (record { held = none_held zero; ready = L.ready; flying = L.flying }))
    | inr some ↦ rw (ne_eqb s.held 0 some) (lie_made nodes p b _ (λ e. some_held some) (λ e. absurd (false≢true (sym on ∙ e))) (λ e. absurd (false≢true (sym none ∙ e))) (record { held = L.held; ready = L.ready; flying = L.flying }))
  ]

-- a new change, with the greatest number
module _ (nodes : List Node) (blocks : ℕ) (standings : List Standing) (p : Patch) (b at len : ℕ) (grade : Grade) (d : Standing) (kind : p.kind ≡ Change b at len grade) (memory : p.place ≡ place.Memory) (lt : b < blocks)
    (newest : All (λ x. x.patch.number < p.number) nodes) (S : AllStand nodes blocks standings) where
  abbrev s : Standing
  s = get_or standings b d

  abbrev hard : Bool
  hard = is_hard_kind p.kind

  abbrev ready : Bool
  ready = is_pending (new_node nodes p).pending (pending.Block b)

  there : is_change_at place.Memory b p ≡ true
  there = ap (λ q. is_at q place.Memory && is_on b p.kind) memory ∙ (ap (is_on b) kind ∙ eq-eqb b b refl)

  here : is_held_on b (new_node nodes p) ≡ (hard && not ready)
  here = ap (λ t. t && hard && not ready) there

  there_ready : is_ready_on b (new_node nodes p) ≡ ready
  there_ready = ap (λ t. t && ready) there

  none_flies : is_flying_on b (new_node nodes p) ≡ false
  none_flies = ap (λ q. is_at q place.Flight && is_on b p.kind) memory

  own : entered hard ready p.number s ≡ standing_of (with_node nodes p) b (entered hard ready p.number s)
  own = entered_counts hard ready p.number s
      ∙ (standing_same _ _ _ _ _ _ (entered hard ready p.number s)
      (more_counted _ _ _ _ (ap (λ (s : Standing). s.ready) (S.each b d lt)) there_ready)
      (more_counted _ _ _ _ (ap (λ (s : Standing). s.held) (S.each b d lt)) here)
      (ap (λ (s : Standing). s.flying) (S.each b d lt) ∙ sym (none_more _ _ none_flies))
      ∙ sym (standing_made nodes p b (entered hard ready p.number s)))

  pub stand_change : AllStand (with_node nodes p) blocks (set standings b (entered (is_hard_kind p.kind) (is_pending (new_node nodes p).pending (pending.Block b)) p.number (get_or standings b d)))
  stand_change = stand_set (with_node nodes p) nodes blocks b standings _ lt S own
      (entered_lie nodes b p s (ap (λ (s : Standing). s.held) (S.each b d lt)) newest (S.lie b d lt) hard ready here there_ready none_flies)
      (λ c inside ne. made_off nodes p c (off_block b c p.kind at len grade kind ne))

gained_as : (g b : ℕ) (names : List ℕ) (sums : Sums) (x : Node) → CountsAs b (at_number g (gains_names names sums) x) x
gained_as g b names sums x = grind (arith, cases_eq, at_same, like_as, at_other, self_as)

pub stand_gained : (nodes : List Node) (blocks g : ℕ) (names : List ℕ) (sums : Sums) (standings : List Standing) → AllStand nodes blocks standings → AllStand (with_names nodes g names sums) blocks standings
stand_gained nodes blocks g names sums standings S = search (rules, stand_map, linked_as, gained_as)
