-- One step of a spread: what is pending of one patch now is told to its dependants.
use Rattle.fst_heads.proofs.Basics.{◌≡◌, ◌≢◌, ◌⊎◌, ◌↔◌, ◌<◌, ◌≤◌, ℕ, true, false, List, [], ◌∷◌, ◌++◌, length, map, Contains, AllPairs, refl, sym, ap, subst, ◌∙◌, inl, inr, arith, cases_Bool, cases_eq, both_ways, length-map, Contains-push, Contains-push_cases, Contains-append_left, Contains-append_right}
use Rattle.fst_heads.proofs.{Basics.{Contains-append_cases, AllPairs-filter}, Patches.{Follows, In, In-map, In_decided, In-from_Contains, Contains-from_In}}
use Rattle.fst_heads.proofs.Words.{Pending, Node, pending_in, at_number, AreLinked, AreDistinct, Fits, HasIn, IsOf, joined, joined_sums, of_kind, plus, minus, sums_of, max_block, Spreading, IsSpreadOf, CanUpdate, now, is_recorded, recorded, notified, enqueued, unspread, unrisen, IsRisenOf}
use Rattle.fst_heads.proofs.{AtNumber.{at_same, at_other}, Placed.{unmapped, map_alike}}
use Rattle.fst_heads.proofs.Sums.{joined_exact, joined_some, sums_fit, sums_has, sums_moved, sums_same}
use Rattle.fst_heads.proofs.Going.{OneWay, goes_nothing, never_back, kind_goes, row_goes}
use Rattle.fst_heads.proofs.Turning.{Turns, turned, turns, stale, not_recorded, recorded_now, block_of, unrisen_stays}
use Rattle.fst_heads.proofs.Waiting.{mapped, map_twice, same_node, pending_of, pending_node, pending_mapped, rising_mapped, distance, distance_lower, times_some, some_times, once_fits, once_append, once_front, once_last, set_number, set_sums, enqueued_from, enqueued_to}
use Rattle.fst_heads.proofs.Patches.place
use Rattle.fst_heads.proofs.Words.pending

module _ {goes : Pending → Pending → Type 0} (nodes : List Node) (blocks : ℕ) (queue : List ℕ) where
  -- blocks that are pending fit
  narrow_in : blocks ≤ max_block → Spreading goes nodes blocks queue → (n b : ℕ) → IsOf b (pending_in nodes n) → b ≤ max_block
  narrow_in narrow S n b e =
      let r = pending_node nodes n b e in
      omega (arith, S.inside r.0 b r.1 r.2, narrow)

  -- the sums of all fit
  pub spreading_fits : blocks ≤ max_block → Spreading goes nodes blocks queue → (x : Node) → Contains nodes x → Fits x.sums
  spreading_fits narrow S x c = subst Fits (sym (S.summed x c)) (sums_fit (pending_in nodes) x.patch.dependencies (narrow_in narrow S))

  -- the queue names no more than there are
  pub queue_fits : Spreading goes nodes blocks queue → length queue ≤ length nodes
  queue_fits S =
      let number = λ (y : Node). y.patch.number in
      let few = once_fits queue (map number nodes) S.once (λ n h. let s = S.queued n (Contains-from_In queue n h) in In-map number nodes s.0 n (In-from_Contains nodes s.0 s.1) s.2) in
      omega (arith, few, length-map nodes number)

-- the last that waits is a patch of which other is pending than its dependants know
pub last_waits : {goes : Pending → Pending → Type 0} (nodes : List Node) (blocks : ℕ) (queue : List ℕ) (q : ℕ) → Spreading goes nodes blocks (queue ++ q ∷ []) → (x : Node) × Contains nodes x × (x.patch.number ≡ q) × (is_recorded x ≡ false)
last_waits nodes blocks queue q S = S.queued q (Contains-push queue q)

same_spread : (f : Node → Node) (nodes : List Node) → ((y : Node) → unspread (f y) ≡ unspread y) → map unspread (map f nodes) ≡ map unspread nodes
same_spread f [] same = refl
same_spread f (y ∷ ys) same = let first = same y in let rest = same_spread f ys same in cc

module _ {goes : Pending → Pending → Type 0} {far : Pending → ℕ} (way : OneWay goes far) (nodes : List Node) (blocks : ℕ) (queue : List ℕ) (q : ℕ) (x : Node) (narrow : blocks ≤ max_block)
    (S : Spreading goes nodes blocks (queue ++ q ∷ [])) (linked : AreLinked nodes) (distinct : AreDistinct nodes) (c : Contains nodes x) (e : x.patch.number ≡ q) where
  -- it is told, and then its dependants
  abbrev pub settled : List Node
  settled = map (at_number q recorded) nodes

  abbrev pub told : List Node
  told = map (notified x.dependants x.pending (now x)) settled

  -- what is pending at each number, before and after
  abbrev was : ℕ → Pending
  was = pending_in nodes

  abbrev is : ℕ → Pending
  is = pending_in told

  -- what becomes of a node
  abbrev after : Node → Node
  after = turned x.dependants x.pending (now x) q

  turn : (y : Node) → Turns x.dependants x.pending (now x) q y (after y)
  turn y = turns x.dependants x.pending (now x) q y

  other : now x ≢ x.pending
  other =
      let s = last_waits nodes blocks queue q S in
      stale x (subst (λ z. is_recorded z ≡ false) (same_node nodes s.0 x S.rising s.1 c (s.2 ∙ sym e)) s.3)

  pub live : x.pending ≢ pending.Nothing
  live none = other (goes_nothing way x.pending (now x) (S.moves x c) none ∙ sym none)

  in_one : told ≡ map after nodes
  in_one = map_twice (notified x.dependants x.pending (now x)) (at_number q recorded) nodes

  goes_on : (y : Node) → Contains nodes y → Contains told (after y)
  goes_on y cy = mapped (notified x.dependants x.pending (now x)) settled (at_number q recorded y) (mapped (at_number q recorded) nodes y cy)

  came_from : (z : Node) → Contains told z → (y : Node) × Contains nodes y × (after y ≡ z)
  came_from z cz =
      let a = unmapped (notified x.dependants x.pending (now x)) settled z cz in
      let b = unmapped (at_number q recorded) nodes a.0 a.1 in
      (b.0, b.1, ap (notified x.dependants x.pending (now x)) b.2 ∙ a.2)

  keeps_number : (y : Node) → (after y).patch.number ≡ y.patch.number
  keeps_number y = (turn y).stays.number

  rising_on : AllPairs (λ a b. a.patch.number < b.patch.number) told
  rising_on = subst (λ ns. AllPairs (λ a b. a.patch.number < b.patch.number) ns) (sym in_one) (rising_mapped after nodes keeps_number S.rising)

  was_here : was q ≡ x.pending
  was_here = ap was (sym e) ∙ pending_of nodes x S.rising c

  is_here : is q ≡ now x
  is_here = ap is (sym (keeps_number x ∙ e)) ∙ (pending_of told (after x) rising_on (goes_on x c) ∙ (turn x).as_it_is e)

  is_elsewhere : (n : ℕ) → n ≢ q → is n ≡ was n
  is_elsewhere n ne = ap (λ ns. pending_in ns n) in_one ∙ pending_mapped after nodes n keeps_number (λ y m. (turn y).as_it_was (λ s. ne (sym m ∙ s)))

  pub each_goes : (n : ℕ) → goes (was n) (is n)
  each_goes n = elim (cases_eq n q) [
    | inl s ↦ subst (λ k. goes (was k) (is k)) (sym s) (subst (λ a. goes a (is q)) (sym was_here) (subst (goes x.pending) (sym is_here) (S.moves x c)))
    | inr ne ↦ subst (goes (was n)) (sym (is_elsewhere n ne)) (way.stays (was n))
  ]

  -- its dependants are those that name it
  named : (y : Node) → Contains nodes y → In x.dependants y.patch.number → In y.patch.dependencies q
  named y cy h =
      subst (In y.patch.dependencies) e (some_times y.patch.dependencies x.patch.number (omega (arith, linked y x cy c, times_some x.dependants y.patch.number h)))

  unnamed : (y : Node) → Contains nodes y → (In x.dependants y.patch.number → ⊥) → (n : ℕ) → Contains y.patch.dependencies n → n ≢ q
  unnamed y cy out n cn same =
      let some = times_some y.patch.dependencies x.patch.number (subst (In y.patch.dependencies) (same ∙ sym e) (In-from_Contains y.patch.dependencies n cn)) in
      out (some_times x.dependants y.patch.number (omega (arith, linked y x cy c, some)))

  sums_are : (y : Node) → Contains nodes y → (after y).sums ≡ sums_of is y.patch.dependencies
  sums_are y cy = elim (In_decided x.dependants y.patch.number) [
    | inl h ↦
        (turn y).moved h
        ∙ (ap (λ a. plus a (minus x.pending y.sums)) (sym is_here)
        ∙ (ap (λ a. plus (is q) (minus a y.sums)) (sym was_here)
        ∙ (ap (λ s. plus (is q) (minus (was q) s)) (S.summed y cy)
        ∙ sym (sums_moved was is y.patch.dependencies q (distinct y cy).0 (Contains-from_In y.patch.dependencies q (named y cy h)) is_elsewhere))))
    | inr out ↦
        ((turn y).same out).0
        ∙ (S.summed y cy ∙ sym (sums_same was is y.patch.dependencies (λ n cn. is_elsewhere n (unnamed y cy out n cn))))
  ]

  now_was : (y : Node) → Contains nodes y → now y ≡ of_kind y.patch.kind y.patch.place (joined was y.patch.dependencies)
  now_was y cy = ap (of_kind y.patch.kind y.patch.place) (ap joined_sums (S.summed y cy) ∙ joined_exact was y.patch.dependencies)

  now_is : (y : Node) → Contains nodes y → now (after y) ≡ of_kind y.patch.kind y.patch.place (joined is y.patch.dependencies)
  now_is y cy = (turn y).pends ∙ ap (of_kind y.patch.kind y.patch.place) (ap joined_sums (sums_are y cy) ∙ joined_exact is y.patch.dependencies)

  pub now_goes : (y : Node) → Contains nodes y → goes (now y) (now (after y))
  now_goes y cy =
      let row = y.patch.dependencies in
      let s = kind_goes way y.patch.kind y.patch.place (joined was row) (joined is row) (row_goes way was is row (λ n cn. each_goes n)) in
      subst (λ a. goes a (now (after y))) (sym (now_was y cy)) (subst (goes (of_kind y.patch.kind y.patch.place (joined was row))) (sym (now_is y cy)) s)

  -- where it hears nothing
  now_same : (y : Node) → (In x.dependants y.patch.number → ⊥) → now (after y) ≡ now y
  now_same y out = (turn y).pends ∙ ap (λ s. of_kind y.patch.kind y.patch.place (joined_sums s)) ((turn y).same out).0

  moves_at : (y : Node) → Contains nodes y → goes (after y).pending (now (after y))
  moves_at y cy = elim (cases_eq y.patch.number q) [
    | inl n ↦ subst (λ a. goes a (now (after y))) (sym ((turn y).as_it_is n)) (now_goes y cy)
    | inr ne ↦ subst (λ a. goes a (now (after y))) (sym ((turn y).as_it_was ne)) (way.trans y.pending (now y) (now (after y)) (S.moves y cy) (now_goes y cy))
  ]

  placed_at : (y : Node) → Contains nodes y → (now (after y) ≡ pending.Nothing) ↔ ((after y).patch.place ≡ place.Disk)
  placed_at y cy = elim (In_decided x.dependants y.patch.number) [
    | inl h ↦ (turn y).placed h (λ d. goes_nothing way (now y) (now (after y)) (now_goes y cy) ((S.placed y cy).1 d))
    | inr out ↦
        let same = now_same y out in
        let there = ((turn y).same out).1 in
        (λ p. there ∙ (S.placed y cy).0 (sym same ∙ p), λ d. same ∙ (S.placed y cy).1 (sym there ∙ d))
  ]

  follow_at : (y : Node) → Contains nodes y → Follows (after y).patch.kind → ((after y).patch.place ≡ place.Memory) ⊎ ((after y).patch.place ≡ place.Disk)
  follow_at y cy f = elim (turn y).places [
    | inl same ↦ elim (S.follow y cy (subst Follows (turn y).stays.kind f)) [ inl memory ↦ inl (same ∙ memory) | inr disk ↦ inr (same ∙ disk) ]
    | inr disk ↦ inr disk
  ]

  now_inside : (y : Node) (b : ℕ) → Contains nodes y → IsOf b (now y) → b < blocks
  now_inside y b cy p = elim (block_of y.patch.kind y.patch.place (joined was y.patch.dependencies) b (subst (IsOf b) (now_was y cy) p)) [
    | inl k ↦ S.changes y b k.0 k.1 k.2 cy k.3
    | inr j ↦
        let some = joined_some was y.patch.dependencies b j in
        let r = pending_node nodes some.0 b some.2 in
        S.inside r.0 b r.1 r.2
  ]

  inside_at : (y : Node) (b : ℕ) → Contains nodes y → IsOf b (after y).pending → b < blocks
  inside_at y b cy p = elim (cases_eq y.patch.number q) [
    | inl n ↦ now_inside y b cy (subst (IsOf b) ((turn y).as_it_is n) p)
    | inr ne ↦ S.inside y b cy (subst (IsOf b) ((turn y).as_it_was ne) p)
  ]

  abbrev enqueuing : List ℕ
  enqueuing = enqueued x.dependants x.pending (now x) settled

  queued_at : (m : ℕ) → Contains (queue ++ enqueuing) m → (z : Node) × Contains told z × (z.patch.number ≡ m) × (is_recorded z ≡ false)
  queued_at m cm = elim (Contains-append_cases queue enqueuing m cm) [
    | inl old ↦
        let s = S.queued m (Contains-append_left queue (q ∷ []) m old) in
        let ne = once_last queue q m S.once old in
        let kept = (turn s.0).as_it_was (λ n. ne (sym s.2 ∙ n)) in (
          after s.0,
          goes_on s.0 s.1,
          keeps_number s.0 ∙ s.2,
          not_recorded (after s.0) (λ t. never_back way s.0.pending (now s.0) (now (after s.0)) (S.moves s.0 s.1) (stale s.0 s.3) (now_goes s.0 s.1) (t ∙ kept)),
        )
    | inr new ↦
        let w = enqueued_from nodes x.dependants x.pending (now x) q m new in
        (after w.0, goes_on w.0 w.1, keeps_number w.0 ∙ w.2, w.4)
  ]

  in_front : (y : Node) → Contains nodes y → y.patch.number ≢ q → is_recorded y ≡ false → Contains (queue ++ enqueuing) y.patch.number
  in_front y cy ne u = elim (Contains-push_cases queue q y.patch.number (S.waits y cy u)) [
    | inl old ↦ Contains-append_left queue enqueuing y.patch.number old
    | inr here ↦ absurd (ne (sym here))
  ]

  enqueues_at : (y : Node) → Contains nodes y → In x.dependants y.patch.number → is_recorded (at_number q recorded y) ≡ true → is_recorded (after y) ≡ false → Contains (queue ++ enqueuing) y.patch.number
  enqueues_at y cy h t u = Contains-append_right queue enqueuing y.patch.number (enqueued_to nodes x.dependants x.pending (now x) q y cy h t u)

  waits_at : (y : Node) → Contains nodes y → is_recorded (after y) ≡ false → Contains (queue ++ enqueuing) y.patch.number
  waits_at y cy u = elim (In_decided x.dependants y.patch.number) [
    | inl h ↦ elim (cases_eq y.patch.number q) [
      | inl n ↦ enqueues_at y cy h (subst (λ z. is_recorded z ≡ true) (sym (at_same q recorded y n)) (recorded_now (recorded y) refl)) u
      | inr ne ↦ elim (cases_Bool (is_recorded y)) [
        | inl t ↦ enqueues_at y cy h (subst (λ z. is_recorded z ≡ true) (sym (at_other q recorded y ne)) t) u
        | inr f ↦ in_front y cy ne f
      ]
    ]
    | inr out ↦ elim (cases_eq y.patch.number q) [
      | inl n ↦ absurd (stale (after y) u (now_same y out ∙ sym ((turn y).as_it_is n)))
      | inr ne ↦ in_front y cy ne (not_recorded y (λ t. stale (after y) u (now_same y out ∙ (t ∙ sym ((turn y).as_it_was ne)))))
    ]
  ]

  once_at : AllPairs (λ m n. m ≢ n) (queue ++ enqueuing)
  once_at = once_append queue enqueuing (once_front queue q S.once) (AllPairs-filter (λ m n. m ≢ n) _ x.dependants (distinct x c).1) (λ n old new.
      let s = S.queued n (Contains-append_left queue (q ∷ []) n old) in
      let ne = once_last queue q n S.once old in
      let w = enqueued_from nodes x.dependants x.pending (now x) q n new in
      let t = subst (λ z. is_recorded z ≡ true) (at_other q recorded w.0 (λ m. ne (sym w.2 ∙ m))) w.3 in
      both_ways (is_recorded s.0) s.3 (subst (λ z. is_recorded z ≡ true) (same_node nodes w.0 s.0 S.rising w.1 s.1 (w.2 ∙ sym s.2)) t))

  pub can_update : (y : Node) → Contains settled y → Contains x.dependants y.patch.number → CanUpdate x.pending y
  can_update y cy hit =
      let u = unmapped (at_number q recorded) nodes y cy in
      let same : y.sums ≡ u.0.sums = ap (λ (z : Node). z.sums) (sym u.2) ∙ set_sums q u.0 in
      let number : y.patch.number ≡ u.0.patch.number = ap (λ (z : Node). z.patch.number) (sym u.2) ∙ set_number q u.0 in
      let row = u.0.patch.dependencies in
      let on = Contains-from_In row q (named u.0 u.1 (subst (In x.dependants) number (In-from_Contains x.dependants y.patch.number hit))) in
      let has = sums_has was row q (narrow_in nodes blocks (queue ++ q ∷ []) narrow S) on in (
        subst Fits (sym same) (spreading_fits nodes blocks (queue ++ q ∷ []) narrow S u.0 u.1),
        subst (HasIn x.pending) (sym (same ∙ S.summed u.0 u.1)) (subst (λ a. HasIn a (sums_of was row)) was_here has),
      )

  pub spreads_on : Spreading goes told blocks (queue ++ enqueued x.dependants x.pending (now x) settled)
  spreads_on = record {
    rising = rising_on;
    summed = λ z cz. let r = came_from z cz in subst (λ (w : Node). w.sums ≡ sums_of is w.patch.dependencies) r.2 (sums_are r.0 r.1 ∙ ap (sums_of is) (sym (turn r.0).stays.dependencies));
    moves = λ z cz. let r = came_from z cz in subst (λ w. goes w.pending (now w)) r.2 (moves_at r.0 r.1);
    placed = λ z cz. let r = came_from z cz in subst (λ w. (now w ≡ pending.Nothing) ↔ (w.patch.place ≡ place.Disk)) r.2 (placed_at r.0 r.1);
    follow = λ z cz. let r = came_from z cz in subst (λ w. Follows w.patch.kind → (w.patch.place ≡ place.Memory) ⊎ (w.patch.place ≡ place.Disk)) r.2 (follow_at r.0 r.1);
    inside = λ z b cz p. let r = came_from z cz in inside_at r.0 b r.1 (subst (λ (w : Node). IsOf b w.pending) (sym r.2) p);
    changes = λ z b at len grade cz k. let r = came_from z cz in S.changes r.0 b at len grade r.1 (sym (turn r.0).stays.kind ∙ (ap (λ (w : Node). w.patch.kind) r.2 ∙ k));
    queued = queued_at;
    waits = λ z cz u.
        let r = came_from z cz in
        subst (Contains (queue ++ enqueuing)) (sym (keeps_number r.0) ∙ ap (λ (w : Node). w.patch.number) r.2) (waits_at r.0 r.1 (subst (λ w. is_recorded w ≡ false) (sym r.2) u));
    once = once_at;
  }

  pub spread_of : IsSpreadOf nodes told
  spread_of = ap (map unspread) in_one ∙ same_spread after nodes (λ y. (turn y).stays.spread)

  -- where nothing comes to disk, places stay
  pub risen : ((p : Pending) → goes p pending.Nothing → p ≡ pending.Nothing) → IsRisenOf nodes told
  risen back = ap (map unrisen) in_one ∙ (map_twice unrisen after nodes ∙ map_alike (λ y. unrisen (after y)) unrisen nodes (λ y i. stays_at y (Contains-from_In nodes y i)))
    where
      stays_at : (y : Node) → Contains nodes y → unrisen (after y) ≡ unrisen y
      stays_at y cy = unrisen_stays y (after y) (turn y).stays (elim (turn y).places [
        | inl same ↦ same
        | inr disk ↦ disk ∙ sym ((S.placed y cy).0 (back (now y) (subst (goes (now y)) ((placed_at y cy).1 disk) (now_goes y cy))))
      ])

  pub nearer : distance far told < distance far nodes
  nearer =
      let less = λ (y : Node) (cy : Contains nodes y) (n : y.patch.number ≡ q). subst (λ a. far a < far y.pending) (sym ((turn y).as_it_is n))
      (subst (λ (z : Node). far (now z) < far z.pending) (same_node nodes x y S.rising c cy (e ∙ sym n)) (way.nearer x.pending (now x) (S.moves x c) other)) in
      let low = λ (y : Node) (cy : Contains nodes y). low_at y (less y cy) in
      subst (λ ns. distance far ns < distance far nodes) (sym in_one) (distance_lower far after nodes x low c (less x c e))
    where
      low_at : (y : Node) → (y.patch.number ≡ q → far (after y).pending < far y.pending) → far (after y).pending ≤ far y.pending
      low_at y less = elim (cases_eq y.patch.number q) [
        | inl n ↦ omega (arith, less n)
        | inr ne ↦ subst (λ a. far a ≤ far y.pending) (sym ((turn y).as_it_was ne)) (omega arith)
      ]
