-- The counts of a block tell whether it is writable, and the marks which is picked.
use Rattle.std.proofs.Common.{◌≡◌, ◌<◌, ◌↔◌, ◌==◌, ◌&&◌, ℕ, Bool, true, false, not, List, Some, None, length, get_or, count_by, refl, sym, ap, subst, ◌∙◌, inl, inr, arith, Option, IfNone, option_map}
use Rattle.std.proofs.lemmas.Bool.{cases_Bool, cases_lt, and_parts, and_from, not_from_false, not-true, false≢true, eqb-true, eqb-false, eq-eqb, ne_eqb}
use Rattle.std.proofs.lemmas.{List.Elements.filter_agree, List.Folds.{Any-from_list_any, list_any-from_Any}, List.Sums.length-filter}
use Rattle.fst_types.specs.{Closure.IsAcyclic, Dependencies.DirectlyOn, Facts.{SparseAreLawful, HardNeverHold}, Looks.IsPick, Patches.{Patch, IsRising, IsHard}}
use Rattle.fst_types.specs.{Tests.{is_change_at, is_live}, Writable.{IsInMemoryOn, InWritableSet, HasReady, IsWritable}, declared.number.BlockNo.BlockNo}
use Rattle.fst_heads.specs.{Keeps.IsInside, Nodes.{Node, patches_in, pending_in, AreSettled, AreCounted, is_live_in}, Pendings.is_pending}
use Rattle.fst_heads.specs.{Standings.{AllStand, AreMarked, may_be_written, standing_of, is_ready_on, is_held_on, is_flying_on, without_changes}, declared.standing.Standing.Standing}
use Rattle.fst_graph.specs.Known.{IsStuckByGates}
use Rattle.fst_types.proofs.{Landing.{change_at, at_change}, Stuck.never_stuck_lem, Writes.same_test}
use Rattle.fst_heads.proofs.{Forgetting.live_place_of, PendingIn.{found, told_of}, Placed.{patch_in, node_of_patch}, Sums.sums_count}
use Rattle.fst_levels.proofs.Ready.{ready_in, held_in, node_ready, ready_or_held}
use Rattle.fst_levels.proofs.Numbered.{none_counted, counted_none, counted_some}
use Rattle.fst_types.specs.declared.place.Place.TheVariants as place
use Rattle.fst_heads.specs.declared.pending.Pending.TheVariants as pending
use Rattle.fst_types.proofs.Numbers.{not_disk}
use Rattle.fst_heads.proofs.Beside.{is_nothing}

-- tests that agree count the same
count_agree : (f g : ℕ → Bool) → ((n : ℕ) → f n ≡ g n) → (ns : List ℕ) → count_by f ns ≡ count_by g ns
count_agree f g same ns = sym (length-filter f ns) ∙ (ap length (filter_agree f g same ns) ∙ length-filter g ns)

three : (s t u : Bool) → (s && t && u) ≡ true → (s ≡ true) × (t ≡ true) × (u ≡ true)
three true true true f = (refl, refl, refl)
three true true false f = absurd (false≢true f)
three true false u f = absurd (false≢true f)
three false t u f = absurd (false≢true f)

three_from : (s t u : Bool) → s ≡ true → t ≡ true → u ≡ true → (s && t && u) ≡ true
three_from s t u e f g = rw (e, f, g) refl

module _ (nodes : List Node) (blocks n : ℕ) (rising : IsRising (patches_in nodes)) (S : AreSettled nodes blocks) where
  -- something is pending of a live patch alone
  told_live : not (is_pending (pending_in nodes n) pending.Nothing) ≡ true → is_live_in (patches_in nodes) n ≡ true
  told_live e = elim (found nodes n) [
    | inr none ↦ absurd (false≢true (sym (ap (λ q. not (is_pending q pending.Nothing)) none) ∙ e))
    | inl f ↦
        let live = live_place_of f.node.patch.place (λ d. false≢true (sym (ap (λ q. not (is_pending q pending.Nothing)) (f.told ∙ (S.placed f.node f.head).1 d)) ∙ e)) in
        let c = patch_in nodes f.node f.head in
        list_any-from_Any (λ p. is_live p && (p.number == n)) (patches_in nodes)
        (c.0, f.node.patch, c.1, c.2, and_from (is_live f.node.patch) (f.node.patch.number == n) live (eq-eqb f.node.patch.number n f.numbered))
  ]

  live_told : is_live_in (patches_in nodes) n ≡ true → not (is_pending (pending_in nodes n) pending.Nothing) ≡ true
  live_told e =
      let a = Any-from_list_any (λ p. is_live p && (p.number == n)) (patches_in nodes) e in
      let k = and_parts (is_live a.1) (a.1.number == n) a.4 in
      let y = node_of_patch nodes a.1 (a.0, a.2, a.3) in
      let same = sym (ap (pending_in nodes) (ap (λ r. r.number) y.2 ∙ eqb-true a.1.number n k.1)) ∙ told_of nodes y.0 rising y.1 in
      elim (cases_Bool (is_pending (pending_in nodes n) pending.Nothing)) [
        | inr f ↦ not_from_false (is_pending (pending_in nodes n) pending.Nothing) f
        | inl t ↦ absurd (not_disk a.1.place k.0 (sym (ap (λ r. r.place) y.2) ∙ (S.placed y.0 y.1).0 (sym same ∙ is_nothing (pending_in nodes n) t)))
      ]

pub counted_settled : (nodes : List Node) (numbers blocks : ℕ) → SparseAreLawful (patches_in nodes) numbers → AreSettled nodes blocks → AreCounted nodes
counted_settled nodes numbers blocks H S x c =
    let rising = H.one_place_each.rising in
    ap (λ s. s.count) (S.summed x c) ∙ (sums_count (pending_in nodes) x.patch.dependencies
    ∙ count_agree (λ n. not (is_pending (pending_in nodes n) pending.Nothing)) (is_live_in (patches_in nodes))
    (λ n. same_test (not (is_pending (pending_in nodes n) pending.Nothing)) (is_live_in (patches_in nodes) n) (told_live nodes blocks n rising S) (live_told nodes blocks n rising S)) x.patch.dependencies)

module _ (nodes : List Node) (numbers blocks : ℕ) (H : SparseAreLawful (patches_in nodes) numbers) (S : AreSettled nodes blocks) (b : ℕ) (told : Standing) where
  -- something is counted as ready where something may be written
  pub ready_counted : (0 < (standing_of nodes b told).ready) ↔ HasReady (patches_in nodes) b
  ready_counted = (
    λ some. let x = counted_some (is_ready_on b) nodes (λ z. omega (arith, z, some)) in (x.0.patch, ready_in nodes numbers blocks H S b x.0 x.1 x.2),
    λ r.
        let y = node_ready nodes numbers blocks H S b r.0 r.1 in
        elim (cases_lt 0 (standing_of nodes b told).ready) [ inl some ↦ some | inr none ↦ absurd (none_counted (is_ready_on b) nodes (omega (arith, none)) y.0 y.1 y.3) ],
  )

  marked_writable : may_be_written (standing_of nodes b told) ≡ true → IsWritable (patches_in nodes) b
  marked_writable e =
      let s = standing_of nodes b told in
      let k = three (s.flying == 0) (s.held == 0) (not (s.ready == 0)) e in
      let free = none_counted (is_flying_on b) nodes (eqb-true s.flying 0 k.0) in
      let none = none_counted (is_held_on b) nodes (eqb-true s.held 0 k.1) in
      let more = eqb-false s.ready 0 (not-true (s.ready == 0) k.2) in
      record {
        none_flies = λ p c on there. let y = node_of_patch nodes p c in free y.0 y.1 (subst (λ q. is_change_at place.Flight b q ≡ true) (sym y.2) (at_change place.Flight b p on there));
        some = ready_counted.0 (omega (arith, more));
        hard = λ p m hard.
            let y = node_of_patch nodes p m.head in
            subst (InWritableSet (patches_in nodes) b) y.2 (elim (ready_or_held nodes numbers blocks H S b y.0 y.1 (subst (IsInMemoryOn (patches_in nodes) b) (sym y.2) m) (subst IsHard (sym y.2) hard)) [
              | inl w ↦ w
              | inr h ↦ absurd (none y.0 y.1 h)
            ]);
      }

  writable_marked : IsWritable (patches_in nodes) b → may_be_written (standing_of nodes b told) ≡ true
  writable_marked w =
      let s = standing_of nodes b told in
      let flying = counted_none (is_flying_on b) nodes (λ x c e. let at = change_at place.Flight b x.patch e in w.none_flies x.patch (patch_in nodes x c) at.0 at.1) in
      let held = counted_none (is_held_on b) nodes (λ x c e. let h = held_in nodes numbers blocks H S b x c e in h.left_out (w.hard x.patch h.in_memory h.hard)) in
      let more = ready_counted.1 w.some in
      three_from (s.flying == 0) (s.held == 0) (not (s.ready == 0)) (eq-eqb s.flying 0 flying) (eq-eqb s.held 0 held)
      (not_from_false (s.ready == 0) (ne_eqb s.ready 0 (λ z. omega (arith, z, more))))

-- the mark of each block is true where it may be written
pub marked_settled : (nodes : List Node) (numbers blocks : ℕ) → SparseAreLawful (patches_in nodes) numbers → AreSettled nodes blocks → (standings : List Standing) → AllStand nodes blocks standings → AreMarked (patches_in nodes) blocks standings
marked_settled nodes numbers blocks H S standings A b d lt =
    subst (λ s. (may_be_written s ≡ true) ↔ IsWritable (patches_in nodes) b) (sym (A.each b d lt)) (marked_writable nodes numbers blocks H S b (get_or standings b d), writable_marked nodes numbers blocks H S b (get_or standings b d))

-- a block that is writable has nothing in flight, and is one of the blocks
pub writable_rests : (nodes : List Node) (blocks b : ℕ) (standings : List Standing) (d : Standing) → IsInside (patches_in nodes) blocks → AllStand nodes blocks standings → IsWritable (patches_in nodes) b
    → (b < blocks) × ((get_or standings b d).flying ≡ 0)
writable_rests nodes blocks b standings d inside A w =
    let m = w.some.1.in_memory in
    let lt = inside w.some.0 b m.head m.change in
    let flying = counted_none (is_flying_on b) nodes (λ x c e. let at = change_at place.Flight b x.patch e in w.none_flies x.patch (patch_in nodes x c) at.0 at.1) in
    (lt, ap (λ s. s.flying) (A.each b d lt) ∙ flying)

pub picked_none : (patches : List Patch) (blocks : ℕ) (standings : List Standing) → IsInside patches blocks → AreMarked patches blocks standings
    → ((b : ℕ) (d : Standing) → b < blocks → may_be_written (get_or standings b d) ≡ false) → IsPick patches None
picked_none patches blocks standings inside M none b w =
    let m = w.some.1.in_memory in
    let lt = inside w.some.0 b m.head m.change in
    false≢true (sym (none b without_changes lt) ∙ (M b without_changes lt).1 w)

pub picked_some : (patches : List Patch) (blocks b : ℕ) (standings : List Standing) → AreMarked patches blocks standings → b < blocks
    → ((d : Standing) → may_be_written (get_or standings b d) ≡ true) → ((c : ℕ) (d : Standing) → c < b → may_be_written (get_or standings c d) ≡ false) → IsPick patches (Some b)
picked_some patches blocks b standings M lt mark below =
    record {
      writable = (M b without_changes lt).0 (mark without_changes);
      least = λ c w. elim (cases_lt c b) [
        | inl less ↦ absurd (false≢true (sym (below c without_changes less) ∙ (M c without_changes (omega (arith, less, lt))).1 w))
        | inr le ↦ le
      ];
    }

-- where there is no pick and nothing is in flight, each change in memory is blocked
pub stuck_by_gates : (heads : List Patch) (r : Option BlockNo) → IsAcyclic (DirectlyOn heads) → HardNeverHold heads → IsPick heads (option_map (λ b. b.0) r) → IfNone r (IsStuckByGates heads)
stuck_by_gates heads None acyclic sound none = λ landed p b m. never_stuck_lem heads acyclic sound none landed p b m
stuck_by_gates heads (Some b) acyclic sound pick = tt
