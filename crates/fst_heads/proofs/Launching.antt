-- How a launch begins to spread, and what it leaves.
use Rattle.fst_heads.proofs.Basics.{◌≡◌, ◌⊎◌, ◌<◌, ◌==◌, ℕ, Bool, true, false, List, [], ◌∷◌, Some, map, filter, AllPairs, if◌then◌else◌, refl, sym, ap, subst, ◌∙◌, inl, inr, arith, cases_Bool, cases_eq, and_parts, and_from, both_ways, false_from_ne_true, eq-eqb, ne_eqb}
use Rattle.fst_heads.proofs.Patches.{SparseAreLawful, Kind, Change, block_of_kind, is_change_at, launched, filter_in, in_filter, In, In-map, In-unmap, In-from_Contains, Contains-from_In, no_follower_on}
use Rattle.fst_heads.proofs.Words.{Head, patches_of, nodes_of, Pending, IsInside, Node, patches_in, pending_in, AreSettled, IsOf, join, joined_sums, of_kind, Rises, Spreading, IsRisenOf, unrisen, now, is_recorded, launches, is_ready_on, is_held_on, ready_on, held_on, is_pending}
use Rattle.fst_heads.proofs.{AtNumber.patches_in_nodes, Going.{rises_way}, Joining.{meet_same, meet_other}, Pended.now_at_rest, Placed.{patches_launched, launches_number, launched_links}, Indices.rising_back}
use Rattle.fst_heads.proofs.{Stands.{goes, stays, none_ready, held_as, launched_other}, Starting.{Begins, Sound, begun, sound_at_rest, settled_spread, numbers_once, stays_recorded}, Turning.{same_pending, not_recorded, stale}, Waiting.{map_twice, pending_of, pending_node, pending_mapped}}
use Rattle.fst_types.proofs.Landing.{change_at}
use Rattle.fst_heads.proofs.Patches.place
use Rattle.fst_heads.proofs.Words.pending
use Rattle.std.specs.Prelude.{Contains}

-- the numbers of those that pass, of new nodes for which old ones stand
paired : (f : Node → Node) (s t : Node → Bool) (xs ys : List Node) → map unrisen ys ≡ map unrisen (map f xs) → ((x : Node) → (f x).patch.number ≡ x.patch.number)
    → ((x y : Node) → In xs x → In ys y → unrisen y ≡ unrisen (f x) → t y ≡ s x) → map (λ y. y.patch.number) (filter t ys) ≡ map (λ x. x.patch.number) (filter s xs)
paired f s t [] [] e number same = refl
paired f s t [] (y ∷ ys) e number same = absurd (cc)
paired f s t (x ∷ xs) [] e number same = absurd (cc)
paired f s t (x ∷ xs) (y ∷ ys) e number same =
    let first : unrisen y ≡ unrisen (f x) = cc in
    let others : map unrisen ys ≡ map unrisen (map f xs) = cc in
    let test = same x y (inl refl) (inl refl) first in
    let named : y.patch.number ≡ x.patch.number = ap (λ (z : Node). z.patch.number) first ∙ number x in
    let rest = paired f s t xs ys others number (λ v w i j u. same v w (inr i) (inr j) u) in
    grind (arith, cases_Bool)

none_pass : (xs : List Node) → map (λ (x : Node). x.patch.number) (filter (λ x. false) xs) ≡ []
none_pass [] = refl
none_pass (x ∷ xs) = none_pass xs

-- what of a node counts for a block is its patch, and what is pending of it where it is a change of the block in memory
tested : (c : ℕ) (y z : Node) → y.patch ≡ z.patch → (y.pending ≡ z.pending) ⊎ (is_change_at place.Memory c z.patch ≡ false) → (is_ready_on c y ≡ is_ready_on c z) × (is_held_on c y ≡ is_held_on c z)
tested c y z p (inl e) = rw (p, e) (refl, refl)
tested c y z p (inr off) = rw (p, off) (refl, refl)

-- other is pending by a launch only where a flight is pending then
pub rises_stale : (b : ℕ) (x : Node) → Rises b x.pending (now x) → is_recorded x ≡ false → (x.pending ≡ pending.Block b) × (now x ≡ pending.Behind b)
rises_stale b x (inl e) u = absurd (stale x u e)
rises_stale b x (inr s) u = s

-- over nothing but changes of b in memory a flight of b is all that is pending
below_flies : (b : ℕ) (below : Pending) → join (pending.Block b) below ≡ pending.Block b → join (pending.Behind b) below ≡ pending.Behind b
below_flies b below e = grind (arith, cases_eq, meet_same, meet_other)

own_block : (b c : ℕ) (below : Pending) → join (pending.Block c) below ≡ pending.Block b → c ≡ b
own_block b c below e = grind (arith, cases_eq, meet_same, meet_other)

-- a change that waits for changes of its block alone waits for its flight where it flies
ready_flies : (k : Kind) (b : ℕ) (below : Pending) → block_of_kind k ≡ Some b → of_kind k place.Memory below ≡ pending.Block b → of_kind k place.Flight below ≡ pending.Behind b
ready_flies (Change c at len grade) b below on e =
    let same = own_block b c below e in
    subst (λ a. join (pending.Behind a) below ≡ pending.Behind b) (sym same) (below_flies b below (subst (λ a. join (pending.Block a) below ≡ pending.Block b) same e))
ready_flies k b below on e = cc

-- where changes of b are pending of a change in memory it is one of b
own_kind : (k : Kind) (b c : ℕ) (below : Pending) → block_of_kind k ≡ Some c → of_kind k place.Memory below ≡ pending.Block b → c ≡ b
own_kind (Change d at len grade) b c below on e = let own : d ≡ c = cc in sym own ∙ own_block b d below e
own_kind k b c below on e = cc

module _ (nodes : List Node) (numbers blocks b : ℕ) (H : SparseAreLawful (patches_in nodes) numbers) (inside : IsInside (patches_in nodes) blocks) (S : AreSettled nodes blocks) where
  rising : AllPairs (λ x y. x.patch.number < y.patch.number) nodes
  rising = rising_back (λ (x : Node). x.patch) nodes (λ x. x.patch.number) (λ p. p.number) (λ x. refl) H.one_place_each.rising

  -- what is known of a ready change
  record IsReady (x : Node) : Type 0 where
    on : block_of_kind x.patch.kind ≡ Some b
    memory : x.patch.place ≡ place.Memory
    waits : x.pending ≡ pending.Block b
    flies : now (record x { patch = record x.patch { place = place.Flight } }) ≡ pending.Behind b

  is_ready : (x : Node) → Contains nodes x → is_ready_on b x ≡ true → IsReady x
  is_ready x c e =
      let parts = and_parts (is_change_at place.Memory b x.patch) (is_pending x.pending (pending.Block b)) e in
      let change = change_at place.Memory b x.patch parts.0 in
      let waits = same_pending x.pending (pending.Block b) parts.1 in
      let below = subst (λ at. of_kind x.patch.kind at (joined_sums x.sums) ≡ pending.Block b) change.1 (now_at_rest nodes blocks S x c ∙ waits) in
      record { on = change.0; memory = change.1; waits = waits; flies = ready_flies x.patch.kind b (joined_sums x.sums) change.0 below }

  abbrev chosen : List ℕ
  chosen = ready_on b nodes

  launches_sound : (x : Node) → Contains nodes x → Sound (Rises b) (launches chosen x) blocks
  launches_sound x c = elim (cases_Bool (is_ready_on b x)) [
    | inl e ↦
        let r = is_ready x c e in
        subst (λ y. Sound (Rises b) y blocks) (sym (goes nodes rising b x (In-from_Contains nodes x c) e)) (record {
          moves = inr (r.waits, r.flies);
          placed = (λ none. let off = sym r.flies ∙ none in cc, λ disk. cc);
          follow = λ f. absurd (no_follower_on x.patch.kind b r.on f);
          changes = (sound_at_rest (rises_way b) nodes numbers blocks H inside S x c).changes;
        })
    | inr e ↦ subst (λ y. Sound (Rises b) y blocks) (sym (stays nodes rising b x (In-from_Contains nodes x c) e)) (sound_at_rest (rises_way b) nodes numbers blocks H inside S x c)
  ]

  launches_stale : (x : Node) → Contains nodes x → is_ready_on b x ≡ true → is_recorded (launches chosen x) ≡ false
  launches_stale x c e =
      let r = is_ready x c e in
      subst (λ y. is_recorded y ≡ false) (sym (goes nodes rising b x (In-from_Contains nodes x c) e))
      (not_recorded (record x { patch = record x.patch { place = place.Flight } }) (λ same. let off = sym r.flies ∙ (same ∙ r.waits) in cc))

  launch_begins : Begins (Rises b) nodes blocks (launches chosen) chosen
  launch_begins = record {
    links = launched_links chosen;
    sums = λ x. refl;
    pending = λ x. refl;
    sound = launches_sound;
    queued = λ n c.
        let r = In-unmap (λ (x : Node). x.patch.number) (filter (is_ready_on b) nodes) n (In-from_Contains chosen n c) in
        let k = filter_in (is_ready_on b) nodes r.0 r.1 in
        let there = Contains-from_In nodes r.0 k.0 in
        (r.0, there, r.2, launches_stale r.0 there k.1);
    waits = λ x c u. elim (cases_Bool (is_ready_on b x)) [
      | inl e ↦ Contains-from_In chosen x.patch.number (In-map (λ (y : Node). y.patch.number) (filter (is_ready_on b) nodes) x x.patch.number (in_filter (is_ready_on b) nodes x (In-from_Contains nodes x c) e) refl)
      | inr e ↦ absurd (both_ways (is_recorded x) (subst (λ y. is_recorded y ≡ false) (stays nodes rising b x (In-from_Contains nodes x c) e) u) (stays_recorded nodes blocks S x c))
    ];
    once = numbers_once (λ (x : Node). x.patch.number) (is_ready_on b) nodes rising;
  }

  -- where the ready changes are launched
  starts_launched : Spreading (Rises b) (map (launches chosen) nodes) blocks chosen
  starts_launched = begun nodes blocks (launches chosen) chosen launch_begins H.one_place_each.rising S

  -- what stands when all is told
  module _ (new : List Node) (after : ℕ) (T : Spreading (Rises b) new after []) (risen : IsRisenOf (map (launches chosen) nodes) new)
      (rises : (n : ℕ) → Rises b (pending_in (map (launches chosen) nodes) n) (pending_in new n)) where
    still_pending : (n : ℕ) → pending_in (map (launches chosen) nodes) n ≡ pending_in nodes n
    still_pending n = pending_mapped (launches chosen) nodes n (launches_number chosen) (λ y e. refl)

    of_same : (c : ℕ) (p q : Pending) → Rises b p q → IsOf c q → IsOf c p
    of_same c p q (inl e) o = subst (IsOf c) e o
    of_same c p q (inr s) o = inl (s.0 ∙ elim o [ inl e ↦ absurd (let off = sym s.1 ∙ e in cc) | inr e ↦ let same = sym s.1 ∙ e in cc ])

    launched_settled : (more : ℕ) → AreSettled nodes more → AreSettled new more
    launched_settled more was =
        let settled = settled_spread new after T in
        record {
          summed = settled.summed;
          settled = settled.settled;
          placed = settled.placed;
          inside = λ x c there o.
              let here = pending_of new x T.rising there in
              let old = of_same c (pending_in nodes x.patch.number) (pending_in new x.patch.number) (subst (λ p. Rises b p (pending_in new x.patch.number)) (still_pending x.patch.number) (rises x.patch.number)) (subst (IsOf c) (sym here) o) in
              let y = pending_node nodes x.patch.number c old in
              was.inside y.0 c y.1 y.2;
        }

    launched_patches : patches_in new ≡ map (launched chosen) (patches_in nodes)
    launched_patches =
        let bare = λ (ns : List Node). map_twice (λ (x : Node). x.patch) unrisen ns in
        sym (bare new) ∙ (ap (map (λ (x : Node). x.patch)) risen ∙ (bare (map (launches chosen) nodes) ∙ patches_launched nodes chosen))

    -- where changes of b in memory are pending of what was not launched it is no change in memory
    off : (x : Node) → Contains nodes x → x.pending ≡ pending.Block b → (c : ℕ) → is_change_at place.Memory c (launches chosen x).patch ≡ false
    off x there waits c = elim (cases_Bool (is_ready_on b x)) [
      | inl e ↦ ap (λ (z : Node). is_change_at place.Memory c z.patch) (goes nodes rising b x (In-from_Contains nodes x there) e)
      | inr e ↦ ap (λ (z : Node). is_change_at place.Memory c z.patch) (stays nodes rising b x (In-from_Contains nodes x there) e) ∙ false_from_ne_true (is_change_at place.Memory c x.patch) (λ here.
          let change = change_at place.Memory c x.patch here in
          let below = subst (λ at. of_kind x.patch.kind at (joined_sums x.sums) ≡ pending.Block b) change.1 (now_at_rest nodes blocks S x there ∙ waits) in
          let own = own_kind x.patch.kind b c (joined_sums x.sums) change.0 below in
          both_ways (is_ready_on b x) e (and_from (is_change_at place.Memory b x.patch) (is_pending x.pending (pending.Block b)) (subst (λ k. is_change_at place.Memory k x.patch ≡ true) own here)
          (subst (λ p. is_pending p (pending.Block b) ≡ true) (sym waits) (eq-eqb b b refl))))
    ]

    counted : (c : ℕ) (x y : Node) → In nodes x → In new y → unrisen y ≡ unrisen (launches chosen x) → (is_ready_on c y ≡ is_ready_on c (launches chosen x)) × (is_held_on c y ≡ is_held_on c (launches chosen x))
    counted c x y i j u =
        let there = Contains-from_In nodes x i in
        let number = ap (λ (z : Node). z.patch.number) u ∙ launches_number chosen x in
        let was : pending_in (map (launches chosen) nodes) y.patch.number ≡ x.pending = ap (pending_in (map (launches chosen) nodes)) number ∙ (still_pending x.patch.number ∙ pending_of nodes x rising there) in
        let is = pending_of new y T.rising (Contains-from_In new y j) in
        let moves = subst (λ p. Rises b p y.pending) was (subst (Rises b (pending_in (map (launches chosen) nodes) y.patch.number)) is (rises y.patch.number)) in
        tested c y (launches chosen x) (ap (λ (z : Node). z.patch) u) (elim moves [ inl same ↦ inl same | inr s ↦ inr (off x there s.0 c) ])

    launched_ready : (c : ℕ) → ready_on c new ≡ (if c == b then [] else ready_on c nodes)
    launched_ready c = elim (cases_eq c b) [
      | inl e ↦ rw (eq-eqb c b e) (paired (launches chosen) (λ x. false) (is_ready_on c) nodes new risen (launches_number chosen)
          (λ x y i j u. (counted c x y i j u).0 ∙ (ap (λ k. is_ready_on k (launches chosen x)) e ∙ none_ready nodes rising b x i)) ∙ none_pass nodes)
      | inr ne ↦ rw (ne_eqb c b ne) (paired (launches chosen) (is_ready_on c) (is_ready_on c) nodes new risen (launches_number chosen)
          (λ x y i j u. (counted c x y i j u).0 ∙ (launched_other nodes rising b c x i ne).ready))
    ]

    launched_held : (c : ℕ) → held_on c new ≡ held_on c nodes
    launched_held c = paired (launches chosen) (is_held_on c) (is_held_on c) nodes new risen (launches_number chosen) (λ x y i j u. (counted c x y i j u).1 ∙ (elim (cases_eq c b) [
      | inl e ↦ subst (λ k. is_held_on k (launches chosen x) ≡ is_held_on k x) (sym e) (held_as nodes rising b x i)
      | inr ne ↦ (launched_other nodes rising b c x i ne).held
    ]))

-- seen as heads
module _ (old : List Head) (numbers blocks b : ℕ) (H : SparseAreLawful (patches_of old) numbers) (inside : IsInside (patches_of old) blocks) (S : AreSettled (nodes_of old) blocks)
    (ns : List ℕ) (chosen_ready : ns ≡ ready_on b (nodes_of old)) (middle : List Head) (is : nodes_of middle ≡ map (launches ns) (nodes_of old)) where
  lawful : SparseAreLawful (patches_in (nodes_of old)) numbers
  lawful = subst (λ ps. SparseAreLawful ps numbers) (sym (patches_in_nodes old)) H

  within : IsInside (patches_in (nodes_of old)) blocks
  within = subst (λ ps. IsInside ps blocks) (sym (patches_in_nodes old)) inside

  ready_fly : nodes_of middle ≡ map (launches (ready_on b (nodes_of old))) (nodes_of old)
  ready_fly = is ∙ ap (λ ms. map (launches ms) (nodes_of old)) chosen_ready

  pub launch_starts : Spreading (Rises b) (nodes_of middle) blocks ns
  launch_starts = rw (ready_fly, chosen_ready) (starts_launched (nodes_of old) numbers blocks b lawful within S)

  pub record Leaves (new : List Head) : Type 0 where
    pub settled : (more : ℕ) → AreSettled (nodes_of old) more → AreSettled (nodes_of new) more
    pub patches : patches_of new ≡ map (launched ns) (patches_of old)
    pub ready : (c : ℕ) → ready_on c (nodes_of new) ≡ (if c == b then [] else ready_on c (nodes_of old))
    pub held : (c : ℕ) → held_on c (nodes_of new) ≡ held_on c (nodes_of old)

  pub launch_leaves : (new : List Head) (after : ℕ) → Spreading (Rises b) (nodes_of new) after [] → IsRisenOf (nodes_of middle) (nodes_of new)
      → ((n : ℕ) → Rises b (pending_in (nodes_of middle) n) (pending_in (nodes_of new) n)) → Leaves new
  launch_leaves new after T risen rises =
      let fly = ready_fly in
      let up = subst (λ ms. IsRisenOf ms (nodes_of new)) fly risen in
      let each = λ (n : ℕ). subst (λ ms. Rises b (pending_in ms n) (pending_in (nodes_of new) n)) fly (rises n) in
      record {
        settled = launched_settled (nodes_of old) numbers blocks b lawful within S (nodes_of new) after T up each;
        patches = sym (patches_in_nodes new) ∙ (launched_patches (nodes_of old) numbers blocks b lawful within S (nodes_of new) after T up each
            ∙ (ap (λ ps. map (launched (ready_on b (nodes_of old))) ps) (patches_in_nodes old) ∙ ap (λ ms. map (launched ms) (patches_of old)) (sym chosen_ready)));
        ready = launched_ready (nodes_of old) numbers blocks b lawful within S (nodes_of new) after T up each;
        held = launched_held (nodes_of old) numbers blocks b lawful within S (nodes_of new) after T up each;
      }
