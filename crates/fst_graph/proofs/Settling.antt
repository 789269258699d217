-- What is pending of each patch after a call that tells none of its dependants of anything.
use Rattle.std.proofs.Common.{◌≡◌, ◌≢◌, ◌↔◌, ◌⊎◌, ◌==◌, ℕ, ◌+◌, ◌<◌, ◌≤◌, false, not, List, [], ◌∷◌, ◌++◌, map, filter, AllPairs, Contains, refl, sym, ap, subst, ◌∙◌, inl, inr, arith}
use Rattle.std.proofs.lemmas.{Bool.{cond_both, cases_Bool, cases_eq, eq-eqb, ne_eqb}, List.Elements.{Contains-append_left, Contains-push}}
use Rattle.std.specs.List.Sorted.{IsStrictlyIncreasing}
use Rattle.fst_types.specs.{Cascade.Follows, Dependencies.IsLiveNumber, Facts.SparseAreLawful, Gates.IsOpenNumber}
use Rattle.fst_types.specs.{Patches.{Kind, Change, Empty, OpenGate, SealedGate, Patch, IsOn, block_of_kind}, Tests.{is_at, is_live, is_among, is_change_at}, declared.place.Place.Place}
use Rattle.fst_heads.specs.{Nodes.{Node, patches_in, pending_in, at_number, linked_to, gains_names, AreSettled}, Pendings.{IsOf, Sinks, join, joined, of_change, of_kind, sums_of, together}}
use Rattle.fst_heads.specs.{Standings.{is_ready_on, ready_on}, declared.pending.Pending.Pending, declared.pending.Sums.Sums}
use Rattle.fst_types.proofs.{Crash.same_number, Dropping.filter_in, Finite.{In, In-from_Contains, Contains-from_In}, GateGains.In-unmap, Landing.change_at}
use Rattle.fst_heads.proofs.{Added.{with_node, new_node, with_names}, AtNumber.{at_same, at_other}, Forgetting.and_parts, Joining.{behind_sinks, join_right, join_self, join_sinks, sinks_behind, sinks_to_nothing, sinks_trans}, Linking.linked_patch}
use Rattle.fst_heads.proofs.{PendingIn.{later_number, rising_tail, told_of}, Waiting.pending_mapped}
use Rattle.fst_heads.proofs.{Placed.{patch_in, node_of_patch}, Sums.{joined_all_nothing, joined_nothing, joined_same, joined_some, sums_append, sums_same}}
use Rattle.fst_levels.proofs.Linked.{made_was, both, both_nodes, both_number, named_was}
use Rattle.fst_types.specs.declared.place.Place.TheVariants as place
use Rattle.fst_heads.specs.declared.pending.Pending.TheVariants as pending

-- what is pending of a number

pub pending_push : (nodes : List Node) (y : Node) (n : ℕ) → y.patch.number ≢ n → pending_in (nodes ++ y ∷ []) n ≡ pending_in nodes n
pending_push [] y n ne = rw (ne_eqb y.patch.number n ne) refl
pending_push (x ∷ xs) y n ne = rw (pending_push xs y n ne) refl

pending_none : (nodes : List Node) (n : ℕ) → ((x : Node) → In nodes x → x.patch.number ≢ n) → pending_in nodes n ≡ pending.Nothing
pending_none [] n none = refl
pending_none (x ∷ xs) n none = rw (ne_eqb x.patch.number n (none x (inl refl))) (pending_none xs n (λ y h. none y (inr h)))

-- what was forgotten had nothing pending
pub pending_dropped : (nodes : List Node) → AllPairs (λ p q. p.number < q.number) (patches_in nodes) → ((x : Node) → In nodes x → is_live x.patch ≡ false → x.pending ≡ pending.Nothing)
    → (n : ℕ) → pending_in (filter (λ x. is_live x.patch) nodes) n ≡ pending_in nodes n
pending_dropped [] rising none n = refl
pending_dropped (x ∷ xs) rising none n =
    let r = pending_dropped xs (rising_tail x xs rising) (λ y h. none y (inr h)) n in
    elim (cases_Bool (is_live x.patch)) [
      | inl e ↦ rw (e, r) refl
      | inr e ↦
          elim (cases_eq x.patch.number n) [
            | inl same ↦
                rw (e, r, eq-eqb x.patch.number n same)
                (pending_none xs n (λ y h same_y. let lt = later_number x xs rising y h in omega (arith, lt, same, same_y)) ∙ sym (none x (inl refl) e))
            | inr other ↦ rw (e, r, ne_eqb x.patch.number n other) refl
          ]
    ]

-- one patch is settled, where the others have that pending
pub record SettledAt (told : ℕ → Pending) (blocks : ℕ) (x : Node) : Type 0 where
  pub summed : x.sums ≡ sums_of told x.patch.dependencies
  pub settled : x.pending ≡ of_kind x.patch.kind x.patch.place (joined told x.patch.dependencies)
  pub placed : (x.pending ≡ pending.Nothing) ↔ (x.patch.place ≡ place.Disk)
  pub inside : (b : ℕ) → IsOf b x.pending → b < blocks

pub settled_in : (nodes : List Node) (blocks : ℕ) → AreSettled nodes blocks → (x : Node) → Contains nodes x → SettledAt (pending_in nodes) blocks x
settled_in nodes blocks S x c = record { summed = S.summed x c; settled = S.settled x c; placed = S.placed x c; inside = λ b. S.inside x b c }

pub settled_all : (nodes : List Node) (blocks : ℕ) → ((x : Node) → Contains nodes x → SettledAt (pending_in nodes) blocks x) → AreSettled nodes blocks
settled_all nodes blocks each = record {
  summed = λ x c. (each x c).summed;
  settled = λ x c. (each x c).settled;
  placed = λ x c. (each x c).placed;
  inside = λ x b c. (each x c).inside b;
}

-- where its direct dependencies have the same pending
pub settled_recorded : (told other : ℕ → Pending) (blocks : ℕ) (x : Node) → ((n : ℕ) → Contains x.patch.dependencies n → other n ≡ told n) → SettledAt told blocks x → SettledAt other blocks x
settled_recorded told other blocks x same s = record {
  summed = s.summed ∙ sym (sums_same told other x.patch.dependencies same);
  settled = s.settled ∙ ap (λ j. of_kind x.patch.kind x.patch.place j) (sym (joined_same told other x.patch.dependencies same));
  placed = s.placed;
  inside = s.inside;
}

-- dependants do not matter
pub settled_linked : (told : ℕ → Pending) (blocks : ℕ) (row : List ℕ) (n : ℕ) (x : Node) → SettledAt told blocks x → SettledAt told blocks (linked_to row n x)
settled_linked told blocks row n x s =
    cond_both (is_among row x.patch.number) _ _ (SettledAt told blocks) (λ t. record { summed = s.summed; settled = s.settled; placed = s.placed; inside = s.inside }) (λ f. s)

linked_pending : (row : List ℕ) (n : ℕ) (x : Node) → (linked_to row n x).pending ≡ x.pending
linked_pending row n x = cond_both (is_among row x.patch.number) _ _ (λ (y : Node). y.pending ≡ x.pending) (λ t. refl) (λ f. refl)

pub pending_linked : (nodes : List Node) (row : List ℕ) (n m : ℕ) → pending_in (map (linked_to row n) nodes) m ≡ pending_in nodes m
pending_linked nodes row n m =
    pending_mapped (linked_to row n) nodes m (λ x. ap (λ p. p.number) (linked_patch row n x)) (λ x _. linked_pending row n x)

-- a new patch

-- what is pending of a change is left of it over whatever is below
over_first : (p below : Pending) → Sinks (join p below) p
over_first p below = subst (Sinks (join p below)) (join_right p) (join_sinks p below p pending.Nothing (join_self p) (sinks_to_nothing below))

over_some : (p below : Pending) → join p below ≡ pending.Nothing → p ≡ pending.Nothing
over_some p below e = subst (λ q. Sinks q p) e (over_first p below)

over_same : (c b : ℕ) (p below : Pending) → IsOf c p → IsOf b (join p below) → c ≡ b
over_same c b p below own w = same c b p own (sinks_behind b p (sinks_trans (pending.Behind b) (join p below) p (behind_sinks b (join p below) w) (over_first p below)))
  where
    same : (c b : ℕ) (p : Pending) → IsOf c p → (p ≡ pending.Nothing) ⊎ IsOf b p → c ≡ b
    same c b p own left = grind arith

module _ (nodes : List Node) (numbers blocks : ℕ) (p : Patch) (H : SparseAreLawful (patches_in nodes) numbers) (H' : SparseAreLawful (patches_in nodes ++ p ∷ []) (numbers + 1))
    (S : AreSettled nodes blocks) (next : p.number ≡ numbers + 1) (rising : IsStrictlyIncreasing p.dependencies)
    (live : (n : ℕ) → Contains p.dependencies n → IsLiveNumber (patches_in nodes) n) (on : (b : ℕ) → IsOn p b → b < blocks) where
  -- the new patch is a dependency of none
  same_told : (n : ℕ) → n ≤ numbers → pending_in (with_node nodes p) n ≡ pending_in nodes n
  same_told n le = pending_push (map (linked_to p.dependencies p.number) nodes) (new_node nodes p) n (λ e. omega (arith, le, e, next)) ∙ pending_linked nodes p.dependencies p.number n

  -- what is pending of a direct dependency is that of a live patch
  live_node : (n : ℕ) → Contains p.dependencies n → (x : Node) × Contains nodes x × (x.patch.place ≢ place.Disk) × (pending_in nodes n ≡ x.pending)
  live_node n c =
      let l = live n c in
      let x = node_of_patch nodes l.patch l.head in
      (x.0, x.1, λ d. l.live (sym (ap (λ q. q.place) x.2) ∙ d), ap (pending_in nodes) (sym (ap (λ q. q.number) x.2 ∙ l.numbered)) ∙ told_of nodes x.0 H.one_place_each.rising x.1)

  named_small : (n : ℕ) → Contains p.dependencies n → n ≤ numbers
  named_small n c = let l = live n c in let k = (H.one_place_each.numbered l.patch l.head).1 in let e = l.numbered in omega (arith, k, e)

  abbrev below : Pending
  below = joined (pending_in nodes) p.dependencies

  -- nothing is pending of the row only where it is empty
  none_named : below ≡ pending.Nothing → (n : ℕ) → Contains p.dependencies n → ⊥
  none_named e n c =
      let x = live_node n c in
      x.2 ((S.placed x.0 x.1).0 (sym x.3 ∙ joined_nothing (pending_in nodes) p.dependencies e n c))

  below_inside : (b : ℕ) → IsOf b below → b < blocks
  below_inside b e =
      let n = joined_some (pending_in nodes) p.dependencies b e in
      let x = live_node n.0 n.1 in
      S.inside x.0 b x.1 (subst (IsOf b) x.3 n.2)

  new_head : Contains (patches_in nodes ++ p ∷ []) p
  new_head = Contains-push (patches_in nodes) p

  -- an empty patch or a sealed gate rests exactly where nothing is pending of its row
  follower_placed : Follows p.kind → (below ≡ pending.Nothing) ↔ (p.place ≡ place.Disk)
  follower_placed f = (
    λ e. H'.on_disk_with_all.follows p new_head f (λ q c. absurd (none_named e q c)),
    λ d. joined_all_nothing (pending_in nodes) p.dependencies (λ n c.
        let l = live n c in
        absurd (l.live (H'.on_disk_with_all.disk p new_head d n c l.patch (Contains-append_left (patches_in nodes) (p ∷ []) l.patch l.head) l.numbered))),
  )

  change_placed : (b : ℕ) (q : Place) → (of_change b q below ≡ pending.Nothing) ↔ (q ≡ place.Disk)
  change_placed b place.Memory = (λ e. let none = over_some (pending.Block b) below e in absurd (cc), λ d. absurd (cc))
  change_placed b place.Flight = (λ e. let none = over_some (pending.Behind b) below e in absurd (cc), λ d. absurd (cc))
  change_placed b place.Disk = (λ e. refl, λ d. refl)

  kind_placed : (k : Kind) → p.kind ≡ k → (of_kind k p.place below ≡ pending.Nothing) ↔ (p.place ≡ place.Disk)
  kind_placed (Change b at len grade) e = change_placed b p.place
  kind_placed Empty e = follower_placed (subst Follows (sym e) tt)
  kind_placed OpenGate e = let memory = H'.on_disk_with_all.open_gates p new_head e in (λ none. cc, λ d. cc)
  kind_placed SealedGate e = follower_placed (subst Follows (sym e) tt)

  change_same : (c b : ℕ) (q : Place) → IsOf b (of_change c q below) → c ≡ b
  change_same c b place.Memory w = over_same c b (pending.Block c) below (inl refl) w
  change_same c b place.Flight w = over_same c b (pending.Behind c) below (inr refl) w
  change_same c b place.Disk (inl e) = absurd (cc)
  change_same c b place.Disk (inr e) = absurd (cc)

  kind_inside : (k : Kind) (b : ℕ) → p.kind ≡ k → IsOf b (of_kind k p.place below) → b < blocks
  kind_inside (Change c at len grade) b e w = subst (λ k. k < blocks) (change_same c b p.place w) (on c (ap block_of_kind e))
  kind_inside Empty b e w = below_inside b w
  kind_inside OpenGate b e (inl w) = absurd (cc)
  kind_inside OpenGate b e (inr w) = absurd (cc)
  kind_inside SealedGate b e w = below_inside b w

  new_settled : SettledAt (pending_in nodes) blocks (new_node nodes p)
  new_settled = record { summed = refl; settled = refl; placed = kind_placed p.kind refl; inside = λ b. kind_inside p.kind b refl }

  old_told : (x : Node) → Contains nodes x → (n : ℕ) → Contains (linked_to p.dependencies p.number x).patch.dependencies n → pending_in (with_node nodes p) n ≡ pending_in nodes n
  old_told x c n named =
      same_told n (H.one_place_each.named x.patch n (patch_in nodes x c) (subst (λ (q : Patch). Contains q.dependencies n) (linked_patch p.dependencies p.number x) named))

  pub made_settled : AreSettled (with_node nodes p) blocks
  made_settled =
      settled_all (with_node nodes p) blocks (λ a ca.
      elim (made_was nodes numbers p H.one_place_each next rising live a ca) [
        | inl x ↦
            subst (SettledAt (pending_in (with_node nodes p)) blocks) x.2
            (settled_recorded (pending_in nodes) (pending_in (with_node nodes p)) blocks (linked_to p.dependencies p.number x.0) (old_told x.0 x.1)
            (settled_linked (pending_in nodes) blocks p.dependencies p.number x.0 (settled_in nodes blocks S x.0 x.1)))
        | inr d ↦
            subst (SettledAt (pending_in (with_node nodes p)) blocks) d
            (settled_recorded (pending_in nodes) (pending_in (with_node nodes p)) blocks (new_node nodes p) (λ n c. same_told n (named_small n c)) new_settled)
      ])

-- an open gate that gains names

-- what is pending of it stays
gate_settled : (told : ℕ → Pending) (blocks : ℕ) (names : List ℕ) (x : Node) → x.patch.kind ≡ OpenGate → SettledAt told blocks x → SettledAt told blocks (gains_names names (sums_of told names) x)
gate_settled told blocks names x gate s = record {
  summed = ap (λ t. together t (sums_of told names)) s.summed ∙ sym (sums_append told x.patch.dependencies names);
  settled = s.settled ∙ (ap (λ k. of_kind k x.patch.place (joined told x.patch.dependencies)) gate ∙ sym (ap (λ k. of_kind k x.patch.place (joined told (x.patch.dependencies ++ names))) gate));
  placed = s.placed;
  inside = s.inside;
}

module _ (nodes : List Node) (numbers blocks g : ℕ) (names : List ℕ) (H : SparseAreLawful (patches_in nodes) numbers) (S : AreSettled nodes blocks) (gate : IsOpenNumber (patches_in nodes) g) where
  abbrev sums : Sums
  sums = sums_of (pending_in nodes) names

  names_told : (n : ℕ) → pending_in (with_names nodes g names sums) n ≡ pending_in nodes n
  names_told n =
      ap (λ xs. pending_in xs n) (both_nodes g names sums nodes)
      ∙ pending_mapped (both g names sums) nodes n (both_number g names sums) (λ x _. linked_pending names g (at_number g (gains_names names sums) x) ∙ cond_both (x.patch.number == g) _ _ (λ (y : Node). y.pending ≡ x.pending) (λ t. refl) (λ f. refl))

  gained_settled : (x : Node) → Contains nodes x → SettledAt (pending_in nodes) blocks (at_number g (gains_names names sums) x)
  gained_settled x c =
      let s = settled_in nodes blocks S x c in
      elim (cases_eq x.patch.number g) [
        | inl e ↦
            let same = same_number (patches_in nodes) x.patch gate.patch H.one_place_each.rising (patch_in nodes x c) gate.head (e ∙ sym gate.numbered) in
            subst (SettledAt (pending_in nodes) blocks) (sym (at_same g (gains_names names sums) x e)) (gate_settled (pending_in nodes) blocks names x (ap (λ q. q.kind) same ∙ gate.is_open) s)
        | inr ne ↦ subst (SettledAt (pending_in nodes) blocks) (sym (at_other g (gains_names names sums) x ne)) s
      ]

  pub depends_settled : AreSettled (with_names nodes g names sums) blocks
  depends_settled =
      settled_all (with_names nodes g names sums) blocks (λ a ca.
      let x = named_was g names sums nodes a ca in
      settled_recorded (pending_in nodes) (pending_in (with_names nodes g names sums)) blocks a (λ n c. names_told n)
      (subst (SettledAt (pending_in nodes) blocks) x.2 (settled_linked (pending_in nodes) blocks names g (at_number g (gains_names names sums) x.0) (gained_settled x.0 x.1))))

-- what is ready is in memory
pub ready_memory : (b : ℕ) (nodes : List Node) (n : ℕ) → Contains (ready_on b nodes) n → (x : Node) × Contains nodes x × (x.patch.number ≡ n) × (x.patch.place ≡ place.Memory)
ready_memory b nodes n c =
    let r = In-unmap (λ (x : Node). x.patch.number) (filter (is_ready_on b) nodes) n (In-from_Contains _ n c) in
    let k = filter_in (is_ready_on b) nodes r.0 r.1 in
    (r.0, Contains-from_In nodes r.0 k.0, r.2, (change_at place.Memory b r.0.patch (and_parts (is_change_at place.Memory b r.0.patch) _ k.1).0).1)

-- patches that are forgotten

on_disk : (p : Place) → not (is_at p place.Disk) ≡ false → p ≡ place.Disk
on_disk place.Disk e = refl
on_disk p e = cc

pub dropped_settled : (nodes : List Node) (numbers blocks : ℕ) → SparseAreLawful (patches_in nodes) numbers → AreSettled nodes blocks → AreSettled (filter (λ x. is_live x.patch) nodes) blocks
dropped_settled nodes numbers blocks H S =
    let new = filter (λ (x : Node). is_live x.patch) nodes in
    settled_all new blocks (λ a ca.
    let was = filter_in (λ (x : Node). is_live x.patch) nodes a (In-from_Contains new a ca) in
    settled_recorded (pending_in nodes) (pending_in new) blocks a
    (λ n c. pending_dropped nodes H.one_place_each.rising (λ x h dead. (S.placed x (Contains-from_In nodes x h)).1 (on_disk x.patch.place dead)) n)
    (settled_in nodes blocks S a (Contains-from_In nodes a was.0)))
