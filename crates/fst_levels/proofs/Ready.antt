-- What is pending of a change in memory tells exactly whether it is in the writable set of its block.
use Rattle.std.proofs.Common.{◌≡◌, ◌<◌, ◌≤◌, ◌⊎◌, ℕ, zero, suc, Bool, true, not, List, [], ◌∷◌, length, get_or, Contains, refl, sym, ap, subst, ◌∙◌, inl, inr, arith}
use Rattle.std.specs.List.Sorted.{IsStrictlyIncreasing}
use Rattle.std.proofs.lemmas.Bool.{cases_Bool, and_parts, and_from, not_from_true, false≢true}
use Rattle.std.proofs.lemmas.List.Kept.{AllPairs-from_increasing}
use Rattle.fst_types.specs.{Facts.SparseAreLawful, Patches.{Patch, IsHard}}
use Rattle.fst_types.specs.{Tests.is_change_at, Writable.{IsInMemoryOn, InWritableSet, IsWritableSet, HasReady, IsHeld, IsLeastHeld}}
use Rattle.fst_types.proofs.{Finite.Contains-from_In, Landing.{change_at, at_change}}
use Rattle.fst_heads.specs.{Nodes.{Node, patches_in, AreSettled}, Pendings.is_pending, Standings.{is_held_on, is_ready_on, held_on, ready_on}, Tests.is_hard_kind}
use Rattle.fst_heads.proofs.Placed.{patch_in, node_of_patch}
use Rattle.fst_levels.proofs.{Alone.{waits_in, waits_out}, Low.{is_block, block_is}, Numbered.{rising_numbers, number_in, number_of, number_some}, Obstacles.{hard_from, hard_to}}
use Rattle.fst_types.specs.declared.place.Place.TheVariants as place
use Rattle.fst_heads.specs.declared.pending.Pending.TheVariants as pending

-- the first of rising numbers is the least
first_least : (n : ℕ) (ns : List ℕ) → IsStrictlyIncreasing (n ∷ ns) → (m : ℕ) → Contains (n ∷ ns) m → n ≤ m
first_least n ns rising m c = go c.0 c.1 c.2
  where
    go : (k : ℕ) → k < length (n ∷ ns) → get_or (n ∷ ns) k m ≡ m → n ≤ m
    go zero lt at = omega (arith, at)
    go (suc k) lt at = let r = AllPairs-from_increasing (n ∷ ns) rising 0 (suc k) m (omega arith) lt in omega (arith, r, at)

module _ (nodes : List Node) (numbers blocks : ℕ) (H : SparseAreLawful (patches_in nodes) numbers) (S : AreSettled nodes blocks) (b : ℕ) where
  -- a change of b in memory
  abbrev here : Node → Bool
  here x = is_change_at place.Memory b x.patch

  -- of which changes of b in memory alone are pending
  abbrev alone : Node → Bool
  alone x = is_pending x.pending (pending.Block b)

  in_memory : (x : Node) → Contains nodes x → here x ≡ true → IsInMemoryOn (patches_in nodes) b x.patch
  in_memory x c e = let at = change_at place.Memory b x.patch e in record { head = patch_in nodes x c; change = at.0; memory = at.1 }

  pub ready_in : (x : Node) → Contains nodes x → is_ready_on b x ≡ true → InWritableSet (patches_in nodes) b x.patch
  ready_in x c e = let k = and_parts (here x) (alone x) e in waits_in nodes numbers blocks H S b x c (in_memory x c k.0) (is_block b x.pending k.1)

  pub in_ready : (x : Node) → Contains nodes x → InWritableSet (patches_in nodes) b x.patch → is_ready_on b x ≡ true
  in_ready x c w = and_from (here x) (alone x) (at_change place.Memory b x.patch w.in_memory.change w.in_memory.memory) (block_is b x.pending (waits_out nodes numbers blocks H S b x c w))

  pub held_in : (x : Node) → Contains nodes x → is_held_on b x ≡ true → IsHeld (patches_in nodes) b x.patch
  held_in x c e =
      let k = and_parts (here x) (is_hard_kind x.patch.kind) (and_parts _ (not (alone x)) e).0 in
      record {
        in_memory = in_memory x c k.0;
        hard = hard_from x.patch.kind k.1;
        left_out = λ w. false≢true (sym (not_from_true (alone x) (block_is b x.pending (waits_out nodes numbers blocks H S b x c w))) ∙ (and_parts _ (not (alone x)) e).1);
      }

  -- a hard change in memory is ready or held
  pub ready_or_held : (x : Node) → Contains nodes x → IsInMemoryOn (patches_in nodes) b x.patch → IsHard x.patch → InWritableSet (patches_in nodes) b x.patch ⊎ (is_held_on b x ≡ true)
  ready_or_held x c m hard = elim (cases_Bool (alone x)) [
    | inl own ↦ inl (waits_in nodes numbers blocks H S b x c m (is_block b x.pending own))
    | inr more ↦ inr (rw (at_change place.Memory b x.patch m.change m.memory, hard_to x.patch.kind hard, more) refl)
  ]

  -- the node of a patch that is in the writable set, or held
  pub node_ready : (p : Patch) → InWritableSet (patches_in nodes) b p → (x : Node) × Contains nodes x × (x.patch ≡ p) × (is_ready_on b x ≡ true)
  node_ready p w = let y = node_of_patch nodes p w.in_memory.head in (y.0, y.1, y.2, in_ready y.0 y.1 (subst (InWritableSet (patches_in nodes) b) (sym y.2) w))

  pub node_held : (p : Patch) → IsHeld (patches_in nodes) b p → (x : Node) × Contains nodes x × (x.patch ≡ p) × (is_held_on b x ≡ true)
  node_held p h =
      let y = node_of_patch nodes p h.in_memory.head in
      let held = subst (IsHeld (patches_in nodes) b) (sym y.2) h in
      (y.0, y.1, y.2, elim (ready_or_held y.0 y.1 held.in_memory held.hard) [ inl w ↦ absurd (held.left_out w) | inr e ↦ e ])

  pub ready_exact : IsWritableSet (patches_in nodes) b (ready_on b nodes)
  ready_exact = record {
    rising = rising_numbers (is_ready_on b) nodes H.one_place_each.rising;
    only = λ n c. let x = number_in (is_ready_on b) nodes n c in (x.0.patch, x.3, ready_in x.0 x.1 x.2);
    each = λ n w. let y = node_ready w.0 w.2 in subst (Contains (ready_on b nodes)) (ap (λ r. r.number) y.2 ∙ w.1) (number_of (is_ready_on b) nodes y.0 y.1 y.3);
  }

  pub ready_some : 0 < length (ready_on b nodes) → HasReady (patches_in nodes) b
  ready_some some = let x = number_some (is_ready_on b) nodes some in (x.0.patch, ready_in x.0 x.1 x.2)

  pub held_none : held_on b nodes ≡ [] → (p : Patch) → IsHeld (patches_in nodes) b p → ⊥
  held_none none p h =
      let x = node_held p h in
      let c = subst (λ ns. Contains ns x.0.patch.number) none (number_of (is_held_on b) nodes x.0 x.1 x.3) in
      omega (arith, c.1)

  pub held_first : (n : ℕ) (ns : List ℕ) → held_on b nodes ≡ n ∷ ns → IsLeastHeld (patches_in nodes) b n
  held_first n ns e =
      let x = number_in (is_held_on b) nodes n (subst (λ ms. Contains ms n) (sym e) (Contains-from_In (n ∷ ns) n (inl refl))) in
      let rising = subst IsStrictlyIncreasing e (rising_numbers (is_held_on b) nodes H.one_place_each.rising) in
      record {
        patch = x.0.patch;
        numbered = x.3;
        held = held_in x.0 x.1 x.2;
        least = λ p h.
            let y = node_held p h in
            subst (λ (q : Patch). n ≤ q.number) y.2 (first_least n ns rising y.0.patch.number (subst (λ ms. Contains ms y.0.patch.number) e (number_of (is_held_on b) nodes y.0 y.1 y.3)));
      }
